-- A number of words as it is counted, and as it is printed.
use Rattle.std.proofs.Common.{◌≡◌, ℕ, Bool, true, false, nat_le, if◌then◌else◌, None, Some, refl}
use Rattle.std.specs.Prelude.{codes}
use Rattle.std.specs.Fmt.{decimal}
use Rattle.canon_abi.specs.Numbers.{flat_within}
use Rattle.canon_layout.specs.Lines.{flat_text}

pub flat_told : (words flat : ℕ) → Some flat ≡ flat_within words → flat_text words ≡ decimal flat
flat_told words flat e = by_test (nat_le words 16) e
  where
    by_test : (b : Bool) → Some flat ≡ (if b then Some words else None) → (if b then decimal words else codes "-") ≡ decimal flat
    by_test true h = cc
    by_test false h = cc

pub flat_untold : (words : ℕ) → None ≡ flat_within words → flat_text words ≡ codes "-"
flat_untold words e = by_test (nat_le words 16) e
  where
    by_test : (b : Bool) → None ≡ (if b then Some words else None) → (if b then decimal words else codes "-") ≡ codes "-"
    by_test true h = cc
    by_test false h = refl
