-- The words of the command `gen`, and how it ends.
use Rattle.std.specs.Prelude.{◌≡◌, ℕ, ◌⊎◌, ◌&&◌, ◌==◌, Bool, true, false, not, List, [], ◌∷◌, length, nat_eq, nat_le, codes, if◌then◌else◌, Option, None, Some, String, string_bytes}
use lib.Pointwise.{pointwise}
use Rattle.std.specs.Str.{all_ascii_digits}
use Rattle.std.specs.Str.Parse.{digits_value}
use Rattle.std.specs.declared.alloc.Global.{Global}
use Rattle.canon_cli.specs.declared.status.Status.{Status}

-- not empty, and with no zero at its front but in 0 itself
abbrev pub starts_well : List ℕ → Bool
starts_well [] = false
starts_well (d ∷ []) = true
starts_well (d ∷ e ∷ ds) = not (d == 48)

-- one to five decimal digits
abbrev pub is_count : List ℕ → Bool
is_count word = starts_well word && (nat_le (length word) 5 && all_ascii_digits word)

abbrev pub max_count : ℕ
max_count = 20000

abbrev pub if_few : ℕ → Option ℕ
if_few n = if nat_le n max_count then Some n else None

-- the number that such digits write, at most 20,000
abbrev pub count_of : List ℕ → Option ℕ
count_of word = if is_count word then if_few (digits_value 10 word) else None

-- the number of the words `gen N`
abbrev pub gen_of : List (String Global) → Option ℕ
gen_of [] = None
gen_of (word ∷ []) = None
gen_of (word ∷ count ∷ []) = if pointwise nat_eq (string_bytes word) (codes "gen") then count_of (string_bytes count) else None
gen_of (word ∷ count ∷ other ∷ words) = None

-- all written (0), a failed write (4) or out of memory (5)
abbrev pub IsGenStatus : Status → Type 0
IsGenStatus s = (s.0 ≡ 0) ⊎ ((s.0 ≡ 4) ⊎ (s.0 ≡ 5))
