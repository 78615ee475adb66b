-- What writing adds to some bytes. A recording has at most 2^30 of them.
use Rattle.std.specs.Prelude.{Err, List, Ok, Result, length, ℕ, ⊤, ◌++◌, ◌+◌, ◌<◌, ◌^◌, ◌≡◌, ◌≤◌}
use Rattle.canon_recording_parts.specs.Format.{Format}
use Rattle.canon_recording_parts.specs.declared.error.ReplayError.{ReplayError}
use Rattle.canon_recording_parts.specs.declared.error.ReplayError.TheVariants as error

-- the thing was written at the end of these bytes, which are few enough
pub record IsAdded {A : Type 0} (F : Format A) (a : A) (old new : List ℕ) : Type 0 where
  pub xs : List ℕ
  pub is : new ≡ old ++ xs
  pub written : F.writes a xs
  pub few : length old ≤ 2 ^ 30 → length new ≤ 2 ^ 30

-- It was; or with each way to write it there are too many bytes; or memory was short.
abbrev pub WritesFormat : {A : Type 0} → Format A → A → List ℕ → List ℕ → Result (Unit {0}) ReplayError → Type 0
WritesFormat F a old new (Ok done) = IsAdded F a old new
WritesFormat {A} F a old new (Err error.TooLong) = (xs : List ℕ) → F.writes a xs → 2 ^ 30 < length old + length xs
WritesFormat F a old new (Err error.OutOfMemory) = ⊤
WritesFormat F a old new (Err _) = ⊥
