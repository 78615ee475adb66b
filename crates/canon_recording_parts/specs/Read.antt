-- What reading gives, or where it stops.
use Rattle.std.specs.Prelude.{Err, List, Ok, Result, drop, length, ℕ, ⊤, ◌++◌, ◌+◌, ◌≡◌, ◌≤◌}
use Rattle.canon_recording_parts.specs.Format.{Format}
use Rattle.canon_recording_parts.specs.declared.error.ReplayError.{ReplayError}
use Rattle.canon_recording_parts.specs.declared.error.ReplayError.TheVariants as error

-- these bytes xs stand from one place to another
pub record StandBetween (bs : List ℕ) (from to : ℕ) (xs : List ℕ) : Type 0 where
  pub is : drop from bs ≡ xs ++ drop to bs
  pub to_is : to ≡ from + length xs
  pub inside : to ≤ length bs

-- Reading from place `from` on gave a thing, whose bytes end at place `to`; or it stopped at the reported place; or memory was short.
abbrev pub ReadsFormat : {A : Type 0} → Format A → List ℕ → ℕ → ℕ → Result A ReplayError → Type 0
ReadsFormat F bs from to (Ok a) = (xs : List ℕ) × StandBetween bs from to xs × F.writes a xs
ReadsFormat F bs from to (Err (error.BadRecording p)) = (j : ℕ) × (p ≡ from + j) × F.stops (drop from bs) j
ReadsFormat F bs from to (Err error.OutOfMemory) = ⊤
ReadsFormat F bs from to (Err _) = ⊥

-- these were read so far, each in its format
pub record IsReadSoFar {A : Type 0} (F : Format (List A)) (bs : List ℕ) (from to : ℕ) (things : List A) : Type 0 where
  pub xs : List ℕ
  pub span : StandBetween bs from to xs
  pub are : F.writes things xs

-- an answer, with what is said of the thing
abbrev pub seen_as : {A B : Type 0} → (A → B) → Result A ReplayError → Result B ReplayError
seen_as f (Ok a) = Ok (f a)
seen_as f (Err e) = Err e
