-- What reads and writes do to the bytes that are known, and why they fail.
use Rattle.std.specs.Prelude.{ℕ, ◌+◌, ◌-◌, ◌^◌, ◌≤◌, ◌<◌, min, List, length, take, Option, Result, Ok, Err, ◌≡◌}
use Rattle.std.specs.Io.KnownBytes.{Appends, Consumes}
use Rattle.canon_memory.specs.Counts.{Rose}

-- The count of faults stands still where nothing failed, and rises where something did.
abbrev pub CountsFaults : {T E : Type 0} → ℕ → ℕ → Result T E → Type 0
CountsFaults before now (Ok x) = now ≡ before
CountsFaults before now (Err e) = (before ≤ now) × Rose before now

-- a prefix of the piece was taken, and not all of it
abbrev pub AppendsPrefix : Option (List ℕ) → Option (List ℕ) → List ℕ → Type 0
AppendsPrefix old new piece = (n : ℕ) × (n < length piece) × Appends old new (take n piece)

-- at most so many bytes were taken
abbrev pub TakesAtMost : ℕ → Option (List ℕ) → Option (List ℕ) → Type 0
TakesAtMost most old new = (bytes : List ℕ) × Consumes old new bytes × (length bytes ≤ most)

-- the number of the next call, counted from 1 and standing still at the end of a `u64`
abbrev pub next_call : ℕ → ℕ
next_call calls = min (calls + 1) (2 ^ 64 - 1)

-- what contracts see of a source in memory: the bytes that are left, how many it gives at once, which calls fail, and
-- how many calls and faults there were
pub record Feeding : Type 0 where
  pub left : List ℕ
  pub chunk : ℕ
  pub fails : List ℕ
  pub calls : ℕ
  pub faults : ℕ

-- and of a sink in memory: the bytes that it took, and the same
pub record Taking : Type 0 where
  pub taken : List ℕ
  pub chunk : ℕ
  pub fails : List ℕ
  pub calls : ℕ
  pub faults : ℕ

-- and of a reader or a writer of std with its count of faults
pub record Counted (R : Type 0) : Type 0 where
  pub stream : R
  pub faults : ℕ
