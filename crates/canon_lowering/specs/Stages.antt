-- A moment of a guest, and how the guest goes on from there.
use Rattle.std.specs.Prelude.{List, length, ℕ, ⊤, ◌++◌}
use Rattle.canon_memory.specs.declared.event.Event.{Event}
use Rattle.canon_memory.specs.Guest.{Moment, Seen, moment}

-- What is seen of a guest and its memory at a time. In a memory of n bytes it goes on by these events to k, where `on n events k`
-- holds.
pub record Stage (K : Type 0) : Type 1 where
  pub guest : Seen
  pub bytes : List ℕ
  pub on : ℕ → List Event → K → Type 0

abbrev pub moment_at : {K : Type 0} → Stage K → Moment
moment_at s = moment s.guest s.bytes

-- the same guest, with these bytes in its memory
abbrev pub holding : {K : Type 0} → Stage K → List ℕ → Stage K
holding s bytes = record s { bytes = bytes }

-- From one stage to the other the guest went by these events: what it goes on to from the later one, it goes to from the earlier one
-- by these events first.
abbrev pub GoesBy : {K : Type 0} → Stage K → Stage K → List Event → Type 0
GoesBy {K} before after events = (more : List Event) (k : K) → after.on (length after.bytes) more k → before.on (length before.bytes) (events ++ more) k

-- a moment, where nothing is said of how the guest goes on
abbrev pub bare : Moment → Stage (Unit {0})
bare m = record { guest = m.guest; bytes = m.bytes; on = λ n events k. ⊤ }
