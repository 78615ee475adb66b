use Rattle.canon_recording.proofs.Below.{AllBelow}
use Rattle.canon_recording.specs.Recordable.{IsPlain}
use Rattle.canon_recording.specs.Recordings.{exports_of}
use Rattle.canon_recording.proofs.allowed.exports_are_plain.Given as goal

-- the first k reach no handle
abbrev pub invariant-loop-k : goal.invariant-loop-k
invariant-loop-k l = AllBelow (IsPlain (exports_of l.c)) l.k
