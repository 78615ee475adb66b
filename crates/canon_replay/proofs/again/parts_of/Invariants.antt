use Rattle.std.proofs.Common.{length, ◌++◌, ◌≡◌}
use Rattle.std.specs.Vec.Iter.{into_iter_items, into_iter_len}
use Rattle.canon_replay.proofs.Splitting.{ArePartsOf}
use Rattle.canon_replay.proofs.again.parts_of.Given as goal

-- the parts of the calls so far
abbrev pub invariant-loop-call : goal.invariant-loop-call
invariant-loop-call l = (l.yielded ++ into_iter_items l.call-iterator ≡ into_iter_items l.initial.call-iterator) × ArePartsOf l.yielded l.parts × (into_iter_len l.call-iterator ≡ length (into_iter_items l.call-iterator))
