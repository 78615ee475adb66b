use Rattle.canon_memory.specs.Watch.{BytesMoved}
use Rattle.canon_memory.proofs.law.are_same_past.Given as goal

abbrev pub invariant-loop-k : goal.invariant-loop-k
invariant-loop-k l = BytesMoved l.before l.at l.after l.to l.k
