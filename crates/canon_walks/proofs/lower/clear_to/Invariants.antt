-- The words before this one are 0, from the first on.
use Rattle.canon_passing.specs.Words.{Clears}
use Rattle.canon_walks.proofs.lower.clear_to.Given as goal

abbrev pub invariant-loop-k : goal.invariant-loop-k
invariant-loop-k l = Clears l.from.word l.k l.fn.dst l.dst
