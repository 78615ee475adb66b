use Rattle.std.proofs.Common.{length, ◌+◌, ◌-◌}
use Rattle.canon_text.specs.Runs.{Spreads}
use Rattle.canon_text.proofs.spread.spread_each.Given as goal

abbrev pub invariant-loop-count : goal.invariant-loop-count
invariant-loop-count l = Spreads l.src l.initial.dst l.dst l.from l.at l.count

abbrev pub decreases-loop-count : goal.decreases-loop-count
decreases-loop-count l = length l.src - (l.from + l.count)
