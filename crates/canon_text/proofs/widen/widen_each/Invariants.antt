use Rattle.std.proofs.Common.{◌-◌}
use Rattle.canon_text.specs.Runs.{Copies}
use Rattle.canon_text.proofs.widen.widen_each.Given as goal

abbrev pub invariant-loop-count : goal.invariant-loop-count
invariant-loop-count l = Copies 128 l.src l.initial.dst l.dst l.from l.at l.count

abbrev pub decreases-loop-count : goal.decreases-loop-count
decreases-loop-count l = l.room - l.count
