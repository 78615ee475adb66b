use Rattle.std.proofs.Common.{length, ◌-◌, ◌≤◌}
use Rattle.canon_text.specs.Runs.{AllBelow, run}
use Rattle.canon_text.proofs.compact.is_latin1.Given as goal

abbrev pub invariant-loop-at : goal.invariant-loop-at
invariant-loop-at l = (l.at ≤ length l.src) × AllBelow 256 (run l.src 0 l.at)

abbrev pub decreases-loop-at : goal.decreases-loop-at
decreases-loop-at l = length l.src - l.at
