use Rattle.std.proofs.Common.{length, ◌+◌, ◌-◌, ◌≤◌}
use Rattle.canon_text.specs.Runs.{AllBelow, run}
use Rattle.canon_text.proofs.blocks.blocks_below.Given as goal

abbrev pub invariant-loop-count : goal.invariant-loop-count
invariant-loop-count g l = (l.from + l.count ≤ length l.src) × AllBelow l.limit (run l.src l.from l.count)

abbrev pub decreases-loop-count : goal.decreases-loop-count
decreases-loop-count g l = length l.src - (l.from + l.count)
