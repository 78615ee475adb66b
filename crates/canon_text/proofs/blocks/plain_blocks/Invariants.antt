use Rattle.std.proofs.Common.{length, ◌+◌, ◌-◌, ◌≤◌}
use Rattle.canon_text.specs.Runs.{run}
use Rattle.canon_text.specs.Surrogates.{HasNoSurrogate}
use Rattle.canon_text.proofs.blocks.plain_blocks.Given as goal

abbrev pub invariant-loop-count : goal.invariant-loop-count
invariant-loop-count g l = (l.from + l.count ≤ length l.src) × HasNoSurrogate (run l.src l.from l.count)

abbrev pub decreases-loop-count : goal.decreases-loop-count
decreases-loop-count g l = length l.src - (l.from + l.count)
