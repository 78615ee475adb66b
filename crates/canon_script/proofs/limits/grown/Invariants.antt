use Rattle.std.proofs.Common.{◌≡◌, ◌≤◌, ◌+◌, drop}
use Rattle.std.specs.List.{sum_by}
use Rattle.canon_script.specs.Actions.{growth_by}
use Rattle.canon_script.specs.Script.{max_memory}
use Rattle.canon_script.proofs.limits.grown.Given as goal

-- the bytes so far and what the actions that are left add are all
abbrev pub invariant-loop-action : goal.invariant-loop-action
invariant-loop-action l = (l.bytes + sum_by growth_by (drop l.action-index l.actions) ≡ l.fn.bytes + sum_by growth_by l.actions) × (l.bytes ≤ max_memory)
