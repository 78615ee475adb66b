use Rattle.std.proofs.Common.{◌≡◌, ◌≤◌, ◌+◌, drop}
use Rattle.std.specs.List.{sum_by}
use Rattle.canon_script.specs.Actions.{asks_by}
use Rattle.canon_script.specs.Script.{max_work}
use Rattle.canon_script.proofs.limits.asked.Given as goal

-- the times so far and the asks of the actions that are left are all
abbrev pub invariant-loop-action : goal.invariant-loop-action
invariant-loop-action l = (l.times + sum_by asks_by (drop l.action-index l.actions) ≡ l.fn.times + sum_by asks_by l.actions) × (l.times ≤ max_work)
