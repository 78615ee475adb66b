use Rattle.std.proofs.Common.{◌≡◌, ◌≤◌, ◌+◌, drop, map}
use Rattle.canon_script.specs.Script.{item_view, max_work, times_entered}
use Rattle.canon_script.proofs.limits.times_entered.Given as goal

-- the times so far and the asks of the items that are left are all
abbrev pub invariant-loop-item : goal.invariant-loop-item
invariant-loop-item l = (l.times + times_entered (map item_view (drop l.item-index l.items)) ≡ times_entered (map item_view l.items)) × (l.times ≤ max_work)
