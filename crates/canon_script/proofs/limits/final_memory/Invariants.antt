use Rattle.std.proofs.Common.{◌≡◌, ◌≤◌, drop, map}
use Rattle.canon_script.specs.Script.{final_memory, item_view, max_memory}
use Rattle.canon_script.proofs.limits.final_memory.Given as goal

-- the bytes so far, grown by the items that are left, are those at the end
abbrev pub invariant-loop-item : goal.invariant-loop-item
invariant-loop-item l = (final_memory l.bytes (map item_view (drop l.item-index l.items)) ≡ final_memory l.memory (map item_view l.items)) × (l.bytes ≤ max_memory)
