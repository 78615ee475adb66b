use Rattle.std.proofs.Common.{◌≡◌, drop}
use Rattle.serde_json.specs.View.{items_view}
use Rattle.canon_json.specs.Json.{onward}
use Rattle.canon_layout.specs.Asked as spec
use Rattle.canon_layout.proofs.entries.add_entries.Given as goal

-- the entries that are left take the types so far to those of all
abbrev pub invariant-loop-item : goal.invariant-loop-item
invariant-loop-item l = onward spec.add_entry (spec.listed_so_far l.builder l.types.items) (items_view (drop l.item-index l.items)) ≡ spec.types_over l.fn.builder (items_view l.items)
