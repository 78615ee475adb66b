use Rattle.std.proofs.Common.{◌≡◌, [], drop}
use Rattle.serde_json.specs.View.{items_view}
use Rattle.canon_json.specs.Json.{onward}
use Rattle.canon_layout.specs.Asked as spec
use Rattle.canon_layout.proofs.funcs.add_funcs.Given as goal

-- the functions that are left take the table so far to that of all
abbrev pub invariant-loop-item : goal.invariant-loop-item
invariant-loop-item l =
    onward (spec.add_func l.types) (spec.funcs_so_far l.builder l.posts.items) (items_view (drop l.item-index l.items))
    ≡ onward (spec.add_func l.types) (spec.funcs_so_far l.fn.builder []) (items_view l.items)
