use Rattle.std.proofs.Common.{◌≡◌, ◌++◌, drop, map, option_map}
use Rattle.serde_json.specs.View.{items_view}
use Rattle.canon_json.specs.Json as spec
use Rattle.canon_json.proofs.read.each.Given as goal

-- the items so far and those that are left are all of them
abbrev pub invariant-loop-item : goal.invariant-loop-item
invariant-loop-item g l =
    let reads = g.R.Reader.reads l.reader in
    option_map (λ xs. map g.R.Reader.seen l.found.items ++ xs) (spec.each reads (items_view (drop l.item-index l.items))) ≡ spec.each reads (items_view l.items)
