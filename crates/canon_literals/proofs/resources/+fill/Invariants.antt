-- The copies so far.
use Rattle.std.proofs.Common.{◌≡◌, map, take}
use Rattle.canon_literals.specs.Literals.{listed_resource, literals_view, pairs_view, replaced}
use Rattle.canon_literals.specs.Resources.{field_replaced, field_view, pair_replaced}
use Rattle.canon_literals.proofs.resources.+fill.Given as goal

abbrev pub invariant-fill_row-loop-value : goal.invariant-fill_row-loop-value
invariant-fill_row-loop-value l = literals_view l.filled.items ≡ map (replaced (listed_resource l.list)) (literals_view (take l.value-index l.values))

abbrev pub invariant-fill_pairs-loop-pair : goal.invariant-fill_pairs-loop-pair
invariant-fill_pairs-loop-pair l = pairs_view l.filled.items ≡ map (pair_replaced (listed_resource l.list)) (pairs_view (take l.pair-index l.pairs))

abbrev pub invariant-fill_fields-loop-field : goal.invariant-fill_fields-loop-field
invariant-fill_fields-loop-field l = map field_view l.filled.items ≡ map (field_replaced (listed_resource l.list)) (map field_view (take l.field-index l.fields))
