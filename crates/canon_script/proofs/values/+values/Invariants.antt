use Rattle.std.proofs.Common.{◌≡◌, ◌+◌, ◌*◌, ◌++◌, drop, option_map}
use Rattle.serde_json.specs.Data.{depth}
use Rattle.serde_json.specs.View.{items_view, view}
use Rattle.canon_literals.specs.Literals.{fields_view, literals_view, pairs_view}
use Rattle.canon_script.specs.Values.{named_literals, pairs_in, values_of}
use Rattle.canon_script.proofs.Cases.{depth_of}
use Rattle.canon_script.proofs.values.+values.Given as goal

abbrev pub decreases-value_of : goal.decreases-value_of
decreases-value_of c = 4 * depth (view c.v.now)

abbrev pub decreases-value_by : goal.decreases-value_by
decreases-value_by c = 4 * depth (view c.form.now) + 3

abbrev pub decreases-some_of : goal.decreases-some_of
decreases-some_of c = 4 * depth (view c.v.now) + 1

abbrev pub decreases-optional_of : goal.decreases-optional_of
decreases-optional_of c = 4 * depth (view c.v.now) + 2

-- of what is to be read, which may be nothing
abbrev pub decreases-payload_of : goal.decreases-payload_of
decreases-payload_of c = 4 * depth_of (option_map (λ x. view x.now) c.v) + 2

abbrev pub decreases-variant_of : goal.decreases-variant_of
decreases-variant_of c = 4 * depth (view c.v.now) + 2

abbrev pub decreases-result_of : goal.decreases-result_of
decreases-result_of c = 4 * depth (view c.v.now) + 2

abbrev pub decreases-values_of : goal.decreases-values_of
decreases-values_of c = 4 * depth (view c.v.now) + 2

abbrev pub decreases-record_of : goal.decreases-record_of
decreases-record_of c = 4 * depth (view c.v.now) + 2

abbrev pub decreases-pairs_of : goal.decreases-pairs_of
decreases-pairs_of c = 4 * depth (view c.v.now) + 2

abbrev pub decreases-pair_of : goal.decreases-pair_of
decreases-pair_of c = 4 * depth (view c.v.now) + 2

-- the members so far and those that are left are all of them
abbrev pub invariant-values_of-loop-item : goal.invariant-values_of-loop-item
invariant-values_of-loop-item l = option_map (λ xs. literals_view l.values.items ++ xs) (values_of (items_view (drop l.item-index l.item-items))) ≡ values_of (items_view l.item-items)

-- the fields so far and those that are left are all of them
abbrev pub invariant-record_of-loop-item : goal.invariant-record_of-loop-item
invariant-record_of-loop-item l = option_map (λ fs. fields_view l.fields.items ++ fs) (named_literals (items_view (drop l.item-index l.item-items))) ≡ named_literals (items_view l.item-items)

-- the pairs so far and those that are left are all of them
abbrev pub invariant-pairs_of-loop-item : goal.invariant-pairs_of-loop-item
invariant-pairs_of-loop-item l = option_map (λ ps. pairs_view l.pairs.items ++ ps) (pairs_in (items_view (drop l.item-index l.item-items))) ≡ pairs_in (items_view l.item-items)
