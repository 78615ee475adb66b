-- The resources so far and those of what is left are all of them.
use Rattle.std.proofs.Common.{◌≡◌, ◌++◌, drop}
use Rattle.canon_literals.specs.Resources.{pair_resources}
use Rattle.canon_value_parts.specs.Resources.{all_resources}
use Rattle.canon_val.specs.Value.{values_in}
use Rattle.canon_literals.proofs.resources.+collect.Given as goal

abbrev pub invariant-collect_row-loop-value : goal.invariant-collect_row-loop-value
invariant-collect_row-loop-value l = l.found.items ++ all_resources (drop l.value-index l.values) ≡ l.initial.found.items ++ all_resources l.values

abbrev pub invariant-collect_pairs-loop-pair : goal.invariant-collect_pairs-loop-pair
invariant-collect_pairs-loop-pair l = l.found.items ++ pair_resources (drop l.pair-index l.pairs) ≡ l.initial.found.items ++ pair_resources l.pairs

abbrev pub invariant-collect_fields-loop-field : goal.invariant-collect_fields-loop-field
invariant-collect_fields-loop-field l = l.found.items ++ all_resources (values_in (drop l.field-index l.fields)) ≡ l.initial.found.items ++ all_resources (values_in l.fields)
