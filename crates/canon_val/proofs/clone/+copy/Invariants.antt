-- The copies so far.
use Rattle.std.proofs.Common.{◌≡◌, map, take}
use Rattle.canon_val.specs.Equal.{data_of, pair_data}
use Rattle.canon_val.specs.Value.{names_in, values_in}
use Rattle.canon_val.proofs.clone.+copy.Given as goal

abbrev pub invariant-copy_row-loop-value : goal.invariant-copy_row-loop-value
invariant-copy_row-loop-value l = map data_of l.copies.items ≡ map data_of (take l.value-index l.values)

abbrev pub invariant-copy_pairs-loop-pair : goal.invariant-copy_pairs-loop-pair
invariant-copy_pairs-loop-pair l = map pair_data l.copies.items ≡ map pair_data (take l.pair-index l.pairs)

abbrev pub invariant-copy_fields-loop-field : goal.invariant-copy_fields-loop-field
invariant-copy_fields-loop-field l = (names_in l.copies.items ≡ names_in (take l.field-index l.fields)) × (map data_of (values_in l.copies.items) ≡ map data_of (values_in (take l.field-index l.fields)))
