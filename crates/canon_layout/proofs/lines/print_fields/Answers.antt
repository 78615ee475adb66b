use Rattle.canon_types.specs.Table.{all_shapes}
use Rattle.canon_layout.proofs.Offsets.{layout_field_known, member_fits, next_field, rest_ends, rest_printed}
use Rattle.canon_layout.proofs.lines.print_fields.Goals as goal

pub next_field32_size-start-requires : goal.next_field32_size-start-requires
next_field32_size-start-requires c =
    let split = next_field (all_shapes c.args.table.now) c.args.fields.now c.loop-field.field-index c.field-item.result c.loop-field-test.true c.field-item.is in
    record { fits = member_fits _ _ _ _ c.canonical_abi.result.now c.loop-field.end split c.canonical_abi.ensures _ c.loop-field.invariant.ends c.requires.fits }

pub loop-field-preserved : goal.loop-field-preserved
loop-field-preserved c =
    let split = next_field (all_shapes c.args.table.now) c.args.fields.now c.loop-field.field-index c.field-item.result c.loop-field-test.true c.field-item.is in
    let abi = c.canonical_abi.result.now in
    let placed = c.next_field32_size-start.ensures in
    record {
      ends = rest_ends _ _ _ _ abi c.loop-field.end split c.canonical_abi.ensures _ _ placed.end c.loop-field.invariant.ends;
      printed = rest_printed _ _ _ _ abi c.loop-field.end split c.canonical_abi.ensures _ _ _ _ _ placed.start placed.end c.in_ok-write.ensures.bytes c.loop-field.invariant.printed;
    }

pub canonical_abi-requires : goal.canonical_abi-requires
canonical_abi-requires c = layout_field_known c.args.table.now c.args.fields.now c.loop-field.field-index c.field-item.result c.requires.known c.loop-field-test.true c.field-item.is
