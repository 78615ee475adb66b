use Rattle.canon_types.specs.Table.{all_shapes}
use Rattle.canon_layout.proofs.Offsets.{member_fits, layout_next_type, rest_ends, rest_printed}
use Rattle.canon_layout.proofs.lines.print_members.Goals as goal

pub next_field32_size-start-requires : goal.next_field32_size-start-requires
next_field32_size-start-requires c =
    let split = layout_next_type (all_shapes c.args.table.now) c.args.types.now c.loop-ty.ty-index c.ty-item.result c.loop-ty-test.true c.ty-item.is in
    record { fits = member_fits _ _ _ _ c.canonical_abi.result.now c.loop-ty.end split c.canonical_abi.ensures _ c.loop-ty.invariant.ends c.requires.fits }

pub loop-ty-preserved : goal.loop-ty-preserved
loop-ty-preserved c =
    let split = layout_next_type (all_shapes c.args.table.now) c.args.types.now c.loop-ty.ty-index c.ty-item.result c.loop-ty-test.true c.ty-item.is in
    let abi = c.canonical_abi.result.now in
    let placed = c.next_field32_size-start.ensures in
    record {
      ends = rest_ends _ _ _ _ abi c.loop-ty.end split c.canonical_abi.ensures _ _ placed.end c.loop-ty.invariant.ends;
      printed = rest_printed _ _ _ _ abi c.loop-ty.end split c.canonical_abi.ensures _ _ _ _ _ placed.start placed.end c.in_ok-write.ensures.bytes c.loop-ty.invariant.printed;
    }
