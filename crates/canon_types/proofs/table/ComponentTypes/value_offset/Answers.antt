use Rattle.std.proofs.Common.{arith}
use Rattle.canon_types.proofs.Laid.{pair_fits}
use Rattle.canon_types.proofs.table.ComponentTypes.value_offset.Goals as goal

pub next_field-requires-2 : goal.next_field-requires-2
next_field-requires-2 c = record {
  fits = omega (arith, pair_fits c.args.wide c.canonical_abi.result.now c.canonical_abi-2.result.now _ _ c.next_field.new.offset c.canonical_abi.ensures c.canonical_abi-2.ensures c.next_field.ensures.end c.requires.fits);
}

pub overflow_cast-result : goal.overflow_cast-result
overflow_cast-result c =
    omega (arith, c.next_field-2.ensures.start, pair_fits c.args.wide c.canonical_abi.result.now c.canonical_abi-2.result.now _ _ c.next_field.new.offset c.canonical_abi.ensures c.canonical_abi-2.ensures c.next_field.ensures.end c.requires.fits)
