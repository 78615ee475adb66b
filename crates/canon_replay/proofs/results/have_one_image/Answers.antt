use Rattle.canon_types.specs.Table.{shape_of}
use Rattle.canon_types.specs.declared.types.InterfaceType.TheVariants as type
use Rattle.canon_replay.proofs.Comparing.{lent_compared, short_compared}
use Rattle.canon_replay.proofs.results.have_one_image.Goals as goal

pub returns-in_err-bytes : goal.returns-in_err-bytes
returns-in_err-bytes c = record {
  compares = short_compared (shape_of c.args.types.now (type.Tuple c.args.tuple)) c.args.values.items c.args.others.items c.in_err-bytes.field-0.0 c.from_residual.result c.from_residual.ensures c.in_err-bytes.ensures.short;
}

pub returns-in_err-other : goal.returns-in_err-other
returns-in_err-other c = record {
  compares = short_compared (shape_of c.args.types.now (type.Tuple c.args.tuple)) c.args.values.items c.args.others.items c.in_err-other.field-0.0 c.from_residual-in_err-other.result
      c.from_residual-in_err-other.ensures c.in_err-other.ensures.short;
}

pub returns : goal.returns
returns c = record {
  compares = lent_compared (shape_of c.args.types.now (type.Tuple c.args.tuple)) c.args.values.items c.args.others.items c.in_ok-bytes.bytes.items c.in_ok-other.other.items c.as_slice.result.now c.as_slice-2.result.now c.same_bytes.result
      c.as_slice.ensures.value c.as_slice-2.ensures.value c.in_ok-bytes.ensures.image c.in_ok-other.ensures.image c.same_bytes.ensures;
}
