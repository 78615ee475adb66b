use Rattle.std.proofs.Common.{sym}
use Rattle.canon_types.specs.Table.{shape_of}
use Rattle.canon_image_parts.proofs.WholeReading.{read_plain}
use Rattle.canon_image_parts.proofs.read.read_whole.Goals as goal

pub returns : goal.returns
returns c = record {
  is = read_plain (shape_of c.args.types.now c.args.ty.now) c.args.bytes.now c.read_numbered.result (sym c.if-not-has_no_handle.ensures) c.read_numbered.ensures.is;
}
