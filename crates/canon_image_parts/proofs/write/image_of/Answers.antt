use Rattle.std.proofs.Common.{sym}
use Rattle.canon_types.specs.Table.{shape_of}
use Rattle.canon_image_parts.proofs.WholeWriting.{imaged_plain}
use Rattle.canon_image_parts.proofs.write.image_of.Goals as goal

pub returns : goal.returns
returns c = record {
  is = imaged_plain c.new-resources.result.items c.image_listed.new.resources.items (shape_of c.args.types.now c.args.ty.now) c.args.val.now c.image_listed.result (sym c.if-not-has_no_handle.ensures) c.image_listed.ensures.is;
}
