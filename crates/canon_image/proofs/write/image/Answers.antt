use Rattle.canon_types.specs.Table.{shape_of}
use Rattle.canon_image_parts.proofs.Exact.{same_image}
use Rattle.canon_image.proofs.write.image.Goals as goal

pub returns-clause-only : goal.returns-clause-only
returns-clause-only c = λ other h. same_image (shape_of c.args.types.now c.args.ty.now) c.args.val.now c.image_of.result other c.image_of.ensures.is h
