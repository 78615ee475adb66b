use Rattle.canon_types.specs.Table.{shape_of}
use Rattle.canon_image_parts.proofs.Exact.{same_numbered}
use Rattle.canon_image.proofs.read.read_numbered_image.Goals as goal

pub returns-clause-only : goal.returns-clause-only
returns-clause-only c = λ other h. same_numbered (shape_of c.args.types.now c.args.ty.now) c.args.bytes.now c.read_numbered.result other c.read_numbered.ensures.is h
