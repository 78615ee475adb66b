use Rattle.std.proofs.Common.{ap, arith, false}
use Rattle.canon_context.specs.Core.{component_types}
use Rattle.canon_model.proofs.Layouts.{tag-le-size}
use Rattle.canon_model.specs.Layout.{size}
use Rattle.canon_types.specs.Depth.{variant_cases}
use Rattle.canon_types.specs.Table.{shape_of}
use Rattle.canon_lower_parts.proofs.cases.put_case.Goals as goal

pub put-requires-clause-room : goal.put-requires-clause-room
put-requires-clause-room g c =
    let s = shape_of (component_types c.args.cx.now.core.now) c.args.ty in
    let (k, is) = c.requires.cases in
    omega (arith, c.requires.room, c.byte_size.ensures, c.requires.info.size, tag-le-size false k (variant_cases s), ap (size false) is)
