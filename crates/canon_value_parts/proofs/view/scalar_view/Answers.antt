use Rattle.std.proofs.Common.{refl}
use Rattle.canon_model.specs.Shape.{scalar}
use Rattle.canon_types.specs.Table.{shape_of}
use Rattle.canon_value_parts.specs.Fails.{mismatch}
use Rattle.canon_value_parts.proofs.Steps.{own_failure}
use Rattle.canon_plan.proofs.ScalarTypes.{scalar_shape}
use Rattle.canon_value_parts.proofs.view.scalar_view.Goals as goal

pub returns-in-None : goal.returns-in-None
returns-in-None c =
    let t = c.args.types.now in
    let (k, e) = c.requires.scalar in
    own_failure mismatch (scalar k) (shape_of t c.args.ty.now) c.args.value.now c.args.place (scalar_shape t c.args.ty.now k e) (c.in-None.ensures.none refl k e)
