use Rattle.std.proofs.Common.{refl}
use Rattle.canon_model.specs.Shape.{list, of_items}
use Rattle.canon_types.specs.Table.{shape_of}
use Rattle.canon_types.specs.declared.types.InterfaceType.TheVariants as ty
use Rattle.canon_value_parts.specs.Fails.{mismatch}
use Rattle.canon_value_parts.proofs.Steps.{own_failure}
use Rattle.canon_plan.proofs.Lookups.{list_shape}
use Rattle.canon_value_parts.proofs.view.list_view.Goals as goal

pub returns-in_default : goal.returns-in_default
returns-in_default c =
    let t = c.args.types.now in
    own_failure mismatch (list of_items (shape_of t c.list.result.now.element)) (shape_of t (ty.List c.args.i)) c.args.value.now c.args.place
    (list_shape t t c.args.i c.list.result.now.element refl c.list.ensures.entry) (λ members e. c.in_default.not-List members e)
