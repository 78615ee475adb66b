use Rattle.std.proofs.Common.{◌≡◌, refl, subst, sym}
use Rattle.canon_model.specs.Shape.{Shape, list, of_items}
use Rattle.canon_types.specs.Depth.{element_shape}
use Rattle.canon_types.specs.Table.{shape_of}
use Rattle.canon_types.specs.declared.types.InterfaceType.TheVariants as ty
use Rattle.canon_plan.proofs.Lookups.{list_known, list_shape}
use Rattle.canon_plan.proofs.plan.list_plan.Goals as goal

pub returns : goal.returns
returns c =
    let t = c.args.types.now in
    let element = c.list.result.now.element in
    let s = shape_of t (ty.List c.args.i) in
    let e : s ≡ list of_items (shape_of t element) = list_shape t t c.args.i element refl c.list.ensures.entry in
    (list_known t t c.args.i element refl c.list.ensures.entry, e, subst (λ (x : Shape). x ≡ list of_items (element_shape x)) (sym e) refl)
