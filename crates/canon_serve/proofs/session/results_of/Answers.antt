use Rattle.std.proofs.Common.{ap, refl, subst, ◌∙◌}
use Rattle.canon_image_parts.specs.Written.{IsListedImage}
use Rattle.canon_types.specs.Table.{shape_of}
use Rattle.canon_types.specs.declared.types.InterfaceType.TheVariants as ty
use Rattle.canon_val.specs.declared.val.Val.TheVariants as val
use Rattle.canon_serve.proofs.session.results_of.Goals as goal

pub returns-in-Ok : goal.returns-in-Ok
returns-in-Ok g c =
    let types = c.types-types.ensures ∙ ap (λ x. x.types.types) (c.component.ensures.component ∙ ap (λ k. k.component) c.core.ensures) in
    let before = c.args.list.now.items in
    let after = c.image_values.new.list.items in
    rw c.ty-ty.ensures.found (c.args.results, refl, subst (λ t. IsListedImage before after (shape_of t (ty.Tuple c.ty-ty.result.now.results)) (val.Tuple c.args.results) c.in-Ok.bytes.items) types c.in-Ok.ensures)
