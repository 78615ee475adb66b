use Rattle.std.proofs.Common.{None, Option, Some, ap, subst, sym, ◌∙◌, ◌≡◌}
use Rattle.canon_model.specs.Shape.{of_places, product}
use Rattle.canon_plan.proofs.Lookups.{tuple_shape_of}
use Rattle.canon_types.specs.Table.{shape_of, tuple_members}
use Rattle.canon_types.specs.declared.types.InterfaceType.TheVariants as ty
use Rattle.canon_types.specs.declared.types.TypeFunc.{TypeFunc}
use Rattle.canon_context.specs.declared.component.Component.{Component}
use Rattle.canon_context.specs.declared.component.Export.{Export}
use Rattle.canon_func.specs.Stores.{callee_in, results_in, type_in}
use Rattle.canon_replay.specs.Calls.{ComparesImages, results_shape_in}
use Rattle.canon_replay.proofs.calls.have_recorded.Goals as goal

pub returns-clause-compares : goal.returns-clause-compares
returns-clause-compares c =
    let types = c.types-types.ensures ∙ ap (λ x. x.types.types) (c.component.ensures.component ∙ ap (λ k. k.component) c.core.ensures) in
    rw c.ty-ty.ensures.found (subst (λ t. ComparesImages (shape_of t (ty.Tuple c.ty-ty.result.now.results)) c.args.results.items c.args.recorded.items c.have_one_image.result) types c.have_one_image.ensures.compares)

-- the results of an export whose type is known
tuple_of : (c : Component) (o : Option Export) (f : TypeFunc) → type_in c o ≡ Some f → shape_of c.types.types (ty.Tuple f.results) ≡ product of_places (tuple_members c.types.types f.results)
    → results_shape_in c.types.types (type_in c o) ≡ product of_places (callee_in c o).results
tuple_of c None f e h = cc
tuple_of c (Some x) f e h = subst (λ (o : Option TypeFunc). results_shape_in c.types.types o ≡ product of_places (results_in c.types.types o)) (sym e) h

pub returns-clause-tuple : goal.returns-clause-tuple
returns-clause-tuple c =
    let types = c.types-types.ensures ∙ ap (λ x. x.types.types) (c.component.ensures.component ∙ ap (λ k. k.component) c.core.ensures) in
    tuple_of c.args.store.now.core.component _ c.ty-ty.result.now c.ty-ty.ensures.found (tuple_shape_of _ _ c.ty-ty.result.now.results _ types c.tuple-tuple.ensures.entry c.tuple-tuple.ensures.types)
