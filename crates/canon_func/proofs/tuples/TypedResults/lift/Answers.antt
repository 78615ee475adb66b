use Rattle.std.proofs.Common.{Err, Ok, ap, subst, sym, ◌∙◌, ◌≡◌}
use Rattle.std.specs.Prelude.{false, slice_get}
use Rattle.canon_context.specs.Core.{component_types}
use Rattle.canon_model.specs.Shape.{Members, of_places, product}
use Rattle.canon_types.specs.Depth.{member_borrows}
use Rattle.canon_types.specs.Table.{TypeTable, shape_of, tuple_members}
use Rattle.canon_types.specs.declared.types.InterfaceType.TheVariants as ty
use Rattle.canon_passing.proofs.Far.{tuple_shape_of_now}
use Rattle.canon_func.proofs.Returned.{call_members_are, no_borrow}
use Rattle.canon_func.proofs.TupleLifted.{LiftsAs, tuple_lifted, tuple_unlifted}
use Rattle.canon_func.specs.Stores.{export_callee}
use Rattle.canon_func.specs.Typed.{FitsResults}
use Rattle.canon_func.proofs.tuples.TypedResults.lift.Goals as goal

pub returns-in-Ok-clause-lifted : goal.returns-in-Ok-clause-lifted
returns-in-Ok-clause-lifted g c =
    let core = c.args.core.now in
    let e = c.args.export.now in
    let f = c.func.result.now in
    let m = c.lift_tuple.new.core.ledger in
    let callee = export_callee core.component e in
    let same : c.types-types.result.now ≡ component_types core = c.types-types.ensures ∙ ap (λ k. k.types.types) c.component.ensures.component in
    let are : tuple_members (component_types core) f.results ≡ callee.results = call_members_are (component_types core) c.types-types.result.now e.ty f same c.func.ensures.found in
    let shape : shape_of (component_types core) (ty.Tuple f.results) ≡ product of_places callee.results =
    ap (λ (t : TypeTable). shape_of t (ty.Tuple f.results)) (sym same)
    ∙ (tuple_shape_of_now (component_types core) c.types-types.result.now f.results c.tuple-shape.result.now.types.items same c.tuple-shape.ensures.entry c.tuple-shape.ensures.types ∙ ap (λ (ms : Members). product of_places ms) are) in
    let none : member_borrows callee.results ≡ false =
    subst (λ (ms : Members). member_borrows ms ≡ false) are (subst (λ (t : TypeTable). member_borrows (tuple_members t f.results) ≡ false) same (no_borrow c.types-types.result.now e.ty f c.func.ensures.found c.laws.ensures.results)) in
    tuple_lifted core e c.args.words.now m g.R.Lift.reading g.met.R.Lift.taken g.R.ComponentType.fits g.met.R.Lift.kept (ty.Tuple f.results) c.in-Ok.results
    (subst (λ o. FitsResults g.R.ComponentType.fits core.component.types o) (ap (λ (t : TypeTable). slice_get t.funcs e.ty) (sym same) ∙ c.func.ensures.found) c.requires.fit) shape none c.requires.words
    (subst (λ (ms : Members). LiftsAs core e c.args.words.now m g.R.Lift.reading g.met.R.Lift.taken g.R.ComponentType.fits g.met.R.Lift.kept ms (Ok c.in-Ok.results)) are c.in-Ok.ensures.lifts)

pub returns-in-Err-clause-lifted : goal.returns-in-Err-clause-lifted
returns-in-Err-clause-lifted g c =
    let core = c.args.core.now in
    let e = c.args.export.now in
    let f = c.func.result.now in
    let m = c.lift_tuple.new.core.ledger in
    let callee = export_callee core.component e in
    let same : c.types-types.result.now ≡ component_types core = c.types-types.ensures ∙ ap (λ k. k.types.types) c.component.ensures.component in
    let are : tuple_members (component_types core) f.results ≡ callee.results = call_members_are (component_types core) c.types-types.result.now e.ty f same c.func.ensures.found in
    tuple_unlifted core e c.args.words.now m g.R.Lift.reading g.met.R.Lift.taken g.R.ComponentType.fits g.met.R.Lift.kept c.in-Err.fault
    (subst (λ (ms : Members). LiftsAs core e c.args.words.now m g.R.Lift.reading g.met.R.Lift.taken g.R.ComponentType.fits g.met.R.Lift.kept ms (Err c.in-Err.fault)) are c.in-Err.ensures.lifts)
