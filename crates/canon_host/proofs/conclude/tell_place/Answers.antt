use Rattle.std.proofs.Common.{ap, false, rules, ◌<◌, ◌∙◌, ◌≡◌}
use Rattle.canon_context.specs.Core.{component_types}
use Rattle.canon_context.specs.declared.component.Component.{Component}
use Rattle.canon_model.specs.Flat.{max_results}
use Rattle.canon_model.specs.Layout.{members_flat, size}
use Rattle.canon_model.specs.Shape.{of_places, product}
use Rattle.canon_types.specs.Table.{shape_of, tuple_members}
use Rattle.canon_types.specs.declared.types.InterfaceType.TheVariants as ty
use Rattle.canon_passing.proofs.Far.{tuple_shape_of_now, tuple_size}
use Rattle.canon_host.proofs.Serving.{told_place}
use Rattle.canon_host.proofs.conclude.tell_place.Goals as goal

pub returns-clause-tells : goal.returns-clause-tells
returns-clause-tells g c =
    let now = c.args.core.now in
    let f = c.args.asked.now.func.results in
    let types = c.types-types.ensures ∙ ap (λ (x : Component). x.types.types) c.component.ensures.component in
    let shape : shape_of c.types-types.result.now (ty.Tuple f) ≡ product of_places (tuple_members (component_types now) f) =
    tuple_shape_of_now (component_types now) c.types-types.result.now f c.tuple.result.now.types.items types c.tuple.ensures.entry c.tuple.ensures.types in
    let sized : c.tuple.result.now.abi.size32 ≡ size false (product of_places (tuple_members (component_types now) f)) = tuple_size _ _ _ c.tuple.ensures.abi shape in
    let far : max_results < members_flat (tuple_members (component_types now) f) = search rules in
    told_place g.G.Guest.seen g.G.Guest.moves g.met.G.Guest.goes_on c.args.asked.now now c.hold.new.self c.args.at c.tuple.result.now.abi.size32 far sized c.hold.ensures.same c.hold.result c.hold.ensures.holds c.hold.ensures.moves
    c.hold.ensures.fault
