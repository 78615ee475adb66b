use Rattle.std.proofs.Common.{ap, subst, sym, ◌∙◌, ◌≡◌}
use Rattle.canon_context.proofs.Moves.{GuestLaws}
use Rattle.canon_context.specs.Core.{component_types}
use Rattle.canon_lower_parts.specs.Words.{TypedLowers}
use Rattle.canon_model.specs.Layout.{flat}
use Rattle.canon_model.specs.Shape.{Shape, of_places, product}
use Rattle.canon_types.specs.Table.{TypeTable, shape_of, tuple_members}
use Rattle.canon_types.specs.declared.types.InterfaceType.TheVariants as ty
use Rattle.canon_passing.proofs.Far.{tuple_shape_of_now}
use Rattle.canon_args.proofs.Near.{products_of, stack_lowered}
use Rattle.canon_args.proofs.params.lower_stack_args.Given.{Over}
use Rattle.canon_args.proofs.params.lower_stack_args.Goals.{After-tuple-tuple}
use Rattle.canon_args.proofs.params.lower_stack_args.Goals as goal

shape : (g : Over) (c : After-tuple-tuple g) → shape_of (component_types c.args.cx.now.core.now) (ty.Tuple c.args.ty) ≡ product of_places (tuple_members (component_types c.args.cx.now.core.now) c.args.ty)
shape g c =
    ap (λ (t : TypeTable). shape_of t (ty.Tuple c.args.ty)) (sym c.types.ensures)
    ∙ tuple_shape_of_now (component_types c.args.cx.now.core.now) c.types.result.now c.args.ty c.tuple-tuple.result.now.types.items c.types.ensures c.tuple-tuple.ensures.entry c.tuple-tuple.ensures.types

pub linear_lower_to_flat-requires-clause-words : goal.linear_lower_to_flat-requires-clause-words
unfolding flat
linear_lower_to_flat-requires-clause-words g c = c.requires.words ∙ sym (ap flat (shape g (goal.at.linear_lower_to_flat-requires-clause-words g c).After-tuple-tuple))

pub returns-clause-lowers : goal.returns-clause-lowers
returns-clause-lowers g c =
    let L : GuestLaws _ = record { seen = g.G.Guest.seen; moves = g.G.Guest.moves; stays = g.met.G.Guest.stays; goes_on = g.met.G.Guest.goes_on } in
    let a = c.args in
    let core = a.cx.now.core.now in
    let after = c.linear_lower_to_flat.new.cx.core.now in
    let ms = tuple_members (component_types core) a.ty in
    let v = a.params.now in
    let is = shape g (goal.at.returns-clause-lowers g c).After-tuple-tuple in
    stack_lowered L a.cx.now.options core after ms (g.P.ComponentType.walks v) (g.P.Lower.gives core.component.types (product of_places ms) v)
    (products_of g.P.ComponentType.fits g.P.ComponentType.means g.P.ComponentType.walks g.met.P.ComponentType.typed g.met.P.ComponentType.walked core.component.types (ty.Tuple a.ty) ms v c.requires.fits is) c.linear_lower_to_flat.new.dst
    c.linear_lower_to_flat.result c.requires.near (c.linear_lower_to_flat.ensures.count ∙ c.requires.words)
    (subst (λ (s : Shape). TypedLowers L.seen L.moves a.cx.now.options core after s c.linear_lower_to_flat.new.dst 0 (g.P.ComponentType.walks v) (g.P.Lower.gives core.component.types s v) c.linear_lower_to_flat.result) is
    c.linear_lower_to_flat.ensures.lowers)
