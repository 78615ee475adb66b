use Rattle.std.proofs.Common.{ap, arith, false, length, subst, sym, true, ◌+◌, ◌<◌, ◌∙◌, ◌≡◌, ◌≤◌}
use Rattle.canon_args.proofs.Areas.{few_words, many_words}
use Rattle.canon_args.proofs.Near.{AreProducts, products_of}
use Rattle.canon_args.proofs.Tuples.{results_far, results_near}
use Rattle.canon_context.specs.Core.{component_types}
use Rattle.canon_lower_parts.specs.Stores.{TypedStores}
use Rattle.canon_lower_parts.specs.Words.{TypedLowers}
use Rattle.canon_model.specs.Flat.{max_results}
use Rattle.canon_model.specs.Layout.{flat, members_flat, size}
use Rattle.canon_model.specs.Shape.{Shape, of_places, product}
use Rattle.canon_types.specs.Table.{TypeTable, shape_of, tuple_members}
use Rattle.canon_types.specs.declared.types.InterfaceType.TheVariants as ty
use Rattle.canon_passing.proofs.Far.{tuple_shape_of_now}
use Rattle.canon_args.proofs.host.lower_results.Given.{Over}
use Rattle.canon_args.proofs.host.lower_results.Goals.{After-is_some}
use Rattle.canon_args.proofs.host.lower_results.Goals as goal

shape : (g : Over) (c : After-is_some g) → shape_of c.types.result.now (ty.Tuple c.args.ty) ≡ product of_places (tuple_members (component_types c.args.cx.now.core.now) c.args.ty)
shape g c = tuple_shape_of_now (component_types c.args.cx.now.core.now) c.types.result.now c.args.ty c.tuple.result.now.types.items c.types.ensures c.tuple.ensures.entry c.tuple.ensures.types

now : (g : Over) (c : After-is_some g) → shape_of (component_types c.args.cx.now.core.now) (ty.Tuple c.args.ty) ≡ product of_places (tuple_members (component_types c.args.cx.now.core.now) c.args.ty)
now g c = ap (λ (t : TypeTable). shape_of t (ty.Tuple c.args.ty)) (sym c.types.ensures) ∙ shape g c

-- whether they go in a row
few : (g : Over) (c : After-is_some g) → c.is_some.result ≡ true → members_flat (tuple_members (component_types c.args.cx.now.core.now) c.args.ty) ≤ max_results
few g c is = let near = few_words _ _ c.flat_count.result c.from.result (shape g c) (c.flat_count.ensures.words _ c.tuple.ensures.abi) (sym c.is_some.ensures ∙ is) in omega (arith, near, c.from.ensures)

many : (g : Over) (c : After-is_some g) → c.is_some.result ≡ false → max_results < members_flat (tuple_members (component_types c.args.cx.now.core.now) c.args.ty)
many g c is =
    let far = many_words _ _ c.flat_count.result c.from.result (shape g c) (omega (arith, c.from.ensures)) (c.flat_count.ensures.words _ c.tuple.ensures.abi) (sym c.is_some.ensures ∙ is) in
    omega (arith, far, c.from.ensures)

-- the results are tuples
products : (g : Over) (c : After-is_some g) → AreProducts (g.R.ComponentType.walks c.args.results.now)
products g c =
    let a = c.args in
    let core = a.cx.now.core.now in
    products_of g.R.ComponentType.fits g.R.ComponentType.means g.R.ComponentType.walks g.met.R.ComponentType.typed g.met.R.ComponentType.walked core.component.types (ty.Tuple a.ty)
    (tuple_members (component_types core) a.ty) a.results.now c.requires.fits
    (now g c)

pub linear_lower_to_flat-requires-clause-words : goal.linear_lower_to_flat-requires-clause-words
unfolding flat
linear_lower_to_flat-requires-clause-words g c =
    let at = goal.at.linear_lower_to_flat-requires-clause-words g c in
    let near = few g at.After-is_some c.if-is_some.true in
    c.requires.near near ∙ sym (ap flat (now g at.After-is_some))

pub linear_lower_to_memory-requires-clause-room : goal.linear_lower_to_memory-requires-clause-room
linear_lower_to_memory-requires-clause-room g c =
    let at = goal.at.linear_lower_to_memory-requires-clause-room g c in
    let far = many g at.After-is_some c.if-is_some.false in
    subst (λ (s : Shape). c.args.at + size false s ≤ length c.args.cx.now.core.now.memory) (sym (now g at.After-is_some)) (c.requires.far far)

pub returns-then-is_some-clause-lowers : goal.returns-then-is_some-clause-lowers
returns-then-is_some-clause-lowers g c =
    let at = goal.at.returns-then-is_some-clause-lowers g c in
    let near = few g at.After-is_some c.if-is_some.true in
    let a = c.args in
    let core = a.cx.now.core.now in
    let low = c.linear_lower_to_flat in
    let v = a.results.now in
    let ms = tuple_members (component_types core) a.ty in
    results_near g.G.Guest.seen g.G.Guest.moves a.cx.now.options core low.new.cx.core.now ms a.at (g.R.ComponentType.walks v) (g.R.Lower.gives core.component.types (product of_places ms) v)
    (products g at.After-is_some) low.new.dst low.result near
    (subst (λ (s : Shape). TypedLowers g.G.Guest.seen g.G.Guest.moves a.cx.now.options core low.new.cx.core.now s low.new.dst 0 (g.R.ComponentType.walks v) (g.R.Lower.gives core.component.types s v) low.result) (now g at.After-is_some) low.ensures.lowers)

pub returns-then-is_some-clause-kept : goal.returns-then-is_some-clause-kept
returns-then-is_some-clause-kept g c =
    let at = goal.at.returns-then-is_some-clause-kept g c in
    let near = few g at.After-is_some c.if-is_some.true in
    λ far. absurd (omega (arith, near, far))

pub returns-else-is_some-clause-lowers : goal.returns-else-is_some-clause-lowers
returns-else-is_some-clause-lowers g c =
    let at = goal.at.returns-else-is_some-clause-lowers g c in
    let far = many g at.After-is_some c.if-is_some.false in
    let a = c.args in
    let core = a.cx.now.core.now in
    let low = c.linear_lower_to_memory in
    let v = a.results.now in
    let ms = tuple_members (component_types core) a.ty in
    results_far g.G.Guest.seen g.G.Guest.moves a.cx.now.options core low.new.cx.core.now ms a.at (g.R.ComponentType.walks v) (g.R.Lower.gives core.component.types (product of_places ms) v)
    (products g at.After-is_some) a.dst.now low.result far
    (subst (λ (s : Shape). TypedStores g.G.Guest.seen g.G.Guest.moves a.cx.now.options core low.new.cx.core.now s a.at (g.R.ComponentType.walks v) (g.R.Lower.gives core.component.types s v) low.result) (now g at.After-is_some) low.ensures.stores)
