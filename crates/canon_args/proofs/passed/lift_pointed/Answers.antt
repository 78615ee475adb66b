use Rattle.std.proofs.Common.{ap, arith, false, length, subst, sym, ℕ, ◌%◌, ◌*◌, ◌+◌, ◌<◌, ◌∙◌, ◌≡◌}
use Rattle.std.proofs.lemmas.Bool.{leb-false}
use Rattle.std.proofs.lemmas.List.{get_or_default}
use Rattle.std.specs.Prelude.{slice_index}
use Rattle.canon_context.specs.Core.{component_types}
use Rattle.canon_reading.specs.Reading.{setting_in}
use Rattle.canon_model.specs.Layout.{align, size}
use Rattle.canon_model.specs.Memory.{low}
use Rattle.canon_model.specs.Shape.{of_places, product}
use Rattle.canon_types.specs.Table.{TypeTable, shape_of, tuple_members}
use Rattle.canon_types.specs.declared.types.InterfaceType.TheVariants as ty
use Rattle.canon_passing.proofs.Far.{tuple_shape_of_now, tuple_align, tuple_size}
use Rattle.canon_args.proofs.Areas.{area_misaligned, area_outside}
use Rattle.canon_args.proofs.passed.lift_pointed.Given.{Over}
use Rattle.canon_args.proofs.passed.lift_pointed.Goals.{After-tuple}
use Rattle.canon_args.proofs.passed.lift_pointed.Goals as goal

-- the shape of the tuple
shape : (g : Over) (c : After-tuple g) → shape_of c.types.result.now (ty.Tuple c.args.ty) ≡ product of_places (tuple_members (component_types c.args.cx.now.core.now) c.args.ty)
shape g c = tuple_shape_of_now (component_types c.args.cx.now.core.now) c.types.result.now c.args.ty c.tuple.result.now.types.items c.types.ensures c.tuple.ensures.entry c.tuple.ensures.types

now : (g : Over) (c : After-tuple g) → shape_of (component_types c.args.cx.now.core.now) (ty.Tuple c.args.ty) ≡ product of_places (tuple_members (component_types c.args.cx.now.core.now) c.args.ty)
now g c = ap (λ (x : TypeTable). shape_of x (ty.Tuple c.args.ty)) (sym c.types.ensures) ∙ shape g c

pub returns-then-at-from-ne0-clause-lifts : goal.returns-then-at-from-ne0-clause-lifts
unfolding align
returns-then-at-from-ne0-clause-lifts g c =
    let core = c.args.cx.now.core.now in
    let ms = tuple_members (component_types core) c.args.ty in
    let is = shape g (goal.at.returns-then-at-from-ne0-clause-lifts g c).After-tuple in
    let found : c.index-src-0.result ≡ slice_index c.args.src.now 0 = c.index-src-0.is ∙ get_or_default c.args.src.now 0 _ 0 (omega (arith, c.requires.word)) in
    let there : c.from-at.result ≡ low (slice_index c.args.src.now 0) = c.from-at.ensures ∙ (c.get_u32.ensures ∙ ap low found) in
    let by_align : c.from.result ≡ align false (product of_places ms) = c.from.ensures ∙ tuple_align _ _ _ c.tuple.ensures.abi is in
    area_misaligned g.V.Lift.reading (setting_in core c.args.cx.now.options) c.args.src.now (product of_places ms) core.ledger c.args.cx.now.fuel c.from-at.result there
    (subst (λ (n : ℕ). c.from-at.result % n ≡ 0 → ⊥) by_align c.if-at-from-ne0.true)

pub returns-then-not-ends_inside-clause-lifts : goal.returns-then-not-ends_inside-clause-lifts
unfolding align
returns-then-not-ends_inside-clause-lifts g c =
    let core = c.args.cx.now.core.now in
    let ms = tuple_members (component_types core) c.args.ty in
    let is = shape g (goal.at.returns-then-not-ends_inside-clause-lifts g c).After-tuple in
    let found : c.index-src-0.result ≡ slice_index c.args.src.now 0 = c.index-src-0.is ∙ get_or_default c.args.src.now 0 _ 0 (omega (arith, c.requires.word)) in
    let there : c.from-at.result ≡ low (slice_index c.args.src.now 0) = c.from-at.ensures ∙ (c.get_u32.ensures ∙ ap low found) in
    let by_size : c.tuple.result.now.abi.size32 ≡ size false (product of_places ms) = tuple_size _ _ _ c.tuple.ensures.abi is in
    let outside : length c.memory.result.now < c.from-at.result + 1 * c.tuple.result.now.abi.size32 =
    leb-false _ _ (sym c.ends_inside.ensures ∙ c.if-not-ends_inside.true) in
    area_outside g.V.Lift.reading (setting_in core c.args.cx.now.options) c.args.src.now (product of_places ms) core.ledger c.args.cx.now.fuel c.from-at.result there
    (subst (λ (n : ℕ). c.from-at.result % n ≡ 0) (c.from.ensures ∙ tuple_align _ _ _ c.tuple.ensures.abi is) c.if-at-from-ne0.false) (λ inside. omega (arith, inside, by_size, outside, ap length c.memory.ensures))
