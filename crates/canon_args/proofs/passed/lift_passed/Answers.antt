use Rattle.std.proofs.Common.{ap, arith, subst, sym, ◌∙◌, ◌≡◌, ◌≤◌}
use Rattle.std.proofs.lemmas.Bool.{cond-false, cond-true, le-leb, lt-leb}
use Rattle.canon_context.specs.Core.{component_types}
use Rattle.canon_reading.specs.Reading.{Lifts, setting_in}
use Rattle.canon_reading.specs.Spots.{flat_in}
use Rattle.canon_model.specs.Layout.{flat, members_flat}
use Rattle.canon_model.specs.Shape.{Shape, of_places, product}
use Rattle.canon_types.specs.Table.{TypeTable, shape_of, tuple_members}
use Rattle.canon_types.specs.declared.types.InterfaceType.TheVariants as ty
use Rattle.canon_passing.proofs.Far.{tuple_shape_of_now}
use Rattle.canon_args.proofs.Areas.{few_words, lifts_by, many_words}
use Rattle.canon_args.proofs.passed.lift_passed.Given.{Over}
use Rattle.canon_args.proofs.passed.lift_passed.Goals.{After-tuple}
use Rattle.canon_args.proofs.passed.lift_passed.Goals as goal

shape : (g : Over) (c : After-tuple g) → shape_of c.types.result.now (ty.Tuple c.args.ty) ≡ product of_places (tuple_members (component_types c.args.cx.now.core.now) c.args.ty)
shape g c = tuple_shape_of_now (component_types c.args.cx.now.core.now) c.types.result.now c.args.ty c.tuple.result.now.types.items c.types.ensures c.tuple.ensures.entry c.tuple.ensures.types

pub lift_words-requires-clause-words : goal.lift_words-requires-clause-words
unfolding flat
lift_words-requires-clause-words g c =
    let is = shape g (goal.at.lift_words-requires-clause-words g c).After-tuple in
    let t = component_types c.args.cx.now.core.now in
    let ms = tuple_members t c.args.ty in
    let few = few_words _ _ c.flat_count.result c.from.result is (c.flat_count.ensures.words _ c.tuple.ensures.abi) (sym c.is_some.ensures ∙ c.if-is_some.true) in
    let near : members_flat ms ≤ c.args.most = omega (arith, few, c.from.ensures) in
    let count = c.requires.words ∙ cond-true _ _ _ (le-leb (members_flat ms) c.args.most near) in
    let same : flat (shape_of t (ty.Tuple c.args.ty)) ≡ members_flat ms = ap (λ (x : TypeTable). flat (shape_of x (ty.Tuple c.args.ty))) (sym c.types.ensures) ∙ ap flat is in
    omega (arith, count, same)

pub returns-then-is_some-clause-lifts : goal.returns-then-is_some-clause-lifts
unfolding flat
returns-then-is_some-clause-lifts g c =
    let is = shape g (goal.at.returns-then-is_some-clause-lifts g c).After-tuple in
    let core = c.args.cx.now.core.now in
    let t = component_types core in
    let ms = tuple_members t c.args.ty in
    let few = few_words _ _ c.flat_count.result c.from.result is (c.flat_count.ensures.words _ c.tuple.ensures.abi) (sym c.is_some.ensures ∙ c.if-is_some.true) in
    let near : members_flat ms ≤ c.args.most = omega (arith, few, c.from.ensures) in
    let there : shape_of t (ty.Tuple c.args.ty) ≡ product of_places ms = ap (λ (x : TypeTable). shape_of x (ty.Tuple c.args.ty)) (sym c.types.ensures) ∙ is in
    let after = c.lift_words.new.cx in
    let w = setting_in core c.args.cx.now.options in
    lifts_by g.V.Lift.reading w c.args.src.now (product of_places ms) core.ledger c.args.cx.now.fuel c.lift_words.result after.core.now.ledger after.fuel _ _ (le-leb (members_flat ms) c.args.most near)
    (subst (λ (s : Shape). Lifts g.V.Lift.reading w (flat_in c.args.src.now 0) s core.ledger c.args.cx.now.fuel c.lift_words.result after.core.now.ledger after.fuel) there c.lift_words.ensures.lifts)

pub lift_pointed-requires-clause-word : goal.lift_pointed-requires-clause-word
lift_pointed-requires-clause-word g c =
    let is = shape g (goal.at.lift_pointed-requires-clause-word g c).After-tuple in
    let ms = tuple_members (component_types c.args.cx.now.core.now) c.args.ty in
    let many = many_words _ _ c.flat_count.result c.from.result is (omega (arith, c.from.ensures, c.requires.few)) (c.flat_count.ensures.words _ c.tuple.ensures.abi) (sym c.is_some.ensures ∙ c.if-is_some.false) in
    c.requires.words ∙ cond-false _ _ _ (lt-leb (members_flat ms) c.args.most (omega (arith, many, c.from.ensures)))

pub returns-else-is_some-clause-lifts : goal.returns-else-is_some-clause-lifts
unfolding flat
returns-else-is_some-clause-lifts g c =
    let is = shape g (goal.at.returns-else-is_some-clause-lifts g c).After-tuple in
    let core = c.args.cx.now.core.now in
    let ms = tuple_members (component_types core) c.args.ty in
    let many = many_words _ _ c.flat_count.result c.from.result is (omega (arith, c.from.ensures, c.requires.few)) (c.flat_count.ensures.words _ c.tuple.ensures.abi) (sym c.is_some.ensures ∙ c.if-is_some.false) in
    let after = c.lift_pointed.new.cx in
    lifts_by g.V.Lift.reading (setting_in core c.args.cx.now.options) c.args.src.now (product of_places ms) core.ledger c.args.cx.now.fuel c.lift_pointed.result after.core.now.ledger after.fuel _ _
    (lt-leb (members_flat ms) c.args.most (omega (arith, many, c.from.ensures))) c.lift_pointed.ensures.lifts
