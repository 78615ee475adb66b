use Rattle.std.proofs.Common.{◌≡◌, arith, ap, length, refl}
use Rattle.canon_model.specs.Shape.{member_count, of_places, product}
use Rattle.canon_types.specs.Table.{shape_of, tuple_members, types_of}
use Rattle.canon_types.specs.declared.types.InterfaceType.TheVariants as ty
use Rattle.canon_value_parts.specs.Fails.{mismatch, wrong_length}
use Rattle.canon_val.specs.Value.{no_names}
use Rattle.canon_plan.proofs.Lookups.{tuple_shape_of}
use Rattle.canon_value_parts.proofs.Steps.{own_failure, product_seen}
use Rattle.canon_value_parts.proofs.view.places_view.Goals.{After-len-count}
use Rattle.canon_value_parts.proofs.view.places_view.Goals as goal
use Rattle.canon_types.proofs.Measures.{count_members}

shape : (c : After-len-count) → shape_of c.args.types.now (ty.Tuple c.args.i) ≡ product of_places (tuple_members c.args.types.now c.args.i)
shape c = tuple_shape_of c.args.types.now c.args.types.now c.args.i c.tuple.result.now.types.items refl c.tuple.ensures.entry c.tuple.ensures.types

count : (c : After-len-count) → c.len-count.result ≡ member_count (tuple_members c.args.types.now c.args.i)
count c = omega (arith, c.len-count.ensures, c.tuple.result.now.types.ok.0, ap length c.tuple.ensures.types, count_members c.args.types.now (types_of c.args.types.now c.args.i))

pub returns-in_default : goal.returns-in_default
returns-in_default c =
    own_failure mismatch _ _ c.args.value.now c.args.place (shape (goal.at.returns-in_default c).After-len-count) (λ names vs (members, e, en, ev). c.in_default.not-Tuple members e)

pub returns-then-len-count : goal.returns-then-len-count
returns-then-len-count c =
    let here = (goal.at.returns-then-len-count c).After-len-count in
    let values = c.in-Tuple.values in
    own_failure wrong_length _ _ c.args.value.now c.args.place (shape here)
    (no_names values.items, values.items, (values, c.in-Tuple.is, refl, refl), λ e. c.if-len-count.true (omega (arith, e, c.len.ensures, values.ok.0, count here)))

pub returns : goal.returns
returns c =
    let here = (goal.at.returns c).After-len-count in
    let values = c.in-Tuple.values in
    let vs = c.deref.result.now in
    let enough : length vs ≡ member_count (tuple_members c.args.types.now c.args.i) = omega (arith, c.if-len-count.false, c.len.ensures, values.ok.0, count here, ap length c.deref.ensures.value) in
    let seen =
    product_seen of_places (tuple_members c.args.types.now c.args.i) (shape_of c.args.types.now (ty.Tuple c.args.i)) (no_names vs) vs c.args.value.now (shape here)
    (values, c.in-Tuple.is, ap no_names c.deref.ensures.value, c.deref.ensures.value) in
    ((c.requires.known, enough), seen.0, seen.1, enough)
