use Rattle.std.proofs.Common.{◌≡◌, arith, ap, length, refl, sym}
use Rattle.canon_model.specs.Shape.{fixed}
use Rattle.canon_types.specs.Table.{shape_of}
use Rattle.canon_types.specs.declared.types.InterfaceType.TheVariants as ty
use Rattle.canon_value_parts.specs.Fails.{mismatch, wrong_length}
use Rattle.canon_plan.proofs.Lookups.{copies_count, fixed_known, fixed_shape}
use Rattle.canon_value_parts.proofs.Steps.{fixed_seen, own_failure}
use Rattle.canon_value_parts.proofs.view.fixed_view.Goals.{After-fixed_length_list-list}
use Rattle.canon_value_parts.proofs.view.fixed_view.Goals as goal

shape : (c : After-fixed_length_list-list) → shape_of c.args.types.now (ty.FixedLengthList c.args.i) ≡ fixed c.fixed_length_list-list.result.now.size (shape_of c.args.types.now c.fixed_length_list-list.result.now.element)
shape c = fixed_shape c.args.types.now c.args.types.now c.args.i c.fixed_length_list-list.result.now.size c.fixed_length_list-list.result.now.element refl c.fixed_length_list-list.ensures.entry

pub returns-in_default : goal.returns-in_default
returns-in_default c =
    own_failure mismatch _ _ c.args.value.now c.args.place (shape (goal.at.returns-in_default c).After-fixed_length_list-list) (λ members e. c.in_default.not-FixedLengthList members e)

pub returns-then-len-from : goal.returns-then-len-from
returns-then-len-from c =
    let values = c.in-FixedLengthList.values in
    own_failure wrong_length _ _ c.args.value.now c.args.place (shape (goal.at.returns-then-len-from c).After-fixed_length_list-list)
    (values.items, (values, c.in-FixedLengthList.is, refl), λ e. c.if-len-from.true (omega (arith, e, c.len.ensures, values.ok.0, c.from.ensures)))

pub returns : goal.returns
returns c =
    let t = c.args.types.now in
    let list = c.fixed_length_list-list.result.now in
    let values = c.in-FixedLengthList.values in
    let vs = c.deref.result.now in
    let same : vs ≡ values.items = c.deref.ensures.value in
    let count : length vs ≡ list.size = omega (arith, c.if-len-from.false, c.len.ensures, values.ok.0, c.from.ensures, ap length same) in
    let seen = fixed_seen list.size (shape_of t list.element) (shape_of t (ty.FixedLengthList c.args.i)) vs c.args.value.now (shape (goal.at.returns c).After-fixed_length_list-list) count (values, c.in-FixedLengthList.is, same) in
    (fixed_known t t c.args.i list.size list.element refl c.fixed_length_list-list.ensures.entry, seen.0, seen.1, sym (copies_count (length vs) (shape_of t list.element)))
