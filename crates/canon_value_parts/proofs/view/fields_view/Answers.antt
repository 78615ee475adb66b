use Rattle.std.proofs.Common.{◌≡◌, ◌∙◌, arith, ap, length, refl}
use Rattle.canon_model.specs.Shape.{member_count, of_fields, product}
use Rattle.canon_types.specs.Depth.{product_members}
use Rattle.canon_types.specs.Table.{shape_of}
use Rattle.canon_types.specs.declared.types.InterfaceType.TheVariants as ty
use Rattle.canon_value_parts.specs.Fails.{mismatch, wrong_length}
use Rattle.canon_val.specs.Value.{names_in, values_in}
use Rattle.canon_plan.proofs.Lookups.{count_fields, record_members, record_shape_of}
use Rattle.canon_value_parts.proofs.Lookups.{count_values}
use Rattle.canon_value_parts.proofs.Steps.{own_failure, product_seen}
use Rattle.canon_value_parts.proofs.view.fields_view.Goals.{After-len-count}
use Rattle.canon_value_parts.proofs.view.fields_view.Goals as goal

shape : (c : After-len-count) → shape_of c.args.types.now (ty.Record c.args.i) ≡ product of_fields (product_members (shape_of c.args.types.now (ty.Record c.args.i)))
shape c = record_shape_of c.args.types.now c.args.types.now c.args.i c.record.result.now.fields.items refl c.record.ensures.entry

count : (c : After-len-count) → c.len-count.result ≡ member_count (product_members (shape_of c.args.types.now (ty.Record c.args.i)))
count c =
    omega (
      arith,
      c.len-count.ensures,
      c.record.result.now.fields.ok.0,
      ap member_count
          (record_members c.args.types.now c.args.types.now c.args.i c.record.result.now.fields.items refl c.record.ensures.entry),
      count_fields c.args.types.now c.record.result.now.fields.items,
    )

pub returns-in_default : goal.returns-in_default
returns-in_default c = own_failure mismatch _ _ c.args.value.now c.args.place (shape (goal.at.returns-in_default c).After-len-count) (λ names vs (fields, e, en, ev). c.in_default.not-Record fields e)

pub returns-then-len-count : goal.returns-then-len-count
returns-then-len-count c =
    let here = (goal.at.returns-then-len-count c).After-len-count in
    let values = c.in-Record.values in
    own_failure wrong_length _ _ c.args.value.now c.args.place (shape here)
    (names_in values.items, values_in values.items, (values, c.in-Record.is, refl, refl), λ e. c.if-len-count.true (omega (arith, e, c.len.ensures, values.ok.0, count here, count_values values.items)))

pub returns : goal.returns
returns c =
    let here = (goal.at.returns c).After-len-count in
    let values = c.in-Record.values in
    let vs = c.deref.result.now in
    let enough : length vs ≡ member_count (product_members (shape_of c.args.types.now (ty.Record c.args.i))) = omega (arith, c.if-len-count.false, c.len.ensures, values.ok.0, count here, ap length c.deref.ensures.value) in
    let seen = product_seen of_fields (product_members (shape_of c.args.types.now (ty.Record c.args.i))) (shape_of c.args.types.now (ty.Record c.args.i)) (names_in vs) (values_in vs) c.args.value.now (shape here)
    (values, c.in-Record.is, ap names_in c.deref.ensures.value, ap values_in c.deref.ensures.value) in
    ((c.requires.known, enough), seen.0, seen.1, count_values vs ∙ enough)
