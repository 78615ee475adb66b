use Rattle.std.proofs.Common.{◌*◌, ◌∙◌, Option, ap, ap₂, arith, map, string_bytes, subst, sym, ℕ}
use Rattle.std.proofs.lemmas.List.{length-map}
use Rattle.canon_model.specs.Layout.{flag_words, flat}
use Rattle.canon_types.specs.Table.{KnowsPayload, all_shapes, shape_of}
use Rattle.canon_types.specs.declared.types.InterfaceType.{InterfaceType}
use Rattle.canon_plan.proofs.Flats.{bare_first, factor, field_part, fixed_made, flags_made, member_part, near_words, no_fields, no_payloads, no_types, option_made, payload_depth, payload_first, record_made, result_made, tuple_made, variant_made}
use Rattle.canon_plan.proofs.flat.+flat.Goals as goal

-- ---- the parts of a product

pub field_words-flat_words-words-requires : goal.field_words-flat_words-words-requires
field_words-flat_words-words-requires t c =
    let part = field_part c.args.types.now c.args.fields.now c.loop-field.field-index c.field-item.result c.field-item.result c.field-item.is c.loop-field-test.true c.requires.known in
    (omega (arith, part.shallow), (part.known, omega (arith, part.first, c.loop-field.invariant, c.requires.few)))

pub field_words-overflow_add-words : goal.field_words-overflow_add-words
field_words-overflow_add-words t c =
    let part = field_part c.args.types.now c.args.fields.now c.loop-field.field-index c.field-item.result c.field-item.result c.field-item.is c.loop-field-test.true c.requires.known in
    omega (arith, part.first, c.loop-field.invariant, c.requires.few, c.flat_words-words.ensures)

pub field_words-loop-field-preserved : goal.field_words-loop-field-preserved
field_words-loop-field-preserved t c =
    let part = field_part c.args.types.now c.args.fields.now c.loop-field.field-index c.field-item.result c.field-item.result c.field-item.is c.loop-field-test.true c.requires.known in
    omega (arith, part.first, c.loop-field.invariant, c.flat_words-words.ensures)

pub field_words-returns : goal.field_words-returns
field_words-returns t c = omega (arith, c.loop-field.invariant, no_fields c.args.types.now c.args.fields.now c.loop-field.field-index (omega (arith, c.loop-field-test.false, c.loop-field.auto.field-index-end)))

pub member_words-flat_words-words-requires : goal.member_words-flat_words-words-requires
member_words-flat_words-words-requires t c =
    let part = member_part c.args.types.now c.args.members.now c.loop-member.member-index c.member-item.result c.member-item.result c.member-item.is c.loop-member-test.true c.requires.known in
    (omega (arith, part.shallow), (part.known, omega (arith, part.first, c.loop-member.invariant, c.requires.few)))

pub member_words-overflow_add-words : goal.member_words-overflow_add-words
member_words-overflow_add-words t c =
    let part = member_part c.args.types.now c.args.members.now c.loop-member.member-index c.member-item.result c.member-item.result c.member-item.is c.loop-member-test.true c.requires.known in
    omega (arith, part.first, c.loop-member.invariant, c.requires.few, c.flat_words-words.ensures)

pub member_words-loop-member-preserved : goal.member_words-loop-member-preserved
member_words-loop-member-preserved t c =
    let part = member_part c.args.types.now c.args.members.now c.loop-member.member-index c.member-item.result c.member-item.result c.member-item.is c.loop-member-test.true c.requires.known in
    omega (arith, part.first, c.loop-member.invariant, c.flat_words-words.ensures)

pub member_words-returns : goal.member_words-returns
member_words-returns t c = omega (arith, c.loop-member.invariant, no_types c.args.types.now c.args.members.now c.loop-member.member-index (omega (arith, c.loop-member-test.false, c.loop-member.auto.member-index-end)))

-- ---- payloads

pub payload_words-loop-payload-preserved-in_default : goal.payload_words-loop-payload-preserved-in_default
payload_words-loop-payload-preserved-in_default t c =
    omega (arith, c.loop-payload.invariant, bare_first (all_shapes c.args.types.now) c.args.payloads.now c.loop-payload.payload-index c.payload-item.result c.payload-item.result c.payload-item.is c.loop-payload-test.true c.in_default.is)

pub payload_words-flat_words-requires : goal.payload_words-flat_words-requires
payload_words-flat_words-requires t c =
    let shapes = all_shapes c.args.types.now in
    let i = c.loop-payload.payload-index in
    let some = sym c.payload-item.is ∙ c.in-Some.is in
    let first = payload_first shapes c.args.payloads.now i c.payload-item.result c.payload-item.result c.in-Some.ty c.payload-item.is c.loop-payload-test.true c.in-Some.is in (
      omega (arith, payload_depth shapes c.args.payloads.now i c.payload-item.result c.in-Some.ty c.loop-payload-test.true some),
      (subst (λ (p : Option InterfaceType). KnowsPayload c.args.types.now p) some (c.requires.known i c.payload-item.result c.loop-payload-test.true), omega (arith, first, c.loop-payload.invariant, c.requires.few)),
    )

pub payload_words-loop-payload-preserved : goal.payload_words-loop-payload-preserved
payload_words-loop-payload-preserved t c =
    omega (
      arith,
      c.loop-payload.invariant,
      payload_first (all_shapes c.args.types.now) c.args.payloads.now c.loop-payload.payload-index c.payload-item.result c.payload-item.result c.in-Some.ty c.payload-item.is c.loop-payload-test.true c.in-Some.is,
      c.flat_words.ensures,
      c.max-words.ensures,
    )

pub payload_words-returns : goal.payload_words-returns
payload_words-returns t c = omega (
  arith,
  c.loop-payload.invariant,
  no_payloads (all_shapes c.args.types.now) c.args.payloads.now c.loop-payload.payload-index (omega (arith, c.loop-payload-test.false, c.loop-payload.auto.payload-index-end)),
)

-- ---- a type by its parts

pub many_words-field_words-requires : goal.many_words-field_words-requires
many_words-field_words-requires t c =
    let made = record_made c.args.types.now c.args.ty.now c.in-Record.i c.record.result.now.fields.items c.deref.result.now c.in-Record.is c.record.ensures.entry c.deref.ensures.value in
    (omega (arith, made.0.1), (made.1, omega (arith, made.0.0, c.requires.few)))

pub many_words-returns-in-Record : goal.many_words-returns-in-Record
many_words-returns-in-Record t c =
    let made = record_made c.args.types.now c.args.ty.now c.in-Record.i c.record.result.now.fields.items c.deref.result.now c.in-Record.is c.record.ensures.entry c.deref.ensures.value in
    c.field_words.ensures ∙ made.0.0

pub many_words-member_words-requires : goal.many_words-member_words-requires
many_words-member_words-requires t c =
    let made = tuple_made c.args.types.now c.args.ty.now c.in-Tuple.i c.tuple.result.now.types.items c.deref-in-Tuple.result.now c.in-Tuple.is c.tuple.ensures.entry c.deref-in-Tuple.ensures.value in
    (omega (arith, made.0.1), (made.1, omega (arith, made.0.0, c.requires.few)))

pub many_words-returns-in-Tuple : goal.many_words-returns-in-Tuple
many_words-returns-in-Tuple t c =
    let made = tuple_made c.args.types.now c.args.ty.now c.in-Tuple.i c.tuple.result.now.types.items c.deref-in-Tuple.result.now c.in-Tuple.is c.tuple.ensures.entry c.deref-in-Tuple.ensures.value in
    c.member_words.ensures ∙ made.0.0

pub many_words-flat_words-requires : goal.many_words-flat_words-requires
many_words-flat_words-requires t c =
    let list = c.fixed_length_list-list.result.now in
    let made = fixed_made c.args.types.now c.args.ty.now c.in-FixedLengthList.i list.size list.element c.in-FixedLengthList.is c.fixed_length_list-list.ensures.entry in
    let least = factor list.size (flat (shape_of c.args.types.now list.element)) (omega (arith, made.0.0, c.requires.many)) in
    (omega (arith, made.0.1), (made.1, omega (arith, made.0.0, least, c.requires.few)))

pub many_words-overflow_mul-result : goal.many_words-overflow_mul-result
many_words-overflow_mul-result t c =
    let list = c.fixed_length_list-list.result.now in
    let made = fixed_made c.args.types.now c.args.ty.now c.in-FixedLengthList.i list.size list.element c.in-FixedLengthList.is c.fixed_length_list-list.ensures.entry in
    omega (arith, c.requires.few, made.0.0, ap₂ (λ (n k : ℕ). n * k) c.from.ensures c.flat_words.ensures)

pub many_words-returns-in-FixedLengthList : goal.many_words-returns-in-FixedLengthList
many_words-returns-in-FixedLengthList t c =
    let list = c.fixed_length_list-list.result.now in
    let made = fixed_made c.args.types.now c.args.ty.now c.in-FixedLengthList.i list.size list.element c.in-FixedLengthList.is c.fixed_length_list-list.ensures.entry in
    ap₂ (λ (n k : ℕ). n * k) c.from.ensures c.flat_words.ensures ∙ made.0.0

pub many_words-payload_words-requires : goal.many_words-payload_words-requires
many_words-payload_words-requires t c =
    let made = variant_made c.args.types.now c.args.ty.now c.in-Variant.i c.variant.result.now.cases.entries c.as_slice.result.now c.in-Variant.is c.variant.ensures.entry (c.as_slice.ensures ∙ c.values-payloads.ensures.rest) in
    (omega (arith, made.0.1), (made.1, omega (arith, made.0.0, c.requires.few)))

pub many_words-overflow_add-result : goal.many_words-overflow_add-result
many_words-overflow_add-result t c =
    let made = variant_made c.args.types.now c.args.ty.now c.in-Variant.i c.variant.result.now.cases.entries c.as_slice.result.now c.in-Variant.is c.variant.ensures.entry (c.as_slice.ensures ∙ c.values-payloads.ensures.rest) in
    omega (arith, c.requires.few, made.0.0, c.payload_words.ensures)

pub many_words-returns-in-Variant : goal.many_words-returns-in-Variant
many_words-returns-in-Variant t c =
    let made = variant_made c.args.types.now c.args.ty.now c.in-Variant.i c.variant.result.now.cases.entries c.as_slice.result.now c.in-Variant.is c.variant.ensures.entry (c.as_slice.ensures ∙ c.values-payloads.ensures.rest) in
    omega (arith, made.0.0, c.payload_words.ensures)

pub many_words-flat_words-requires-in-Option : goal.many_words-flat_words-requires-in-Option
many_words-flat_words-requires-in-Option t c =
    let made = option_made c.args.types.now c.args.ty.now c.in-Option.i c.option.result.now.ty c.in-Option.is c.option.ensures.entry in
    (omega (arith, made.0.1), (made.1, omega (arith, made.0.0, c.requires.few)))

pub many_words-overflow_add-result-in-Option : goal.many_words-overflow_add-result-in-Option
many_words-overflow_add-result-in-Option t c =
    let made = option_made c.args.types.now c.args.ty.now c.in-Option.i c.option.result.now.ty c.in-Option.is c.option.ensures.entry in
    omega (arith, c.requires.few, made.0.0, c.flat_words-in-Option.ensures)

pub many_words-returns-in-Option : goal.many_words-returns-in-Option
many_words-returns-in-Option t c =
    let made = option_made c.args.types.now c.args.ty.now c.in-Option.i c.option.result.now.ty c.in-Option.is c.option.ensures.entry in
    omega (arith, made.0.0, c.flat_words-in-Option.ensures)

pub many_words-payload_words-requires-in-Result : goal.many_words-payload_words-requires-in-Result
many_words-payload_words-requires-in-Result t c =
    let result = c.result-result.result.now in
    let made = result_made c.args.types.now c.args.ty.now c.in-Result.i result.ok result.err c.in-Result.is c.result-result.ensures.entry in
    (omega (arith, made.0.1), (made.1, omega (arith, made.0.0, c.requires.few)))

pub many_words-overflow_add-result-in-Result : goal.many_words-overflow_add-result-in-Result
many_words-overflow_add-result-in-Result t c =
    let result = c.result-result.result.now in
    let made = result_made c.args.types.now c.args.ty.now c.in-Result.i result.ok result.err c.in-Result.is c.result-result.ensures.entry in
    omega (arith, c.requires.few, made.0.0, c.payload_words-in-Result.ensures)

pub many_words-returns-in-Result : goal.many_words-returns-in-Result
many_words-returns-in-Result t c =
    let result = c.result-result.result.now in
    let made = result_made c.args.types.now c.args.ty.now c.in-Result.i result.ok result.err c.in-Result.is c.result-result.ensures.entry in
    omega (arith, made.0.0, c.payload_words-in-Result.ensures)

pub many_words-returns-in-Flags : goal.many_words-returns-in-Flags
many_words-returns-in-Flags t c =
    let names = c.flags.result.now.names.keys in
    let made = flags_made c.args.types.now c.args.ty.now c.in-Flags.i (map (λ n. string_bytes n) names) c.in-Flags.is c.flags.ensures.entry in
    c.div_ceil.ensures ∙ ap flag_words (c.len.ensures.len ∙ sym (length-map names (λ n. string_bytes n))) ∙ made

pub many_words-unreachable-requires : goal.many_words-unreachable-requires
many_words-unreachable-requires t c =
    let d = c.in_default in
    omega (arith, c.requires.many, near_words c.args.types.now c.args.ty.now c.requires.known d.not-Record d.not-Tuple d.not-FixedLengthList d.not-Variant d.not-Option d.not-Result d.not-Flags)
