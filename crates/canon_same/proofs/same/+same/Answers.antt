use Rattle.std.proofs.Common.{◌∙◌, ap, arith, false, refl, subst, sym}
use Rattle.std.proofs.lemmas.Bool.{eqb-true}
use Rattle.canon_types.specs.Depth.{depth}
use Rattle.canon_types.specs.Table.{Knows, KnowsPayload, all_shapes, shape_of}
use Rattle.canon_types.specs.declared.types.InterfaceType.TheVariants as ty
use Rattle.canon_named.proofs.Texts.{alike as same_bytes, others as other_bytes}
use Rattle.canon_plan.proofs.Flats.{field_part, member_part, record_made, result_made, tuple_made, variant_made}
use Rattle.canon_same.specs.Same.{SameResource, SameTypes}
use Rattle.canon_same.proofs.Definitions.{depth_here, fixed_same, here, lists_same, maps_same, options_same, parts_known, placed, records_same, results_same, rows_same, tuple_rows, tuples_same}
use Rattle.canon_same.proofs.Rows.{fields_at, fields_end, fields_long, members_at, members_end, members_long, first_alone, no_payloads, payload_falls, payloads_at, payloads_end, payloads_long, second_alone, some_payloads}
use Rattle.canon_same.proofs.Steps.{at_other, back, both, given, more, never, depth_of_payload, stopped, through, untrue}
use Rattle.canon_same.proofs.TypeKinds.{number_of, plain_left, plain_same, unlike}
use Rattle.canon_same.proofs.same.+same.Goals as goal

pub same_lists-returns-in_default-clause-same : goal.same_lists-returns-in_default-clause-same
same_lists-returns-in_default-clause-same t c = unlike c.args.read.now c.args.written.now (ty.List c.args.i) c.args.other.now false refl c.requires.known c.requires.other_known (c.in_default.not-List (number_of c.args.other.now))

pub same_lists-same-requires : goal.same_lists-same-requires
same_lists-same-requires t c =
    let a = c.args in (
      omega (arith, depth_here a.read.now.types _ _ _ c.types.ensures c.list-list.ensures.entry),
      (
        parts_known a.read.now.types _ _ _ c.types.ensures c.list-list.ensures.entry 0 c.list-list.result.now.element (omega arith),
        (parts_known a.written.now.types _ _ _ c.types-2.ensures c.list-its.ensures.entry 0 c.list-its.result.now.element (omega arith), c.requires.found),
      ),
    )

pub same_lists-returns-clause-same : goal.same_lists-returns-clause-same
same_lists-returns-clause-same t c =
    at_other (SameTypes c.args.read.now c.args.written.now (ty.List c.args.i)) _ _ _ c.in-List.is
    (through c.same.ensures.same (back (lists_same c.args.read.now c.args.written.now _ _ c.types.ensures c.types-2.ensures (ty.List c.args.i) (ty.List c.in-List.j) _ _ c.list-list.ensures.entry c.list-its.ensures.entry)))

pub same_options-returns-in_default-clause-same : goal.same_options-returns-in_default-clause-same
same_options-returns-in_default-clause-same t c = unlike c.args.read.now c.args.written.now (ty.Option c.args.i) c.args.other.now false refl c.requires.known c.requires.other_known (c.in_default.not-Option (number_of c.args.other.now))

pub same_options-same-requires : goal.same_options-same-requires
same_options-same-requires t c =
    let a = c.args in (
      omega (arith, depth_here a.read.now.types _ _ _ c.types.ensures c.option-some.ensures.entry),
      (
        parts_known a.read.now.types _ _ _ c.types.ensures c.option-some.ensures.entry 0 c.option-some.result.now.ty (omega arith),
        (parts_known a.written.now.types _ _ _ c.types-2.ensures c.option-its.ensures.entry 0 c.option-its.result.now.ty (omega arith), c.requires.found),
      ),
    )

pub same_options-returns-clause-same : goal.same_options-returns-clause-same
same_options-returns-clause-same t c =
    at_other (SameTypes c.args.read.now c.args.written.now (ty.Option c.args.i)) _ _ _ c.in-Option.is
    (through c.same.ensures.same (back (options_same c.args.read.now c.args.written.now _ _ c.types.ensures c.types-2.ensures (ty.Option c.args.i) (ty.Option c.in-Option.j) _ _ c.option-some.ensures.entry c.option-its.ensures.entry)))

pub same_fixed_length_lists-returns-in_default-clause-same : goal.same_fixed_length_lists-returns-in_default-clause-same
same_fixed_length_lists-returns-in_default-clause-same t c = unlike c.args.read.now c.args.written.now (ty.FixedLengthList c.args.i) c.args.other.now false refl c.requires.known c.requires.other_known (c.in_default.not-FixedLengthList (number_of c.args.other.now))

pub same_fixed_length_lists-same-requires : goal.same_fixed_length_lists-same-requires
same_fixed_length_lists-same-requires t c =
    let a = c.args in (
      omega (arith, depth_here a.read.now.types _ _ _ c.types.ensures c.fixed_length_list-list.ensures.entry),
      (
        parts_known a.read.now.types _ _ _ c.types.ensures c.fixed_length_list-list.ensures.entry 0 c.fixed_length_list-list.result.now.element (omega arith),
        (parts_known a.written.now.types _ _ _ c.types-2.ensures c.fixed_length_list-its.ensures.entry 0 c.fixed_length_list-its.result.now.element (omega arith), c.requires.found),
      ),
    )

pub same_fixed_length_lists-returns-then-list-its-clause-same : goal.same_fixed_length_lists-returns-then-list-its-clause-same
same_fixed_length_lists-returns-then-list-its-clause-same t c =
    at_other (SameTypes c.args.read.now c.args.written.now (ty.FixedLengthList c.args.i)) _ _ _ c.in-FixedLengthList.is
    (through (given _ c.if-list-its.true c.same.ensures.same) (back (fixed_same c.args.read.now c.args.written.now _ _ c.types.ensures c.types-2.ensures (ty.FixedLengthList c.args.i) (ty.FixedLengthList c.in-FixedLengthList.j) _ _ _ _ c.fixed_length_list-list.ensures.entry c.fixed_length_list-its.ensures.entry)))

pub same_fixed_length_lists-returns-else-list-its-clause-same : goal.same_fixed_length_lists-returns-else-list-its-clause-same
same_fixed_length_lists-returns-else-list-its-clause-same t c =
    at_other (SameTypes c.args.read.now c.args.written.now (ty.FixedLengthList c.args.i)) _ _ _ c.in-FixedLengthList.is
    (λ h. absurd (c.if-list-its.false (eqb-true _ _ h)), λ h. absurd (c.if-list-its.false ((fixed_same c.args.read.now c.args.written.now _ _ c.types.ensures c.types-2.ensures (ty.FixedLengthList c.args.i) (ty.FixedLengthList c.in-FixedLengthList.j) _ _ _ _ c.fixed_length_list-list.ensures.entry c.fixed_length_list-its.ensures.entry).0 h).0))

pub same_maps-returns-in_default-clause-same : goal.same_maps-returns-in_default-clause-same
same_maps-returns-in_default-clause-same t c = unlike c.args.read.now c.args.written.now (ty.Map c.args.i) c.args.other.now false refl c.requires.known c.requires.other_known (c.in_default.not-Map (number_of c.args.other.now))

pub same_maps-same-requires : goal.same_maps-same-requires
same_maps-same-requires t c =
    let a = c.args in (
      omega (arith, depth_here a.read.now.types _ _ _ c.types.ensures c.map-map.ensures.entry),
      (
        parts_known a.read.now.types _ _ _ c.types.ensures c.map-map.ensures.entry 0 c.map-map.result.now.key (omega arith),
        (parts_known a.written.now.types _ _ _ c.types-2.ensures c.map-its.ensures.entry 0 c.map-its.result.now.key (omega arith), c.requires.found),
      ),
    )

pub same_maps-same-requires-then-same : goal.same_maps-same-requires-then-same
same_maps-same-requires-then-same t c =
    let a = c.args in (
      omega (arith, depth_here a.read.now.types _ _ _ c.types.ensures c.map-map.ensures.entry),
      (
        parts_known a.read.now.types _ _ _ c.types.ensures c.map-map.ensures.entry 1 c.map-map.result.now.value (omega arith),
        (parts_known a.written.now.types _ _ _ c.types-2.ensures c.map-its.ensures.entry 1 c.map-its.result.now.value (omega arith), c.same.ensures.found),
      ),
    )

pub same_maps-returns-then-same-clause-same : goal.same_maps-returns-then-same-clause-same
same_maps-returns-then-same-clause-same t c =
    at_other (SameTypes c.args.read.now c.args.written.now (ty.Map c.args.i)) _ _ _ c.in-Map.is
    (through (both _ _ c.same.ensures.same c.same-then-same.ensures.same c.if-same.true) (back (maps_same c.args.read.now c.args.written.now _ _ c.types.ensures c.types-2.ensures (ty.Map c.args.i) (ty.Map c.in-Map.j) _ _ _ _ c.map-map.ensures.entry c.map-its.ensures.entry)))

pub same_maps-returns-else-same-clause-same : goal.same_maps-returns-else-same-clause-same
same_maps-returns-else-same-clause-same t c =
    at_other (SameTypes c.args.read.now c.args.written.now (ty.Map c.args.i)) _ _ _ c.in-Map.is
    (never _ c.if-same.false (λ h. untrue _ c.if-same.false c.same.ensures.same ((maps_same c.args.read.now c.args.written.now _ _ c.types.ensures c.types-2.ensures (ty.Map c.args.i) (ty.Map c.in-Map.j) _ _ _ _ c.map-map.ensures.entry c.map-its.ensures.entry).0 h).0))

pub same_records-returns-in_default-clause-same : goal.same_records-returns-in_default-clause-same
same_records-returns-in_default-clause-same t c = unlike c.args.read.now c.args.written.now (ty.Record c.args.i) c.args.other.now false refl c.requires.known c.requires.other_known (c.in_default.not-Record (number_of c.args.other.now))

pub same_records-same_fields-requires : goal.same_records-same_fields-requires
same_records-same_fields-requires t c =
    let a = c.args in
    let mine = record_made a.read.now.types _ a.i _ _ refl (here a.read.now.types _ _ _ c.types.ensures c.record.ensures.entry) c.as_slice-fields.ensures.value in
    let its = record_made a.written.now.types _ c.in-Record.j _ _ refl (here a.written.now.types _ _ _ c.types-2.ensures c.record-2.ensures.entry) c.as_slice-others.ensures.value in
    (omega (arith, mine.0.1), (mine.1, (its.1, c.requires.found)))

pub same_records-returns-clause-same : goal.same_records-returns-clause-same
same_records-returns-clause-same t c =
    at_other (SameTypes c.args.read.now c.args.written.now (ty.Record c.args.i)) _ _ _ c.in-Record.is
    (through c.same_fields.ensures.same (back (records_same c.args.read.now c.args.written.now _ _ c.types.ensures c.types-2.ensures (ty.Record c.args.i) (ty.Record c.in-Record.j) _ _ _ _
    c.as_slice-fields.ensures.value c.as_slice-others.ensures.value c.record.ensures.entry c.record-2.ensures.entry)))

pub same_tuples-same_members-requires : goal.same_tuples-same_members-requires
same_tuples-same_members-requires t c =
    let a = c.args in
    let mine = tuple_made a.read.now.types _ a.i _ _ refl (here a.read.now.types _ _ _ c.types.ensures c.tuple.ensures.entry) c.as_slice-types.ensures.value in
    let its = tuple_made a.written.now.types _ c.args.j _ _ refl (here a.written.now.types _ _ _ c.types-2.ensures c.tuple-2.ensures.entry) c.as_slice-others.ensures.value in
    (omega (arith, mine.0.1), (mine.1, (its.1, c.requires.found)))

pub same_tuples-returns-clause-same : goal.same_tuples-returns-clause-same
same_tuples-returns-clause-same t c =
    through c.same_members.ensures.same (back (tuples_same c.args.read.now c.args.written.now _ _ c.types.ensures c.types-2.ensures (ty.Tuple c.args.i) (ty.Tuple c.args.j) _ _ _ _
    c.as_slice-types.ensures.value c.as_slice-others.ensures.value c.tuple.ensures.entry c.tuple-2.ensures.entry))

pub same_tuples-returns-clause-members : goal.same_tuples-returns-clause-members
same_tuples-returns-clause-members t c =
    through c.same_members.ensures.same (tuple_rows c.args.read.now c.args.written.now _ _ c.types.ensures c.types-2.ensures c.args.i c.args.j _ _
    (c.as_slice-types.ensures.value ∙ c.tuple.ensures.types) (c.as_slice-others.ensures.value ∙ c.tuple-2.ensures.types))

pub same_results-returns-in_default-clause-same : goal.same_results-returns-in_default-clause-same
same_results-returns-in_default-clause-same t c = unlike c.args.read.now c.args.written.now (ty.Result c.args.i) c.args.other.now false refl c.requires.known c.requires.other_known (c.in_default.not-Result (number_of c.args.other.now))

pub same_results-same_payloads-requires : goal.same_results-same_payloads-requires
same_results-same_payloads-requires t c =
    let a = c.args in
    let mine = result_made a.read.now.types _ a.i _ _ refl (here a.read.now.types _ _ _ c.types.ensures c.result-result.ensures.entry) in
    let its = result_made a.written.now.types _ c.in-Result.j _ _ refl (here a.written.now.types _ _ _ c.types-2.ensures c.result-its.ensures.entry) in
    (omega (arith, mine.0.1), (mine.1, (its.1, c.requires.found)))

pub same_results-returns-clause-same : goal.same_results-returns-clause-same
same_results-returns-clause-same t c =
    at_other (SameTypes c.args.read.now c.args.written.now (ty.Result c.args.i)) _ _ _ c.in-Result.is
    (through c.same_payloads.ensures.same (back (results_same c.args.read.now c.args.written.now _ _ c.types.ensures c.types-2.ensures (ty.Result c.args.i) (ty.Result c.in-Result.j) _ _ _ _ c.result-result.ensures.entry c.result-its.ensures.entry)))

pub same_variants-returns-in_default-clause-same : goal.same_variants-returns-in_default-clause-same
same_variants-returns-in_default-clause-same t c = unlike c.args.read.now c.args.written.now (ty.Variant c.args.i) c.args.other.now false refl c.requires.known c.requires.other_known (c.in_default.not-Variant (number_of c.args.other.now))

pub same_variants-same_payloads-requires : goal.same_variants-same_payloads-requires
same_variants-same_payloads-requires t c =
    let a = c.args in
    let mine = variant_made a.read.now.types _ a.i _ _ refl (here a.read.now.types _ _ _ c.types.ensures c.variant.ensures.entry) (c.as_slice-then-are_same_names.ensures ∙ c.values-payloads.ensures.rest) in
    let its = variant_made a.written.now.types _ c.in-Variant.j _ _ refl (here a.written.now.types _ _ _ c.types-2.ensures c.variant-2.ensures.entry) (c.as_slice-then-are_same_names-2.ensures ∙ c.values-other_payloads.ensures.rest) in
    (omega (arith, mine.0.1), (mine.1, (its.1, c.requires.found)))

pub same_variants-returns-then-are_same_names-clause-same : goal.same_variants-returns-then-are_same_names-clause-same
same_variants-returns-then-are_same_names-clause-same t c =
    at_other (SameTypes c.args.read.now c.args.written.now (ty.Variant c.args.i)) _ _ _ c.in-Variant.is
    (through (both _ _ c.are_same_names.ensures c.same_payloads.ensures.same c.if-are_same_names.true) (back (
    rows_same c.args.read.now c.args.written.now _ _ c.types.ensures c.types-2.ensures (ty.Variant c.args.i) (ty.Variant c.in-Variant.j) _ _ _ _ _ _ (c.as_slice.ensures ∙ c.keys-names.ensures.rest) (c.as_slice-2.ensures ∙ c.keys-other_names.ensures.rest) (c.as_slice-then-are_same_names.ensures ∙ c.values-payloads.ensures.rest) (c.as_slice-then-are_same_names-2.ensures ∙ c.values-other_payloads.ensures.rest) c.variant.ensures.entry c.variant-2.ensures.entry)))

pub same_variants-returns-else-are_same_names-clause-same : goal.same_variants-returns-else-are_same_names-clause-same
same_variants-returns-else-are_same_names-clause-same t c =
    at_other (SameTypes c.args.read.now c.args.written.now (ty.Variant c.args.i)) _ _ _ c.in-Variant.is
    (never _ c.if-are_same_names.false (λ h. untrue _ c.if-are_same_names.false c.are_same_names.ensures ((
    rows_same c.args.read.now c.args.written.now _ _ c.types.ensures c.types-2.ensures (ty.Variant c.args.i) (ty.Variant c.in-Variant.j) _ _ _ _ _ _ (c.as_slice.ensures ∙ c.keys-names.ensures.rest) (c.as_slice-2.ensures ∙ c.keys-other_names.ensures.rest) refl refl c.variant.ensures.entry c.variant-2.ensures.entry).0 h).0))

pub same_fields-returns-then-fields-others-clause-same : goal.same_fields-returns-then-fields-others-clause-same
same_fields-returns-then-fields-others-clause-same t c = never false refl (λ h. c.if-fields-others.true (fields_long (SameResource c.args.read.now c.args.written.now) c.args.read.now.types c.args.written.now.types c.args.fields.now c.args.others.now h))

pub same_fields-loop-k-init : goal.same_fields-loop-k-init
same_fields-loop-k-init t c = record { long = c.if-fields-others.false; found = c.requires.found; left = (λ h. h, λ h. h) }

pub same_fields-returns-then-ne-clause-same : goal.same_fields-returns-then-ne-clause-same
same_fields-returns-then-ne-clause-same t c = never false refl (stopped c.loop-k.invariant.left (fields_at (SameResource c.args.read.now c.args.written.now) c.args.read.now.types c.args.written.now.types c.args.fields.now c.args.others.now c.loop-k.k c.index-fields-k.result c.index-others-k.result c.index-fields-k.is c.index-others-k.is c.loop-k-test.true (omega (arith, c.loop-k-test.true, c.loop-k.invariant.long))) (λ h. other_bytes c.index-fields-k.result.name c.index-others-k.result.name _ c.ne.ensures c.if-ne.true h.0))

pub same_fields-returns-then-not-same-clause-same : goal.same_fields-returns-then-not-same-clause-same
same_fields-returns-then-not-same-clause-same t c = never false refl (stopped c.loop-k.invariant.left (fields_at (SameResource c.args.read.now c.args.written.now) c.args.read.now.types c.args.written.now.types c.args.fields.now c.args.others.now c.loop-k.k c.index-fields-k.result c.index-others-k.result c.index-fields-k.is c.index-others-k.is c.loop-k-test.true (omega (arith, c.loop-k-test.true, c.loop-k.invariant.long))) (λ h. untrue _ c.if-not-same.true c.same.ensures.same h.1))

pub same_fields-loop-k-preserved : goal.same_fields-loop-k-preserved
same_fields-loop-k-preserved t c = record { long = c.loop-k.invariant.long; found = c.same.ensures.found; left = more c.loop-k.invariant.left (fields_at (SameResource c.args.read.now c.args.written.now) c.args.read.now.types c.args.written.now.types c.args.fields.now c.args.others.now c.loop-k.k c.index-fields-k.result c.index-others-k.result c.index-fields-k.is c.index-others-k.is c.loop-k-test.true (omega (arith, c.loop-k-test.true, c.loop-k.invariant.long))) ((same_bytes c.index-fields-k.result.name c.index-others-k.result.name _ c.ne.ensures c.if-ne.false, c.same.ensures.same.0 c.if-not-same.false)) }

pub same_fields-returns-clause-same : goal.same_fields-returns-clause-same
same_fields-returns-clause-same t c =
    let last = fields_end (SameResource c.args.read.now c.args.written.now) c.args.read.now.types c.args.written.now.types c.args.fields.now c.args.others.now c.loop-k.k (omega (arith, c.loop-k-test.false, c.loop-k.auto.k-end)) (omega (arith, c.loop-k-test.false, c.loop-k.auto.k-end, c.loop-k.invariant.long)) in
    (λ h. c.loop-k.invariant.left.1 last, λ h. refl)

pub same_fields-same-requires : goal.same_fields-same-requires
same_fields-same-requires t c =
    let a = c.args in
    let mine = field_part a.read.now.types a.fields.now c.loop-k.k c.index-fields-k.result c.index-fields-k.result c.index-fields-k.is c.loop-k-test.true c.requires.known in
    let its = field_part a.written.now.types a.others.now c.loop-k.k c.index-others-k.result c.index-others-k.result c.index-others-k.is (omega (arith, c.loop-k-test.true, c.loop-k.invariant.long)) c.requires.other_known in
    (omega (arith, mine.shallow), (mine.known, (its.known, c.loop-k.invariant.found)))

pub same_members-returns-then-types-others-clause-same : goal.same_members-returns-then-types-others-clause-same
same_members-returns-then-types-others-clause-same t c = never false refl (λ h. c.if-types-others.true (members_long (SameResource c.args.read.now c.args.written.now) c.args.read.now.types c.args.written.now.types c.args.types.now c.args.others.now h))

pub same_members-loop-k-init : goal.same_members-loop-k-init
same_members-loop-k-init t c = record { long = c.if-types-others.false; found = c.requires.found; left = (λ h. h, λ h. h) }

pub same_members-returns-then-not-same-clause-same : goal.same_members-returns-then-not-same-clause-same
same_members-returns-then-not-same-clause-same t c = never false refl (stopped c.loop-k.invariant.left (members_at (SameResource c.args.read.now c.args.written.now) c.args.read.now.types c.args.written.now.types c.args.types.now c.args.others.now c.loop-k.k c.index-types-k.result c.index-others-k.result c.index-types-k.is c.index-others-k.is c.loop-k-test.true (omega (arith, c.loop-k-test.true, c.loop-k.invariant.long))) (untrue _ c.if-not-same.true c.same.ensures.same))

pub same_members-loop-k-preserved : goal.same_members-loop-k-preserved
same_members-loop-k-preserved t c = record { long = c.loop-k.invariant.long; found = c.same.ensures.found; left = more c.loop-k.invariant.left (members_at (SameResource c.args.read.now c.args.written.now) c.args.read.now.types c.args.written.now.types c.args.types.now c.args.others.now c.loop-k.k c.index-types-k.result c.index-others-k.result c.index-types-k.is c.index-others-k.is c.loop-k-test.true (omega (arith, c.loop-k-test.true, c.loop-k.invariant.long))) (c.same.ensures.same.0 c.if-not-same.false) }

pub same_members-returns-clause-same : goal.same_members-returns-clause-same
same_members-returns-clause-same t c =
    let last = members_end (SameResource c.args.read.now c.args.written.now) c.args.read.now.types c.args.written.now.types c.args.types.now c.args.others.now c.loop-k.k (omega (arith, c.loop-k-test.false, c.loop-k.auto.k-end)) (omega (arith, c.loop-k-test.false, c.loop-k.auto.k-end, c.loop-k.invariant.long)) in
    (λ h. c.loop-k.invariant.left.1 last, λ h. refl)

pub same_members-same-requires : goal.same_members-same-requires
same_members-same-requires t c =
    let a = c.args in
    let mine = member_part a.read.now.types a.types.now c.loop-k.k c.index-types-k.result c.index-types-k.result c.index-types-k.is c.loop-k-test.true c.requires.known in
    let its = member_part a.written.now.types a.others.now c.loop-k.k c.index-others-k.result c.index-others-k.result c.index-others-k.is (omega (arith, c.loop-k-test.true, c.loop-k.invariant.long)) c.requires.other_known in
    (omega (arith, mine.shallow), (mine.known, (its.known, c.loop-k.invariant.found)))

pub same_payloads-returns-then-payloads-others-clause-same : goal.same_payloads-returns-then-payloads-others-clause-same
same_payloads-returns-then-payloads-others-clause-same t c = never false refl (λ h. c.if-payloads-others.true (payloads_long (SameResource c.args.read.now c.args.written.now) (all_shapes c.args.read.now.types) (all_shapes c.args.written.now.types) c.args.payloads.now c.args.others.now h))

pub same_payloads-loop-k-init : goal.same_payloads-loop-k-init
same_payloads-loop-k-init t c = record { long = c.if-payloads-others.false; found = c.requires.found; left = (λ h. h, λ h. h) }

pub same_payloads-returns-then-not-same_payload-clause-same : goal.same_payloads-returns-then-not-same_payload-clause-same
same_payloads-returns-then-not-same_payload-clause-same t c = never false refl (stopped c.loop-k.invariant.left (payloads_at (SameResource c.args.read.now c.args.written.now) (all_shapes c.args.read.now.types) (all_shapes c.args.written.now.types) c.args.payloads.now c.args.others.now c.loop-k.k c.index-payloads-k.result c.index-others-k.result c.index-payloads-k.is c.index-others-k.is c.loop-k-test.true (omega (arith, c.loop-k-test.true, c.loop-k.invariant.long))) (untrue _ c.if-not-same_payload.true c.same_payload.ensures.same))

pub same_payloads-loop-k-preserved : goal.same_payloads-loop-k-preserved
same_payloads-loop-k-preserved t c = record { long = c.loop-k.invariant.long; found = c.same_payload.ensures.found; left = more c.loop-k.invariant.left (payloads_at (SameResource c.args.read.now c.args.written.now) (all_shapes c.args.read.now.types) (all_shapes c.args.written.now.types) c.args.payloads.now c.args.others.now c.loop-k.k c.index-payloads-k.result c.index-others-k.result c.index-payloads-k.is c.index-others-k.is c.loop-k-test.true (omega (arith, c.loop-k-test.true, c.loop-k.invariant.long))) (c.same_payload.ensures.same.0 c.if-not-same_payload.false) }

pub same_payloads-returns-clause-same : goal.same_payloads-returns-clause-same
same_payloads-returns-clause-same t c =
    let last = payloads_end (SameResource c.args.read.now c.args.written.now) (all_shapes c.args.read.now.types) (all_shapes c.args.written.now.types) c.args.payloads.now c.args.others.now c.loop-k.k (omega (arith, c.loop-k-test.false, c.loop-k.auto.k-end)) (omega (arith, c.loop-k-test.false, c.loop-k.auto.k-end, c.loop-k.invariant.long)) in
    (λ h. c.loop-k.invariant.left.1 last, λ h. refl)

pub same_payloads-same_payload-requires : goal.same_payloads-same_payload-requires
same_payloads-same_payload-requires t c =
    let a = c.args in
    let lt = c.loop-k-test.true in (
      omega (arith, payload_falls (all_shapes a.read.now.types) a.payloads.now c.loop-k.k c.index-payloads-k.result c.index-payloads-k.is lt),
      (
        subst (KnowsPayload a.read.now.types) (sym c.index-payloads-k.is) (c.requires.known c.loop-k.k c.index-payloads-k.result lt),
        (subst (KnowsPayload a.written.now.types) (sym c.index-others-k.is) (c.requires.other_known c.loop-k.k c.index-others-k.result (omega (arith, lt, c.loop-k.invariant.long))), c.loop-k.invariant.found),
      ),
    )

pub same_payload-same-requires : goal.same_payload-same-requires
same_payload-same-requires t c =
    let p = c.in-Some-Some in (
      omega (arith, ap (depth_of_payload (all_shapes c.args.read.now.types)) p.is-0),
      (subst (KnowsPayload c.args.read.now.types) p.is-0 c.requires.known, (subst (KnowsPayload c.args.written.now.types) p.is-1 c.requires.other_known, c.requires.found)),
    )

pub same_payload-returns-in-Some-Some-clause-same : goal.same_payload-returns-in-Some-Some-clause-same
same_payload-returns-in-Some-Some-clause-same t c = some_payloads (SameResource c.args.read.now c.args.written.now) (all_shapes c.args.read.now.types) (all_shapes c.args.written.now.types) _ _ _ _ _ c.in-Some-Some.is-0 c.in-Some-Some.is-1 c.same.ensures.same

pub same_payload-returns-in-None-None-clause-same : goal.same_payload-returns-in-None-None-clause-same
same_payload-returns-in-None-None-clause-same t c = (λ h. no_payloads (SameResource c.args.read.now c.args.written.now) (all_shapes c.args.read.now.types) (all_shapes c.args.written.now.types) _ _ c.in-None-None.is-0 c.in-None-None.is-1, λ h. refl)

pub same_payload-returns-in_default-clause-same : goal.same_payload-returns-in_default-clause-same
same_payload-returns-in_default-clause-same t c = never false refl (first_alone (SameResource c.args.read.now c.args.written.now) (all_shapes c.args.read.now.types) (all_shapes c.args.written.now.types) _ _ _ c.in_default.is-0 c.in_default.is-1)

pub same_payload-returns-in_default-2-clause-same : goal.same_payload-returns-in_default-2-clause-same
same_payload-returns-in_default-2-clause-same t c = never false refl (second_alone (SameResource c.args.read.now c.args.written.now) (all_shapes c.args.read.now.types) (all_shapes c.args.written.now.types) _ _ _ c.in_default.is-0 c.in_default.is-1)

pub compare-same_lists-requires : goal.compare-same_lists-requires
compare-same_lists-requires t c =
    let is = c.in-List.is in
    (omega (arith, ap (λ x. depth (shape_of c.args.read.now.types x)) is), (subst (Knows c.args.read.now.types) is c.requires.known, (c.requires.other_known, c.requires.found)))

pub compare-returns-in-List-clause-same : goal.compare-returns-in-List-clause-same
compare-returns-in-List-clause-same t c = at_other (λ x. SameTypes c.args.read.now c.args.written.now x c.args.other.now) _ _ _ c.in-List.is c.same_lists.ensures.same

pub compare-same_fixed_length_lists-requires : goal.compare-same_fixed_length_lists-requires
compare-same_fixed_length_lists-requires t c =
    let is = c.in-FixedLengthList.is in
    (omega (arith, ap (λ x. depth (shape_of c.args.read.now.types x)) is), (subst (Knows c.args.read.now.types) is c.requires.known, (c.requires.other_known, c.requires.found)))

pub compare-returns-in-FixedLengthList-clause-same : goal.compare-returns-in-FixedLengthList-clause-same
compare-returns-in-FixedLengthList-clause-same t c = at_other (λ x. SameTypes c.args.read.now c.args.written.now x c.args.other.now) _ _ _ c.in-FixedLengthList.is c.same_fixed_length_lists.ensures.same

pub compare-same_maps-requires : goal.compare-same_maps-requires
compare-same_maps-requires t c =
    let is = c.in-Map.is in
    (omega (arith, ap (λ x. depth (shape_of c.args.read.now.types x)) is), (subst (Knows c.args.read.now.types) is c.requires.known, (c.requires.other_known, c.requires.found)))

pub compare-returns-in-Map-clause-same : goal.compare-returns-in-Map-clause-same
compare-returns-in-Map-clause-same t c = at_other (λ x. SameTypes c.args.read.now c.args.written.now x c.args.other.now) _ _ _ c.in-Map.is c.same_maps.ensures.same

pub compare-same_records-requires : goal.compare-same_records-requires
compare-same_records-requires t c =
    let is = c.in-Record.is in
    (omega (arith, ap (λ x. depth (shape_of c.args.read.now.types x)) is), (subst (Knows c.args.read.now.types) is c.requires.known, (c.requires.other_known, c.requires.found)))

pub compare-returns-in-Record-clause-same : goal.compare-returns-in-Record-clause-same
compare-returns-in-Record-clause-same t c = at_other (λ x. SameTypes c.args.read.now c.args.written.now x c.args.other.now) _ _ _ c.in-Record.is c.same_records.ensures.same

pub compare-same_variants-requires : goal.compare-same_variants-requires
compare-same_variants-requires t c =
    let is = c.in-Variant.is in
    (omega (arith, ap (λ x. depth (shape_of c.args.read.now.types x)) is), (subst (Knows c.args.read.now.types) is c.requires.known, (c.requires.other_known, c.requires.found)))

pub compare-returns-in-Variant-clause-same : goal.compare-returns-in-Variant-clause-same
compare-returns-in-Variant-clause-same t c = at_other (λ x. SameTypes c.args.read.now c.args.written.now x c.args.other.now) _ _ _ c.in-Variant.is c.same_variants.ensures.same

pub compare-same_options-requires : goal.compare-same_options-requires
compare-same_options-requires t c =
    let is = c.in-Option.is in
    (omega (arith, ap (λ x. depth (shape_of c.args.read.now.types x)) is), (subst (Knows c.args.read.now.types) is c.requires.known, (c.requires.other_known, c.requires.found)))

pub compare-returns-in-Option-clause-same : goal.compare-returns-in-Option-clause-same
compare-returns-in-Option-clause-same t c = at_other (λ x. SameTypes c.args.read.now c.args.written.now x c.args.other.now) _ _ _ c.in-Option.is c.same_options.ensures.same

pub compare-same_results-requires : goal.compare-same_results-requires
compare-same_results-requires t c =
    let is = c.in-Result.is in
    (omega (arith, ap (λ x. depth (shape_of c.args.read.now.types x)) is), (subst (Knows c.args.read.now.types) is c.requires.known, (c.requires.other_known, c.requires.found)))

pub compare-returns-in-Result-clause-same : goal.compare-returns-in-Result-clause-same
compare-returns-in-Result-clause-same t c = at_other (λ x. SameTypes c.args.read.now c.args.written.now x c.args.other.now) _ _ _ c.in-Result.is c.same_results.ensures.same

pub compare-returns-in-Enum-clause-same : goal.compare-returns-in-Enum-clause-same
compare-returns-in-Enum-clause-same t c = at_other (λ x. SameTypes c.args.read.now c.args.written.now x c.args.other.now) _ _ _ c.in-Enum.is c.same_enums.ensures

pub compare-returns-in-Flags-clause-same : goal.compare-returns-in-Flags-clause-same
compare-returns-in-Flags-clause-same t c = at_other (λ x. SameTypes c.args.read.now c.args.written.now x c.args.other.now) _ _ _ c.in-Flags.is c.same_flags.ensures

pub compare-returns-in-Own-clause-same : goal.compare-returns-in-Own-clause-same
compare-returns-in-Own-clause-same t c = at_other (λ x. SameTypes c.args.read.now c.args.written.now x c.args.other.now) _ _ _ c.in-Own.is c.same_owns.ensures

pub compare-returns-in-Borrow-clause-same : goal.compare-returns-in-Borrow-clause-same
compare-returns-in-Borrow-clause-same t c = at_other (λ x. SameTypes c.args.read.now c.args.written.now x c.args.other.now) _ _ _ c.in-Borrow.is c.same_borrows.ensures

pub compare-same_tuples-requires : goal.compare-same_tuples-requires
compare-same_tuples-requires t c =
    let is = c.in-Tuple.is in (
      omega (arith, ap (λ x. depth (shape_of c.args.read.now.types x)) is),
      (subst (Knows c.args.read.now.types) is c.requires.known, (subst (Knows c.args.written.now.types) c.in-Tuple-other.is c.requires.other_known, c.requires.found)),
    )

pub compare-returns-in-Tuple-other-clause-same : goal.compare-returns-in-Tuple-other-clause-same
compare-returns-in-Tuple-other-clause-same t c =
    at_other (λ x. SameTypes c.args.read.now c.args.written.now x c.args.other.now) _ _ _ c.in-Tuple.is
    (at_other (SameTypes c.args.read.now c.args.written.now (ty.Tuple c.in-Tuple.i)) _ _ _ c.in-Tuple-other.is c.same_tuples.ensures.same)

pub compare-returns-in_default-other-clause-same : goal.compare-returns-in_default-other-clause-same
compare-returns-in_default-other-clause-same t c =
    let is = c.in-Tuple.is in
    at_other (λ x. SameTypes c.args.read.now c.args.written.now x c.args.other.now) _ _ _ is
    (unlike c.args.read.now c.args.written.now (ty.Tuple c.in-Tuple.i) c.args.other.now false refl (subst (Knows c.args.read.now.types) is c.requires.known) c.requires.other_known (c.in_default-other.not-Tuple (number_of c.args.other.now)))

pub compare-returns-in_default-clause-same : goal.compare-returns-in_default-clause-same
compare-returns-in_default-clause-same t c =
    let d = c.in_default in
    plain_same c.args.read.now c.args.written.now c.args.ty.now c.args.other.now _ c.eq.ensures c.requires.known c.requires.other_known
    (plain_left c.args.ty.now d.not-List d.not-FixedLengthList d.not-Map d.not-Record d.not-Tuple d.not-Variant d.not-Option d.not-Result d.not-Enum d.not-Flags d.not-Own d.not-Borrow)

pub same-compare-requires : goal.same-compare-requires
same-compare-requires t c = (omega arith, (c.requires.known, (c.requires.other_known, c.requires.found)))

pub same-compare-is_same-requires : goal.same-compare-is_same-requires
same-compare-is_same-requires t c = (omega arith, (c.requires.known, (c.requires.other_known, c.requires.found)))

pub same-returns-then-has-clause-same : goal.same-returns-then-has-clause-same
same-returns-then-has-clause-same t c =
    let here = placed c.args.read.now c.args.written.now c.args.ty.now c.args.other.now c.in-Some-Some.i c.in-Some-Some.j (sym c.place.ensures ∙ c.in-Some-Some.is-0) (sym c.place-2.ensures ∙ c.in-Some-Some.is-1) in
    (λ h. here.0 (c.has.ensures c.args.read.now c.args.written.now c.requires.found c.if-has.true), λ h. refl)

pub same-returns-then-is_same-clause-found : goal.same-returns-then-is_same-clause-found
same-returns-then-is_same-clause-found t c =
    let here = placed c.args.read.now c.args.written.now c.args.ty.now c.args.other.now c.in-Some-Some.i c.in-Some-Some.j (sym c.place.ensures ∙ c.in-Some-Some.is-0) (sym c.place-2.ensures ∙ c.in-Some-Some.is-1) in
    c.add.ensures c.args.read.now c.args.written.now c.compare-is_same.ensures.found (here.1 (c.compare-is_same.ensures.same.0 c.if-is_same.true))
