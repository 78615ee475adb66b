use Rattle.std.proofs.Common.{Option, Some, map, option_and_then, ap, arith, refl, string_bytes, subst, sym, ◌∙◌}
use Rattle.serde_json.specs.Find.{as_array, as_str}
use Rattle.serde_json.specs.View.{view}
use Rattle.canon_json.specs.Json.{ReadsAs, each_of}
use Rattle.canon_val.specs.declared.val.Val.TheVariants as val
use Rattle.canon_literals.specs.Literals.{Literal, enum, fields_view, fixed, flags, list, literal_view, literals_of, literals_view, option, pair_view, pairs, literal_pairs, pairs_view, payload_view, text, tuple}
use Rattle.canon_script.specs.Values.{optional_of, pair_of, pairs_in, value_by, value_of, values_of}
use Rattle.canon_script.specs.declared.kinds.ValueKind.TheVariants as kind
use Rattle.canon_script.proofs.Cases.{case_given, case_refused, first_in_two, script_key_refused, option_by, outcome_by, pair_given, payload_within, result_reads, script_value_refused, variant_by, variant_reads}
use Rattle.canon_script.proofs.Members.{array_end, array_refused, array_step, enum_by, field_step, fixed_by, flags_by, in_array, in_form, in_two, list_by, made_of, map_by, map_grown, no_value, record_end, record_refused, scalar_is, text_by, tuple_by, value_is}
use Rattle.canon_literals.proofs.Views.{literal-Enum, literal-FixedLengthList, literal-Flags, literal-List, literal-Map, literal-Option, literal-Record, literal-String, literal-Tuple}
use Rattle.canon_script.proofs.values.+values.Goals as goal

pub record_of-value_of-requires : goal.record_of-value_of-requires
record_of-value_of-requires t c = (
  omega (
    arith,
    in_two (view c.item-item.result) (view c.in-Some-two.name.now) (view c.in-Some-two.form.now) c.in-Some-two.ensures,
    in_array (view c.args.v.now) c.in-Some.items.now.items c.deref-item-items.result.now c.loop-item.item-index c.item-item.result c.in-Some.ensures c.deref-item-items.ensures.value c.loop-item-test.true c.item-item.is,
  ),
  tt,
)

pub record_of-loop-item-preserved : goal.record_of-loop-item-preserved
record_of-loop-item-preserved t c =
    field_step (fields_view c.loop-item.fields.items) (fields_view c.keep_field.new.fields.items) c.deref-item-items.result.now c.loop-item.item-index c.item-item.result (view c.in-Some-two.name.now) (view c.in-Some-two.form.now)
    c.in-Some-as_str.name.now (literal_view c.in-Ok.value) c.loop-item-test.true c.item-item.is c.in-Some-two.ensures c.in-Some-as_str.ensures c.in-Ok.ensures c.in_ok-keep_field-in-Ok.ensures.ok c.loop-item.invariant

pub record_of-returns : goal.record_of-returns
record_of-returns t c =
    record_end (view c.args.v.now) c.in-Some.items.now.items c.deref-item-items.result.now c.loop-item.item-index
    (fields_view c.loop-item.fields.items) c.in-Some.ensures c.deref-item-items.ensures.value c.loop-item-test.false c.loop-item.invariant
    ∙ ap (λ x. Some x) (sym (literal-Record c.loop-item.fields))

pub values_of-value_of-requires : goal.values_of-value_of-requires
values_of-value_of-requires t c =
    (omega (arith, in_array (view c.args.v.now) c.in-Some.items.now.items c.deref-item-items.result.now c.loop-item.item-index c.item-item.result c.in-Some.ensures c.deref-item-items.ensures.value c.loop-item-test.true c.item-item.is), tt)

pub values_of-returns-in-Err : goal.values_of-returns-in-Err
values_of-returns-in-Err t c =
    array_refused values_of value_of literal_view c.in-Err.e (view c.args.v.now) c.in-Some.items.now.items c.deref-item-items.result.now c.loop-item.item-index c.item-item.result (literals_view c.loop-item.values.items)
    (λ d ds. refl) c.in-Some.ensures c.deref-item-items.ensures.value c.loop-item-test.true c.item-item.is c.loop-item.invariant c.in-Err.ensures

pub values_of-returns : goal.values_of-returns
values_of-returns t c =
    array_end values_of (view c.args.v.now) c.in-Some.items.now.items c.deref-item-items.result.now c.loop-item.item-index
    (literals_view c.loop-item.values.items) refl c.in-Some.ensures c.deref-item-items.ensures.value c.loop-item-test.false c.loop-item.invariant

pub pairs_of-pair_of-requires : goal.pairs_of-pair_of-requires
pairs_of-pair_of-requires t c =
    (omega (arith, in_array (view c.args.v.now) c.in-Some.items.now.items c.deref-item-items.result.now c.loop-item.item-index c.item-item.result c.in-Some.ensures c.deref-item-items.ensures.value c.loop-item-test.true c.item-item.is), tt)

pub pairs_of-returns-in-Err : goal.pairs_of-returns-in-Err
pairs_of-returns-in-Err t c =
    array_refused pairs_in pair_of pair_view c.in-Err.e (view c.args.v.now) c.in-Some.items.now.items c.deref-item-items.result.now c.loop-item.item-index c.item-item.result (pairs_view c.loop-item.pairs.items)
    (λ d ds. refl) c.in-Some.ensures c.deref-item-items.ensures.value c.loop-item-test.true c.item-item.is c.loop-item.invariant c.in-Err.ensures

pub pairs_of-returns : goal.pairs_of-returns
pairs_of-returns t c =
    array_end pairs_in (view c.args.v.now) c.in-Some.items.now.items c.deref-item-items.result.now c.loop-item.item-index
    (pairs_view c.loop-item.pairs.items) refl c.in-Some.ensures c.deref-item-items.ensures.value c.loop-item-test.false c.loop-item.invariant

pub value_of-returns-in-Some : goal.value_of-returns-in-Some
value_of-returns-in-Some t c = subst (λ (o : Option Literal). ReadsAs literal_view c.value_by.result o) (sym (value_is (view c.args.v.now) (view c.in-Some.form.now) c.in-Some.kind c.in-Some.ensures)) c.value_by.ensures

pub value_of-returns-in-None : goal.value_of-returns-in-None
value_of-returns-in-None t c = no_value (view c.args.v.now) c.in-None.ensures

pub value_of-value_by-requires : goal.value_of-value_by-requires
value_of-value_by-requires t c = (omega (arith, in_form (view c.args.v.now) (view c.in-Some.form.now) c.in-Some.kind c.in-Some.ensures), tt)

pub value_by-returns-in_default : goal.value_by-returns-in_default
value_by-returns-in_default t c =
    let other = c.in_default in
    subst (λ (o : Option Literal). ReadsAs literal_view c.scalar_of.result o)
    (scalar_is (view c.args.form.now) c.args.kind (record {
      no_text = other.not-String;
      no_list = other.not-List;
      no_map = other.not-Map;
      no_record = other.not-Record;
      no_tuple = other.not-Tuple;
      no_variant = other.not-Variant;
      no_enum = other.not-Enum;
      no_option = other.not-Option;
      no_result = other.not-Result;
      no_flags = other.not-Flags;
      no_fixed = other.not-FixedLengthList;
    }))
    c.scalar_of.ensures

pub value_by-returns-in-String : goal.value_by-returns-in-String
value_by-returns-in-String t c =
    let form = view c.args.form.now in
    made_of val.String (λ name. string_bytes name) text (as_str form) (value_by form c.args.kind) c.name_of.result c.map.result
    (ap (value_by form) c.in-String.is ∙ text_by form)
    literal-String c.name_of.ensures c.map.ensures.cases

pub value_by-returns-in-List : goal.value_by-returns-in-List
value_by-returns-in-List t c =
    let form = view c.args.form.now in
    made_of val.List (λ values. literals_view values.items) (λ xs. list (literals_of xs)) (option_and_then values_of (as_array form)) (value_by form c.args.kind) c.values_of.result c.map-in-List.result
    (ap (value_by form) c.in-List.is ∙ list_by form)
    literal-List c.values_of.ensures c.map-in-List.ensures.cases

pub value_by-returns-in-Map : goal.value_by-returns-in-Map
value_by-returns-in-Map t c =
    let form = view c.args.form.now in
    made_of val.Map (λ pairs. pairs_view pairs.items) (λ ps. pairs (literal_pairs ps)) (option_and_then pairs_in (as_array form)) (value_by form c.args.kind) c.pairs_of.result c.map-in-Map.result
    (ap (value_by form) c.in-Map.is ∙ map_by form)
    literal-Map c.pairs_of.ensures c.map-in-Map.ensures.cases

pub value_by-returns-in-Tuple : goal.value_by-returns-in-Tuple
value_by-returns-in-Tuple t c =
    let form = view c.args.form.now in
    made_of val.Tuple (λ values. literals_view values.items) (λ xs. tuple (literals_of xs)) (option_and_then values_of (as_array form)) (value_by form c.args.kind) c.values_of-in-Tuple.result c.map-in-Tuple.result
    (ap (value_by form) c.in-Tuple.is ∙ tuple_by form)
    literal-Tuple c.values_of-in-Tuple.ensures c.map-in-Tuple.ensures.cases

pub value_by-returns-in-Enum : goal.value_by-returns-in-Enum
value_by-returns-in-Enum t c =
    let form = view c.args.form.now in
    made_of val.Enum (λ name. string_bytes name) enum (as_str form) (value_by form c.args.kind) c.name_of-in-Enum.result c.map-in-Enum.result
    (ap (value_by form) c.in-Enum.is ∙ enum_by form)
    literal-Enum c.name_of-in-Enum.ensures c.map-in-Enum.ensures.cases

pub value_by-returns-in-Option : goal.value_by-returns-in-Option
value_by-returns-in-Option t c =
    let form = view c.args.form.now in
    made_of val.Option payload_view option (optional_of form) (value_by form c.args.kind) c.optional_of.result c.map-in-Option.result
    (ap (value_by form) c.in-Option.is ∙ option_by form)
    literal-Option c.optional_of.ensures c.map-in-Option.ensures.cases

pub value_by-returns-in-Flags : goal.value_by-returns-in-Flags
value_by-returns-in-Flags t c =
    let form = view c.args.form.now in
    made_of val.Flags (λ names. map (λ name. string_bytes name) names.items) flags (each_of as_str form) (value_by form c.args.kind) c.names_of.result c.map-in-Flags.result
    (ap (value_by form) c.in-Flags.is ∙ flags_by form)
    literal-Flags c.names_of.ensures c.map-in-Flags.ensures.cases

pub value_by-returns-in-FixedLengthList : goal.value_by-returns-in-FixedLengthList
value_by-returns-in-FixedLengthList t c =
    let form = view c.args.form.now in
    made_of val.FixedLengthList (λ values. literals_view values.items) (λ xs. fixed (literals_of xs)) (option_and_then values_of (as_array form))
    (value_by form c.args.kind) c.values_of-in-FixedLengthList.result c.map-in-FixedLengthList.result
    (ap (value_by form) c.in-FixedLengthList.is ∙ fixed_by form)
    literal-FixedLengthList c.values_of-in-FixedLengthList.ensures c.map-in-FixedLengthList.ensures.cases

pub record_of-returns-in-Err : goal.record_of-returns-in-Err
record_of-returns-in-Err t c =
    record_refused c.in-Err.e (view c.args.v.now) c.in-Some.items.now.items c.deref-item-items.result.now c.loop-item.item-index c.item-item.result (view c.in-Some-two.name.now) (view c.in-Some-two.form.now)
    c.in-Some-as_str.name.now (fields_view c.loop-item.fields.items) c.in-Some.ensures c.deref-item-items.ensures.value c.loop-item-test.true c.item-item.is c.in-Some-two.ensures c.in-Some-as_str.ensures c.loop-item.invariant c.in-Err.ensures

pub pairs_of-loop-item-preserved : goal.pairs_of-loop-item-preserved
pairs_of-loop-item-preserved t c =
    array_step pairs_in pair_of c.deref-item-items.result.now c.loop-item.item-index c.item-item.result (pairs_view c.loop-item.pairs.items) (pairs_view c.keep.new.row.items) (pair_view c.in-Ok.pair)
    (λ d ds. refl) c.loop-item-test.true c.item-item.is c.in-Ok.ensures (map_grown pair_view c.loop-item.pairs.items c.keep.new.row.items c.in-Ok.pair c.in_ok-keep-in-Ok.ensures.ok) c.loop-item.invariant

pub pair_of-value_of-requires : goal.pair_of-value_of-requires
pair_of-value_of-requires t c = (omega (arith, first_in_two (view c.args.v.now) (view c.in-Some.key.now) (view c.in-Some.value.now) c.in-Some.ensures), tt)

pub pair_of-value_of-requires-2 : goal.pair_of-value_of-requires-2
pair_of-value_of-requires-2 t c = (omega (arith, in_two (view c.args.v.now) (view c.in-Some.key.now) (view c.in-Some.value.now) c.in-Some.ensures), tt)

pub pair_of-returns-in-Err : goal.pair_of-returns-in-Err
pair_of-returns-in-Err t c = script_key_refused c.in-Err.e (view c.args.v.now) (view c.in-Some.key.now) (view c.in-Some.value.now) c.in-Some.ensures c.in-Err.ensures

pub pair_of-returns-in-Ok-value_of : goal.pair_of-returns-in-Ok-value_of
pair_of-returns-in-Ok-value_of t c =
    pair_given (view c.args.v.now) (view c.in-Some.key.now) (view c.in-Some.value.now) _ _ c.in-Some.ensures c.in-Ok.ensures c.in-Ok-value_of.ensures

pub pair_of-returns-in-Err-value_of : goal.pair_of-returns-in-Err-value_of
pair_of-returns-in-Err-value_of t c =
    script_value_refused c.in-Err-value_of.e (view c.args.v.now) (view c.in-Some.key.now) (view c.in-Some.value.now) _ c.in-Some.ensures c.in-Ok.ensures c.in-Err-value_of.ensures

pub variant_of-payload_of-requires : goal.variant_of-payload_of-requires
variant_of-payload_of-requires t c = (omega (arith, payload_within (view c.args.v.now) _ c.in-Some.name.now c.in-Some.ensures), tt)

pub variant_of-returns-in-Ok : goal.variant_of-returns-in-Ok
variant_of-returns-in-Ok t c =
    let d = view c.args.v.now in
    case_given variant_by d (value_by d kind.Variant) c.in-Some.name.now _ (payload_view c.in-Ok.payload) c.variant_named.result (variant_reads d) c.in-Some.ensures c.in-Ok.ensures c.variant_named.ensures

pub variant_of-returns-in-Err : goal.variant_of-returns-in-Err
variant_of-returns-in-Err t c =
    let d = view c.args.v.now in
    case_refused variant_by d (value_by d kind.Variant) c.in-Some.name.now _ c.in-Err.e (variant_reads d) c.in-Some.ensures c.in-Err.ensures

pub result_of-payload_of-requires : goal.result_of-payload_of-requires
result_of-payload_of-requires t c = (omega (arith, payload_within (view c.args.v.now) _ c.in-Some.name.now c.in-Some.ensures), tt)

pub result_of-returns-in-Ok : goal.result_of-returns-in-Ok
result_of-returns-in-Ok t c =
    let d = view c.args.v.now in
    case_given outcome_by d (value_by d kind.Result) c.in-Some.name.now _ (payload_view c.in-Ok.payload) c.result_named.result (result_reads d) c.in-Some.ensures c.in-Ok.ensures c.result_named.ensures

pub result_of-returns-in-Err : goal.result_of-returns-in-Err
result_of-returns-in-Err t c =
    let d = view c.args.v.now in
    case_refused outcome_by d (value_by d kind.Result) c.in-Some.name.now _ c.in-Err.e (result_reads d) c.in-Some.ensures c.in-Err.ensures

pub values_of-loop-item-preserved : goal.values_of-loop-item-preserved
values_of-loop-item-preserved t c =
    array_step values_of value_of c.deref-item-items.result.now c.loop-item.item-index c.item-item.result (literals_view c.loop-item.values.items) (literals_view c.keep.new.row.items) (literal_view c.in-Ok.value)
    (λ d ds. refl) c.loop-item-test.true c.item-item.is c.in-Ok.ensures (map_grown literal_view c.loop-item.values.items c.keep.new.row.items c.in-Ok.value c.in_ok-keep-in-Ok.ensures.ok) c.loop-item.invariant
