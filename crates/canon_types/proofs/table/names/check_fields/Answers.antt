use Rattle.std.proofs.Common.{Bool, Some, arith, ◌<◌, ◌≤◌, get_or, length, ◌≡◌, ◌+◌, Bor, List, ℕ, [], ◌∷◌, ◌++◌, ap, drop, false, map, refl, string_bytes, sym, true, ◌∙◌}
use Rattle.std.proofs.lemmas.List.{drop_all, length-map}
use Rattle.std.specs.Prelude.{bytes_eq}
use Rattle.std.specs.List.{list_any}
use Rattle.canon_model.specs.Shape.{Name}
use Rattle.canon_types.specs.declared.types.RecordField.{RecordField}
use Rattle.canon_types.specs.Refusal.{has_repeats, names_refusal, repeats_after}
use Rattle.canon_types.proofs.Names.{found, is_new, keys_new, not_false, not_true, rest_more}
use Rattle.canon_types.proofs.Made.{caused, names_many, names_pass, names_repeat}
use Rattle.canon_types.proofs.table.names.check_fields.Goals as goal

abbrev text_of : Bor (List ℕ) → Name
text_of s = s.now

abbrev same_text : Bor (List ℕ) → Bor (List ℕ) → Bool
same_text x y = bytes_eq x.now y.now

abbrev names_of_fields : List RecordField → List Name
names_of_fields fields = map (λ f. string_bytes f.name) fields

-- the name at a place, and those behind it
at_name : (before : List Name) (fields : List RecordField) (i : ℕ) (field : RecordField) (text : Name) → i < length fields → field ≡ get_or fields i field → text ≡ string_bytes field.name
    → repeats_after before (names_of_fields (drop i fields)) ≡ has_repeats (names_of_fields fields)
    → repeats_after before (text ∷ names_of_fields (drop (i + 1) fields)) ≡ has_repeats (names_of_fields fields)
at_name before fields i field text lt is same h =
    ap (λ (n : Name). repeats_after before (n ∷ names_of_fields (drop (i + 1) fields))) same
    ∙ ap (repeats_after before) (sym (rest_more (λ (f : RecordField). string_bytes f.name) fields i field lt is)) ∙ h

at_end : (before : List Name) (fields : List RecordField) (i : ℕ) → length fields ≤ i → repeats_after before (names_of_fields (drop i fields)) ≡ has_repeats (names_of_fields fields) → has_repeats (names_of_fields fields) ≡ false
at_end before fields i all h = sym h ∙ ap (λ (fs : List RecordField). repeats_after before (names_of_fields fs)) (drop_all i fields all)

name_count : (fields : List RecordField) → length (names_of_fields fields) ≡ length fields
name_count fields = length-map fields (λ (f : RecordField). string_bytes f.name)

pub returns-in_err-check_count-clause-cause : goal.returns-in_err-check_count-clause-cause
returns-in_err-check_count-clause-cause c =
    let ns = names_of_fields c.args.fields.now in
    let many : 1048576 < length ns = omega (arith, name_count c.args.fields.now, c.in_err-check_count.ensures.cause.1) in
    caused c.from_residual.result c.in_err-check_count.field-0.0 (names_refusal ns 1048576) c.from_residual.ensures (λ _. names_many ns 1048576 many ∙ ap Some (sym c.in_err-check_count.ensures.cause.0))

pub returns-clause-fits : goal.returns-clause-fits
returns-clause-fits c =
    let ns = names_of_fields c.args.fields.now in
    let few : length ns ≤ 1048576 = omega (arith, name_count c.args.fields.now, c.in_ok-check_count.ensures.fits) in
    names_pass ns 1048576 few (at_end (map text_of c.loop-field.seen.keys) c.args.fields.now c.loop-field.field-index (omega (arith, c.loop-field-test.false)) c.loop-field.invariant)

pub returns-then-not-is_new-clause-cause : goal.returns-then-not-is_new-clause-cause
returns-then-not-is_new-clause-cause c =
    let start = at_name (map text_of c.loop-field.seen.keys) c.args.fields.now c.loop-field.field-index c.field-item.result c.as_str.result.now c.loop-field-test.true c.field-item.is c.as_str.ensures.value c.loop-field.invariant in
    let there : list_any (same_text c.as_str.result) c.loop-field.seen.keys ≡ true = not_false _ (sym c.in_ok-is_new.ensures.added ∙ c.if-not-is_new.true) in
    let few : length (names_of_fields c.args.fields.now) ≤ 1048576 = omega (arith, name_count c.args.fields.now, c.in_ok-check_count.ensures.fits) in
    λ _. names_repeat (names_of_fields c.args.fields.now) 1048576 few (found text_of same_text (λ a b. refl) c.loop-field.seen.keys c.as_str.result _ _ there start)

pub loop-field-preserved : goal.loop-field-preserved
loop-field-preserved c =
    let start = at_name (map text_of c.loop-field.seen.keys) c.args.fields.now c.loop-field.field-index c.field-item.result c.as_str.result.now c.loop-field-test.true c.field-item.is c.as_str.ensures.value c.loop-field.invariant in
    let apart : list_any (same_text c.as_str.result) c.loop-field.seen.keys ≡ false = not_true _ (sym c.in_ok-is_new.ensures.added ∙ c.if-not-is_new.false) in
    let keys : c.insert_full.new.self.keys ≡ c.loop-field.seen.keys ++ c.as_str.result ∷ [] = c.in_ok-is_new.ensures.keys ∙ keys_new same_text c.loop-field.seen.keys c.as_str.result _ apart in
    ap (λ (ks : List (Bor (List ℕ))). repeats_after (map text_of ks) (names_of_fields (drop (c.loop-field.field-index + 1) c.args.fields.now))) keys
    ∙ is_new text_of same_text (λ a b. refl) c.loop-field.seen.keys c.as_str.result _ _ apart start
