-- Definitions made of what a call is handed.
use Rattle.std.proofs.Common.{Err, Ok, Result, ◌≢◌, ◌≡◌, ℕ, ◌+◌, ◌<◌, ◌≤◌, Bool, true, false, ◌==◌, Option, Some, None, List, [], ◌∷◌, length, map, filter_map, All, string_bytes, String, refl, sym, ap, ◌∙◌, subst, arith}
use Rattle.std.specs.Prelude.{IfErr, IsErr, IsErrAnd}
use Rattle.std.proofs.lemmas.Bool.Decides.{nat_tests}
use Rattle.std.proofs.lemmas.List.{length-map}
use Rattle.std.proofs.lemmas.List.Elements.{All-cons, All-head, All-nil, All-tail}
use Rattle.canon_model.specs.Shape.{Name}
use Rattle.canon_types.specs.declared.error.TypeError.{TypeError}
use Rattle.canon_types.specs.declared.error.TypeError.TheVariants as error
use Rattle.canon_types.specs.declared.types.InterfaceType.{InterfaceType}
use Rattle.canon_types.specs.declared.types.RecordField.{RecordField}
use Rattle.canon_types.specs.declared.table.Entry.{Entry}
use Rattle.canon_types.specs.Depth.{deepest, depth, has_borrow, member_borrows}
use Rattle.canon_types.specs.Keeps.{IsEntry, KeepsLayout, cases_type, definition_of, fields_type}
use Rattle.canon_types.specs.Refusal.{has_repeats, is_empty, most_names, names, names_refusal, parts_refusal, refusal}
use Rattle.canon_types.specs.Table.{Definition, Knows, KnowsPayload, ResultType, TypeTable, all_shapes, defined_shape, members_of, parts}
use Rattle.canon_types.proofs.Measures.{borrows_defined, depth_defined}
use Rattle.canon_types.proofs.Adding.{refused_at_names}

-- an entry that was measured
pub is_entry : (t : TypeTable) (d : Definition) (e : Entry) → definition_of e.item ≡ d → All (Knows t) (parts d) → e.depth ≡ 1 + deepest (members_of t (parts d)) → e.has_borrow ≡ member_borrows (members_of t (parts d))
    → has_repeats (names d) ≡ false → KeepsLayout e.item (defined_shape (all_shapes t) d) → IsEntry t (defined_shape (all_shapes t) (definition_of e.item)) e
is_entry t d e same known deep borrows apart laid = record {
  known = subst (λ (x : Definition). All (Knows t) (parts x)) (sym same) known;
  shape = refl;
  depth = deep ∙ sym (depth_defined (all_shapes t) d) ∙ ap (λ (x : Definition). depth (defined_shape (all_shapes t) x)) (sym same);
  borrows = borrows ∙ sym (borrows_defined (all_shapes t) d) ∙ ap (λ (x : Definition). has_borrow (defined_shape (all_shapes t) x)) (sym same);
  names = ap (λ (x : Definition). has_repeats (names x)) same ∙ apart;
  layout = subst (λ (x : Definition). KeepsLayout e.item (defined_shape (all_shapes t) x)) (sym same) laid;
}

-- ---- names

pub names_pass : (ns : List Name) (most : ℕ) → length ns ≤ most → has_repeats ns ≡ false → names_refusal ns most ≡ None
names_pass ns most few apart = grind (arith, nat_tests)

pub names_many : (ns : List Name) (most : ℕ) → most < length ns → names_refusal ns most ≡ Some error.TooManyNames
names_many ns most many = grind (arith, nat_tests)

pub names_repeat : (ns : List Name) (most : ℕ) → length ns ≤ most → has_repeats ns ≡ true → names_refusal ns most ≡ Some error.RepeatedName
names_repeat ns most few twice = grind (arith, nat_tests)

-- names that pass are apart
pub names_apart : (ns : List Name) (most : ℕ) → names_refusal ns most ≡ None → has_repeats ns ≡ false
names_apart ns most h = grind (arith, nat_tests)

-- a definition whose names are refused
pub names_refused : (t : TypeTable) (d : Definition) (types : List InterfaceType) (empty : Bool) (e : TypeError) → types ≡ parts d → empty ≡ is_empty d → None ≡ parts_refusal t types empty
    → names_refusal (names d) (most_names d) ≡ Some e → refusal t d ≡ Some e
names_refused t d types empty e same_types same_empty h refused =
    refused_at_names t d (Some e) (sym (h ∙ ap (λ (ts : List InterfaceType). parts_refusal t ts empty) same_types ∙ ap (parts_refusal t (parts d)) same_empty)) refused

-- some names, and no parts
pub some_names : (t : TypeTable) (n : ℕ) → 0 < n → None ≡ parts_refusal t [] (n == 0)
some_names t n h = grind (arith, nat_tests)

-- ---- records

pub field_parts : (fs : List RecordField) → map (λ f. f.ty) fs ≡ parts (fields_type fs)
field_parts [] = refl
field_parts (f ∷ fs) = ap (λ (ts : List InterfaceType). f.ty ∷ ts) (field_parts fs)

pub field_names : (fs : List RecordField) → map (λ f. string_bytes f.name) fs ≡ names (fields_type fs)
field_names [] = refl
field_names (f ∷ fs) = ap (λ (ns : List Name). string_bytes f.name ∷ ns) (field_names fs)

pub fields_empty : (fs : List RecordField) (types : List InterfaceType) → types ≡ parts (fields_type fs) → (length types == 0) ≡ is_empty (fields_type fs)
fields_empty fs types e =
    ap (λ (ts : List InterfaceType). length ts == 0) e
    ∙ ap (λ (n : ℕ). n == 0) (length-map (map (λ f. (string_bytes f.name, f.ty)) fs) (λ (f : Name × InterfaceType). f.1))

-- ---- variants

pub case_names : {Z : Type 0} (cs : List (String Z × Option InterfaceType)) → map (λ c. string_bytes c.0) cs ≡ names (cases_type cs)
case_names [] = refl
case_names (c ∷ cs) = ap (λ (ns : List Name). string_bytes c.0 ∷ ns) (case_names cs)

pub case_payload_list : {Z : Type 0} (cs : List (String Z × Option InterfaceType)) → map (λ c. c.1) cs ≡ map (λ (c : Name × Option InterfaceType). c.1) (map (λ c. (string_bytes c.0, c.1)) cs)
case_payload_list [] = refl
case_payload_list (c ∷ cs) = ap (λ (ps : List (Option InterfaceType)). c.1 ∷ ps) (case_payload_list cs)

pub case_parts : {Z : Type 0} (cs : List (String Z × Option InterfaceType)) → filter_map (λ p. p) (map (λ c. c.1) cs) ≡ parts (cases_type cs)
case_parts [] = refl
case_parts ((name, None) ∷ cs) = case_parts cs
case_parts ((name, Some t) ∷ cs) = ap (λ (ts : List InterfaceType). t ∷ ts) (case_parts cs)

pub cases_empty : {Z : Type 0} (cs : List (String Z × Option InterfaceType)) (ps : List (Option InterfaceType)) → ps ≡ map (λ c. c.1) cs → (length ps == 0) ≡ is_empty (cases_type cs)
cases_empty {Z} cs ps e =
    ap (λ (xs : List (Option InterfaceType)). length xs == 0) e ∙ ap (λ (n : ℕ). n == 0) (length-map cs (λ (c : String Z × Option InterfaceType). c.1))
    ∙ sym (ap (λ (n : ℕ). n == 0) (length-map cs (λ (c : String Z × Option InterfaceType). let r : Name × Option InterfaceType = (string_bytes c.0, c.1) in r)))

-- where the types that are there are known, so is each payload
pub payloads_known : (t : TypeTable) (ps : List (Option InterfaceType)) → All (Knows t) (filter_map (λ p. p) ps) → All (KnowsPayload t) ps
payloads_known t [] h = All-nil (KnowsPayload t)
payloads_known t (None ∷ ps) h = All-cons (KnowsPayload t) None ps tt (payloads_known t ps h)
payloads_known t (Some x ∷ ps) h = All-cons (KnowsPayload t) (Some x) ps (All-head (Knows t) x (filter_map (λ p. p) ps) h) (payloads_known t ps (All-tail (Knows t) x (filter_map (λ p. p) ps) h))

-- ---- results

pub result_parts : (ok error : Option InterfaceType) → filter_map (λ p. p) (ok ∷ error ∷ []) ≡ parts (ResultType ok error)
result_parts None None = refl
result_parts None (Some e) = refl
result_parts (Some o) None = refl
result_parts (Some o) (Some e) = refl

-- an error that is handed on
pub caused : {X : Type 0} (r : Result X TypeError) (e : TypeError) (why : Option TypeError) → IsErr r × IsErrAnd r (λ x. x ≡ e) → (e ≢ error.OutOfMemory → why ≡ Some e) → IfErr r (λ x. x ≢ error.OutOfMemory → why ≡ Some x)
caused (Ok y) e why h f = tt
caused (Err x) e why h f = λ n. f (λ q. n (h.1 ∙ q)) ∙ ap Some (sym h.1)
