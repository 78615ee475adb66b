-- Pairs, and the cases of variants, options and results.
use Rattle.std.proofs.Common.{◌≡◌, ◌<◌, ℕ, true, false, is_some, None, Some, Option, Box, Result, Err, Global, option_map, option_and_then, refl, sym, ap, subst, ◌∙◌, ◌≢◌, List, [], ◌∷◌, length, arith}
use Rattle.serde_json.specs.Data.{Data, null, boolean, number, string, array, object, no_items, item, depth}
use Rattle.serde_json.specs.Find.{as_array, as_null, as_str}
use Rattle.serde_json.specs.View.{items_view}
use Rattle.serde_json.specs.declared.value.Value.{Value}
use Rattle.canon_json.specs.Json.{ReadsAs, two}
use Rattle.canon_json.specs.declared.error.ScriptError.{ScriptError}
use Rattle.canon_json.specs.declared.error.ScriptError.TheVariants as refused
use Rattle.canon_model.specs.Shape.{Name}
use Rattle.canon_val.specs.declared.val.Val.{Val}
use Rattle.canon_literals.specs.Literals.{Literal, Payload, literal_view, no_payload, option, pair_view, payload_view, variant, with_payload}
use Rattle.canon_script.specs.Values.{case_in, case_items, case_parts, optional_of, pair_of, payload_by, result_by, value_by, value_of}
use Rattle.canon_script.specs.declared.kinds.ValueKind.TheVariants as kind

-- ---- pairs

two_are : (p q : Data × Data) → Some p ≡ Some q → p ≡ q
two_are p q e = cc

-- the first of two is less deep
pub first_in_two : (d a b : Data) → Some (a, b) ≡ two d → depth a < depth d
first_in_two null a b e = absurd (cc)
first_in_two (boolean y) a b e = absurd (cc)
first_in_two (number n) a b e = absurd (cc)
first_in_two (string s) a b e = absurd (cc)
first_in_two (array no_items) a b e = absurd (cc)
first_in_two (array (item f no_items)) a b e = absurd (cc)
first_in_two (array (item f (item g no_items))) a b e = omega (arith, ap (λ (p : Data × Data). depth p.0) (two_are (a, b) (f, g) e))
first_in_two (array (item f (item g (item h ds)))) a b e = absurd (cc)
first_in_two (object ms) a b e = absurd (cc)

pub pair_is : (d a b : Data) → Some (a, b) ≡ two d → pair_of d ≡ option_and_then (λ x. option_map (λ y. (x, y)) (value_of b)) (value_of a)
pair_is null a b e = absurd (cc)
pair_is (boolean y) a b e = absurd (cc)
pair_is (number n) a b e = absurd (cc)
pair_is (string s) a b e = absurd (cc)
pair_is (array no_items) a b e = absurd (cc)
pair_is (array (item f no_items)) a b e = absurd (cc)
pair_is (array (item f (item g no_items))) a b e =
    ap (λ (p : Data × Data). option_and_then (λ x. option_map (λ y. (x, y)) (value_of p.1)) (value_of p.0)) (sym (two_are (a, b) (f, g) e))
pair_is (array (item f (item g (item h ds)))) a b e = absurd (cc)
pair_is (object ms) a b e = absurd (cc)

pub no_pair : (d : Data) → None ≡ two d → pair_of d ≡ None
no_pair null e = refl
no_pair (boolean y) e = refl
no_pair (number n) e = refl
no_pair (string s) e = refl
no_pair (array no_items) e = refl
no_pair (array (item f no_items)) e = refl
no_pair (array (item f (item g no_items))) e = absurd (cc)
no_pair (array (item f (item g (item h ds)))) e = refl
no_pair (object ms) e = refl

pub pair_given : (d a b : Data) (x y : Literal) → Some (a, b) ≡ two d → value_of a ≡ Some x → value_of b ≡ Some y → pair_of d ≡ Some (x, y)
pair_given d a b x y e first second =
    pair_is d a b e ∙ (ap (option_and_then (λ x. option_map (λ y. (x, y)) (value_of b))) first ∙ ap (option_map (λ y. (x, y))) second)

pub script_key_refused : (e : ScriptError) (d a b : Data) → Some (a, b) ≡ two d → ReadsAs {X = Val} literal_view (Err e) (value_of a) → ReadsAs {X = Val × Val} pair_view (Err e) (pair_of d)
script_key_refused refused.BadScript d a b is h = pair_is d a b is ∙ ap (option_and_then (λ x. option_map (λ y. (x, y)) (value_of b))) h
script_key_refused refused.OutOfMemory d a b is h = tt

pub script_value_refused : (e : ScriptError) (d a b : Data) (x : Literal) → Some (a, b) ≡ two d → value_of a ≡ Some x → ReadsAs {X = Val} literal_view (Err e) (value_of b) → ReadsAs {X = Val × Val} pair_view (Err e) (pair_of d)
script_value_refused refused.BadScript d a b x is first h =
    pair_is d a b is ∙ (ap (option_and_then (λ x. option_map (λ y. (x, y)) (value_of b))) first ∙ ap (option_map (λ y. (x, y))) h)
script_value_refused refused.OutOfMemory d a b x is first h = tt

-- ---- cases

abbrev case_with : Name → Payload → Name × Payload
case_with name p = (name, p)

abbrev read_with : Name → Option Data → Name × Option Data
read_with name f = (name, f)

parts_are : (p q : Name × Option Data) → Some p ≡ Some q → p ≡ q
parts_are p q e = cc

-- an array of another length names no case
pub case_of_none : (vs : List Value) → length vs ≢ 1 → length vs ≢ 2 → case_items (items_view vs) ≡ None
case_of_none [] h g = refl
case_of_none (v ∷ []) h g = absurd (h refl)
case_of_none (v ∷ w ∷ []) h g = absurd (g refl)
case_of_none (v ∷ w ∷ x ∷ vs) h g = refl

-- a case by its name and what its payload is read from
abbrev pub case_by : Name × Option Data → Option (Name × Payload)
case_by c = option_map (λ p. case_with c.0 p) (payload_by c.1)

bare_is : (n : Option Name) (c : Name × Option Data) → Some c ≡ option_map (λ m. read_with m None) n → option_map (λ m. case_with m no_payload) n ≡ case_by c
bare_is None c e = absurd (cc)
bare_is (Some m) c e = ap case_by (sym (parts_are c (m, None) e))

laden : (m : Name) (x : Option Literal) → option_map (λ y. case_with m (with_payload y)) x ≡ option_map (λ p. case_with m p) (option_map with_payload x)
laden m None = refl
laden m (Some y) = refl

laden_is : (n : Option Name) (d : Data) (c : Name × Option Data) → Some c ≡ option_map (λ m. read_with m (Some d)) n → option_and_then (λ m. option_map (λ y. case_with m (with_payload y)) (value_of d)) n ≡ case_by c
laden_is None d c e = absurd (cc)
laden_is (Some m) d c e = laden m (value_of d) ∙ ap case_by (sym (parts_are c (m, Some d) e))

case_is : (d : Data) (c : Name × Option Data) → Some c ≡ case_parts d → option_and_then case_in (as_array d) ≡ case_by c
case_is null c e = absurd (cc)
case_is (boolean b) c e = absurd (cc)
case_is (number n) c e = absurd (cc)
case_is (string s) c e = absurd (cc)
case_is (array no_items) c e = absurd (cc)
case_is (array (item n no_items)) c e = bare_is (as_str n) c e
case_is (array (item n (item d no_items))) c e = laden_is (as_str n) d c e
case_is (array (item n (item d (item x ds)))) c e = absurd (cc)
case_is (object ms) c e = absurd (cc)

no_name : (n : Option Name) (o : Option Data) → None ≡ option_map (λ m. read_with m o) n → n ≡ None
no_name None o e = refl
no_name (Some m) o e = absurd (cc)

no_case : (d : Data) → None ≡ case_parts d → option_and_then case_in (as_array d) ≡ None
no_case null e = refl
no_case (boolean b) e = refl
no_case (number n) e = refl
no_case (string s) e = refl
no_case (array no_items) e = refl
no_case (array (item n no_items)) e = ap (option_map (λ m. case_with m no_payload)) (no_name (as_str n) None e)
no_case (array (item n (item d no_items))) e = ap (option_and_then (λ m. option_map (λ y. case_with m (with_payload y)) (value_of d))) (no_name (as_str n) (Some d) e)
no_case (array (item n (item d (item x ds)))) e = refl
no_case (object ms) e = refl

read_from : (n : Option Name) (name : Name) (f g : Option Data) → Some (read_with name f) ≡ option_map (λ m. read_with m g) n → f ≡ g
read_from None name f g e = absurd (cc)
read_from (Some m) name f g e = ap (λ (p : Name × Option Data). p.1) (parts_are (name, f) (m, g) e)

abbrev pub depth_of : Option Data → ℕ
depth_of None = 0
depth_of (Some d) = depth d

-- a payload is less deep than its array
pub payload_within : (d : Data) (f : Option Data) (name : Name) → Some (name, f) ≡ case_parts d → depth_of f < depth d
payload_within null f name e = absurd (cc)
payload_within (boolean b) f name e = absurd (cc)
payload_within (number n) f name e = absurd (cc)
payload_within (string s) f name e = absurd (cc)
payload_within (array no_items) f name e = absurd (cc)
payload_within (array (item n no_items)) f name e = omega (arith, ap depth_of (read_from (as_str n) name f None e))
payload_within (array (item n (item d no_items))) f name e = omega (arith, ap depth_of (read_from (as_str n) name f (Some d) e))
payload_within (array (item n (item d (item x ds)))) f name e = absurd (cc)
payload_within (object ms) f name e = absurd (cc)

-- ---- variants and results

abbrev pub variant_by : Name × Payload → Option Literal
variant_by c = Some (variant c.0 c.1)

abbrev pub outcome_by : Name × Payload → Option Literal
outcome_by c = result_by c.0 c.1

some_by : (c : Option (Name × Payload)) → option_map (λ c. variant c.0 c.1) c ≡ option_and_then variant_by c
some_by None = refl
some_by (Some c) = refl

pub variant_reads : (d : Data) → value_by d kind.Variant ≡ option_and_then variant_by (option_and_then case_in (as_array d))
variant_reads (array ds) = some_by (case_in ds)
variant_reads d = refl

pub result_reads : (d : Data) → value_by d kind.Result ≡ option_and_then outcome_by (option_and_then case_in (as_array d))
result_reads (array ds) = refl
result_reads d = refl

pub unread : (by : Name × Payload → Option Literal) (d : Data) (q : Option Literal) → q ≡ option_and_then by (option_and_then case_in (as_array d)) → None ≡ case_parts d → q ≡ None
unread by d q is e = is ∙ ap (option_and_then by) (no_case d e)

refused_payload : (by : Name × Payload → Option Literal) (name : Name) (o : Option Payload) (e : ScriptError) → ReadsAs {X = Option (Box Val Global)} payload_view (Err e) o
    → ReadsAs {X = Val} literal_view (Err e) (option_and_then by (option_map (λ p. case_with name p) o))
refused_payload by name o refused.BadScript h = ap (λ p. option_and_then by (option_map (λ x. case_with name x) p)) h
refused_payload by name o refused.OutOfMemory h = tt

pub case_refused : (by : Name × Payload → Option Literal) (d : Data) (q : Option Literal) (name : Name) (f : Option Data) (e : ScriptError) → q ≡ option_and_then by (option_and_then case_in (as_array d)) → Some (name, f) ≡ case_parts d
    → ReadsAs {X = Option (Box Val Global)} payload_view (Err e) (payload_by f) → ReadsAs {X = Val} literal_view (Err e) q
case_refused by d q name f e is parts h =
    subst (λ o. ReadsAs {X = Val} literal_view (Err e) o) (sym (is ∙ ap (option_and_then by) (case_is d (name, f) parts))) (refused_payload by name (payload_by f) e h)

pub case_given : (by : Name × Payload → Option Literal) (d : Data) (q : Option Literal) (name : Name) (f : Option Data) (x : Payload) (r : Result Val ScriptError) → q ≡ option_and_then by (option_and_then case_in (as_array d))
    → Some (name, f) ≡ case_parts d → payload_by f ≡ Some x → ReadsAs literal_view r (by (name, x)) → ReadsAs literal_view r q
case_given by d q name f x r is parts found h =
    subst (λ o. ReadsAs literal_view r o) (sym (is ∙ (ap (option_and_then by) (case_is d (name, f) parts) ∙ ap (λ p. option_and_then by (option_map (λ y. case_with name y) p)) found))) h

-- ---- options

pub option_by : (d : Data) → value_by d kind.Option ≡ option_map option (optional_of d)
option_by null = refl
option_by (object ms) = twice (value_of (object ms))
  where
    twice : (x : Option Literal) → option_map (λ y. option (with_payload y)) x ≡ option_map option (option_map with_payload x)
    twice None = refl
    twice (Some y) = refl
option_by d = refl

pub optional_null : (d : Data) → is_some (as_null d) ≡ true → optional_of d ≡ Some no_payload
optional_null null e = refl
optional_null (boolean b) e = cc
optional_null (number n) e = cc
optional_null (string s) e = cc
optional_null (array ds) e = cc
optional_null (object ms) e = cc

pub optional_some : (d : Data) → is_some (as_null d) ≡ false → optional_of d ≡ option_map with_payload (value_of d)
optional_some null e = cc
optional_some d e = refl
