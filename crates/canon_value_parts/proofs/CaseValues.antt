-- The value of a case, put together from its payload.
use Rattle.std.proofs.Common.{◌≡◌, ◌≤◌, ◌<◌, ◌≢◌, ◌∙◌, List, None, Option, Some, String, [], ◌∷◌, ap, arith, length, map, refl, slice_get, string_bytes, subst, suc, sym, true, zero, ℕ}
use Rattle.std.specs.Prelude.{AllPairs}
use Rattle.std.specs.Option.{option_map}
use Rattle.std.proofs.lemmas.Option.{get_or_from_slice_get, slice_get-map, slice_get_within}
use Rattle.canon_lowering.specs.Copies.{case_members, case_tree}
use Rattle.canon_model.specs.Shape.{Cases, Name, Shape, VariantKind, bare, bare_cases, case_count, enum_of, member_count, no_cases, of_names, option_of, payload, variant}
use Rattle.canon_types.specs.Depth.{variant_cases}
use Rattle.canon_types.specs.Keeps.{cases_type}
use Rattle.canon_types.specs.Table.{EnumType, IsDefined, TypeTable, all_shapes, cases_in, shape_of}
use Rattle.canon_types.specs.Valid.{NamesDiffer}
use Rattle.canon_types.specs.declared.types.InterfaceType.{InterfaceType}
use Rattle.canon_types.specs.declared.types.InterfaceType.TheVariants as ty
use Rattle.canon_value_parts.specs.Plan.{IsCaseRebuilt}
use Rattle.canon_val.specs.Value.{IsLiftedFrom, IsCase, IsFirst, case_names}
use Rattle.canon_val.specs.declared.val.Val.{Val}
use Rattle.canon_plan.proofs.CasePlans.{as_cases}
use Rattle.canon_plan.proofs.Flats.{bare_members}
use Rattle.canon_value_parts.proofs.CaseViews.{enum_names}
use Rattle.canon_value_parts.proofs.Cases.{case_has}

pub one_payload : (cs : Cases) (i : ℕ) → member_count (case_members cs i) ≤ 1
one_payload no_cases i = omega arith
one_payload (bare name cs) zero = omega arith
one_payload (bare name cs) (suc i) = one_payload cs i
one_payload (payload name s cs) zero = omega arith
one_payload (payload name s cs) (suc i) = one_payload cs i

pub case_rebuilt : (s : Shape) (k : VariantKind) (i : ℕ) (vs : List Val) (v : Val) → s ≡ variant k (variant_cases s) → i < case_count (variant_cases s) → IsCase k (variant_cases s) i vs v → IsCaseRebuilt s i vs v
case_rebuilt s k i vs v e lt is = λ ts have. subst (λ (x : Shape). IsLiftedFrom x v (case_tree i ts)) (sym e) (i, vs, ts, is, refl, case_has true (variant_cases s) i vs ts lt have)

-- ---- names

is_first : (names : List Name) (i : ℕ) (name : Name) → AllPairs (λ a b. a ≢ b) names → slice_get names i ≡ Some name → IsFirst name names i
is_first names i name differ e = (e, λ j lt f. differ j i name lt (slice_get_within names i name e) (get_or_from_slice_get names j name name f ∙ sym (get_or_from_slice_get names i name name e)))

abbrev MemberNamed : Type 0
MemberNamed = Name × Option InterfaceType

names_of_cases : (known : List Shape) (xs : List MemberNamed) → map (λ c. c.0) xs ≡ case_names (cases_in known xs)
names_of_cases known [] = refl
names_of_cases known ((name, None) ∷ xs) = ap (λ (names : List Name). name ∷ names) (names_of_cases known xs)
names_of_cases known ((name, Some type) ∷ xs) = ap (λ (names : List Name). name ∷ names) (names_of_cases known xs)

pub first_of_cases : {Z : Type 0} (t : TypeTable) (j : ℕ) (entries : List (String Z × Option InterfaceType)) (tag : ℕ) (name : String Z) (o : Option InterfaceType)
    → IsDefined t (ty.Variant j) (cases_type entries) → NamesDiffer (cases_type entries)
    → slice_get entries tag ≡ Some (name, o) → IsFirst (string_bytes name) (case_names (variant_cases (shape_of t (ty.Variant j)))) tag
first_of_cases {Z} t j entries tag name o defined differ e =
    let f : String Z × Option InterfaceType → MemberNamed = λ x. (string_bytes x.0, x.1) in
    let here : slice_get (map f entries) tag ≡ Some (string_bytes name, o) = slice_get-map f entries tag ∙ ap (option_map f) e in
    let there : slice_get (map (λ (c : MemberNamed). c.0) (map f entries)) tag ≡ Some (string_bytes name) = slice_get-map (λ (c : MemberNamed). c.0) (map f entries) tag ∙ ap (option_map (λ (c : MemberNamed). c.0)) here in
    subst (λ (names : List Name). IsFirst (string_bytes name) names tag) (names_of_cases (all_shapes t) (map f entries) ∙ sym (ap (λ (s : Shape). case_names (variant_cases s)) defined.shape))
    (is_first _ tag (string_bytes name) differ there)

pub first_of_names : {Z : Type 0} (t : TypeTable) (j : ℕ) (keys : List (String Z)) (tag : ℕ) (name : String Z) → IsDefined t (ty.Enum j) (EnumType (map (λ n. string_bytes n) keys)) → NamesDiffer (EnumType (map (λ n. string_bytes n) keys))
    → slice_get keys tag ≡ Some name → IsFirst (string_bytes name) (case_names (variant_cases (shape_of t (ty.Enum j)))) tag
first_of_names {Z} t j keys tag name defined differ e =
    let f : String Z → Name = λ x. string_bytes x in
    let here : slice_get (map f keys) tag ≡ Some (string_bytes name) = slice_get-map f keys tag ∙ ap (option_map f) e in
    subst (λ (names : List Name). IsFirst (string_bytes name) names tag) (sym (enum_names (map f keys)) ∙ sym (ap (λ (s : Shape). case_names (variant_cases s)) defined.shape)) (is_first (map f keys) tag (string_bytes name) differ here)

-- ---- kinds

none_there : (vs : List Val) → length vs ≡ 0 → [] ≡ vs
none_there [] e = refl
none_there (v ∷ vs) e = absurd (omega (arith, e))

pub enum_none : (s : Shape) (names : List Name) (i : ℕ) (vs : List Val) → s ≡ enum_of names → length vs ≡ member_count (case_members (variant_cases s) i) → [] ≡ vs
enum_none s names i vs e count = none_there vs (omega (arith, count, ap (λ (x : Shape). member_count (case_members (variant_cases x) i)) e, ap member_count (bare_members names i)))

pub enum_rebuilt : (s : Shape) (names : List Name) (i : ℕ) (vs : List Val) (v : Val) → s ≡ enum_of names → i < case_count (variant_cases s)
    → length vs ≡ member_count (case_members (variant_cases s) i) → IsCase of_names (variant_cases s) i [] v → IsCaseRebuilt s i vs v
enum_rebuilt s names i vs v e lt count is =
    case_rebuilt s of_names i vs v (as_cases s of_names (bare_cases names) e) lt (subst (λ (ws : List Val). IsCase of_names (variant_cases s) i ws v) (enum_none s names i vs e count) is)

-- an option's case is the number of its payloads
option_number : (some : Shape) (i n : ℕ) → i < 2 → n ≡ member_count (case_members (variant_cases (option_of some)) i) → n ≡ i
option_number some zero n lt e = e
option_number some (suc zero) n lt e = e
option_number some (suc (suc i)) n lt e = absurd (omega (arith, lt))

pub option_tag : (s some : Shape) (i n : ℕ) → s ≡ option_of some → i < case_count (variant_cases s) → n ≡ member_count (case_members (variant_cases s) i) → n ≡ i
option_tag s some i n e lt count =
    option_number some i n (omega (arith, lt, ap (λ (x : Shape). case_count (variant_cases x)) e)) (subst (λ (x : Shape). n ≡ member_count (case_members (variant_cases x) i)) e count)
