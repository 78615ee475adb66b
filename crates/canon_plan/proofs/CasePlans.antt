-- The cases of a type by their numbers, by what a look-up gives.
use Rattle.std.proofs.Common.{◌≡◌, ◌≤◌, ◌<◌, ◌∙◌, All, List, None, Option, Some, String, [], ◌∷◌, ap, arith, filter_map, length, map, refl, slice_get, string_bytes, subst, suc, sym, zero, ℕ}
use Rattle.std.proofs.lemmas.List.Elements.{All-head, All-tail}
use Rattle.std.proofs.lemmas.Option.{slice_get-map, slice_get_within}
use Rattle.std.proofs.lemmas.List.{length-map}
use Rattle.std.specs.Option.{option_map}
use Rattle.canon_lowering.specs.Copies.{case_members}
use Rattle.canon_model.specs.Shape.{Cases, Name, Shape, VariantKind, bare, bare_cases, case_count, case_for, no_cases, of_cases, of_names, of_result, payload, result_of, variant}
use Rattle.canon_types.specs.Depth.{variant_cases}
use Rattle.canon_types.specs.Keeps.{cases_type}
use Rattle.canon_types.specs.Table.{EnumType, IsDefined, Knows, KnowsPayload, OptionType, ResultType, TypeTable, all_shapes, cases_in, payload_in, shape_of}
use Rattle.canon_types.specs.declared.types.InterfaceType.{InterfaceType}
use Rattle.canon_types.specs.declared.types.InterfaceType.TheVariants as ty
use Rattle.canon_plan.specs.CasePlan.{IsCaseSlots, IsPayload, TellsCase, case_name_cost}
use Rattle.canon_plan.specs.Plan.{AreKnown, IsCaseKind, shapes_of}
use Rattle.canon_plan.specs.declared.case_plan.CaseSlots.{CaseSlots}
use Rattle.canon_plan.specs.declared.plan.Slots.{Slots}
use Rattle.canon_plan.specs.declared.plan.Slots.TheVariants as slots
use Rattle.canon_plan.proofs.Flats.{bare_members, two_cases, first_known, second_known}

payload_known : (t : TypeTable) (o : Option InterfaceType) (p : Slots) → KnowsPayload t o → IsPayload o p → AreKnown t p
payload_known t None p h e = subst (AreKnown t) (sym e) tt
payload_known t (Some type) p h e = subst (AreKnown t) (sym e) h

-- ---- the cases of a variant

abbrev Named : Type 0
Named = Name × Option InterfaceType

-- the case of number i of these is this one
record IsAt (t : TypeTable) (xs : List Named) (i : ℕ) (c : Named) : Type 0 where
  there : i < case_count (cases_in (all_shapes t) xs)
  charge : case_name_cost of_cases (cases_in (all_shapes t) xs) i ≡ length c.0
  known : All (Knows t) (filter_map (λ d. d.1) xs) → KnowsPayload t c.1
  shapes : (p : Slots) → IsPayload c.1 p → shapes_of t p ≡ case_members (cases_in (all_shapes t) xs) i

first_at : (t : TypeTable) (x : Named) (xs : List Named) → IsAt t (x ∷ xs) 0 x
first_at t (name, None) xs = record { there = omega arith; charge = refl; known = λ h. tt; shapes = λ p e. ap (shapes_of t) e }
first_at t (name, Some type) xs = record { there = omega arith; charge = refl; known = λ h. All-head (Knows t) type (filter_map (λ d. d.1) xs) h; shapes = λ p e. ap (shapes_of t) e }

later_at : (t : TypeTable) (x : Named) (xs : List Named) (i : ℕ) (c : Named) → IsAt t xs i c → IsAt t (x ∷ xs) (suc i) c
later_at t (name, None) xs i c h = record { there = omega (arith, h.there); charge = h.charge; known = h.known; shapes = h.shapes }
later_at t (name, Some type) xs i c h = record { there = omega (arith, h.there); charge = h.charge; known = λ all. h.known (All-tail (Knows t) type (filter_map (λ d. d.1) xs) all); shapes = h.shapes }

past : {X : Type 0} (xs : List X) (i : ℕ) → slice_get xs i ≡ None → length xs ≤ i
past [] i e = omega arith
past (x ∷ xs) zero e = cc
past (x ∷ xs) (suc i) e = omega (arith, past xs i e)

same_some : {X : Type 0} (x y : X) → Some x ≡ Some y → x ≡ y
same_some x y e = cc

case_at : (t : TypeTable) (xs : List Named) (i : ℕ) (c : Named) → slice_get xs i ≡ Some c → IsAt t xs i c
case_at t [] i c e = cc
case_at t (x ∷ xs) zero c e = subst (λ (y : Named). IsAt t (x ∷ xs) 0 y) (same_some x c e) (first_at t x xs)
case_at t (x ∷ xs) (suc i) c e = later_at t x xs i c (case_at t xs i c e)

variant_count : (known : List Shape) (xs : List Named) → case_count (cases_in known xs) ≡ length xs
variant_count known [] = refl
variant_count known ((name, None) ∷ xs) = ap suc (variant_count known xs)
variant_count known ((name, Some type) ∷ xs) = ap suc (variant_count known xs)

module _ {Z : Type 0} (t : TypeTable) (j : ℕ) (entries : List (String Z × Option InterfaceType)) (defined : IsDefined t (ty.Variant j) (cases_type entries)) where
  abbrev named : List Named
  named = map (λ c. (string_bytes c.0, c.1)) entries

  cases_there : variant_cases (shape_of t (ty.Variant j)) ≡ cases_in (all_shapes t) named
  cases_there = ap variant_cases defined.shape

  pub count_cases : case_count (variant_cases (shape_of t (ty.Variant j))) ≡ length entries
  count_cases = ap case_count cases_there ∙ (variant_count (all_shapes t) named ∙ length-map entries (λ (c : String Z × Option InterfaceType). let r : Named = (string_bytes c.0, c.1) in r))

  pub variant_past : (tag : ℕ) (r : Option CaseSlots) → r ≡ None → slice_get entries tag ≡ None → TellsCase t (shape_of t (ty.Variant j)) tag r
  variant_past tag r e none = subst (TellsCase t (shape_of t (ty.Variant j)) tag) (sym e) (omega (arith, past entries tag none, count_cases))

  pub plan_variant_told : (tag : ℕ) (name : String Z) (o : Option InterfaceType) (c : CaseSlots) → slice_get entries tag ≡ Some (name, o) → IsPayload o c.payload → c.name_length ≡ length (string_bytes name)
      → IsCaseSlots t (shape_of t (ty.Variant j)) tag c
  plan_variant_told tag name o c e p n =
      let here : slice_get named tag ≡ Some (string_bytes name, o) = slice_get-map (λ (x : String Z × Option InterfaceType). (string_bytes x.0, x.1)) entries tag
      ∙ ap (option_map (λ (x : String Z × Option InterfaceType). (string_bytes x.0, x.1))) e in
      let is = case_at t named tag (string_bytes name, o) here in
      subst (λ (s : Shape). IsCaseSlots t s tag c) (sym defined.shape) (record {
        there = is.there;
        known = payload_known t o c.payload (is.known defined.known) p;
        shapes = is.shapes c.payload p;
        charge = n ∙ sym is.charge;
      })

-- ---- the names of an enum

enum_count : (names : List Name) → case_count (bare_cases names) ≡ length names
enum_count [] = refl
enum_count (n ∷ names) = ap suc (enum_count names)

enum_charge : (names : List Name) (i : ℕ) (name : Name) → slice_get names i ≡ Some name → length name ≡ case_name_cost of_names (bare_cases names) i
enum_charge [] i name e = cc
enum_charge (n ∷ names) zero name e = sym (ap length (same_some n name e))
enum_charge (n ∷ names) (suc i) name e = enum_charge names i name e

module _ {Z : Type 0} (t : TypeTable) (j : ℕ) (keys : List (String Z)) (defined : IsDefined t (ty.Enum j) (EnumType (map (λ n. string_bytes n) keys))) where
  pub count_names : case_count (variant_cases (shape_of t (ty.Enum j))) ≡ length keys
  count_names = ap (λ (s : Shape). case_count (variant_cases s)) defined.shape ∙ (enum_count (map (λ n. string_bytes n) keys) ∙ length-map keys (λ (n : String Z). string_bytes n))

  pub enum_past : (tag : ℕ) (r : Option CaseSlots) → r ≡ None → slice_get keys tag ≡ None → TellsCase t (shape_of t (ty.Enum j)) tag r
  enum_past tag r e none = subst (TellsCase t (shape_of t (ty.Enum j)) tag) (sym e) (omega (arith, past keys tag none, count_names))

  pub enum_told : (tag : ℕ) (name : String Z) (c : CaseSlots) → slice_get keys tag ≡ Some name → c.payload ≡ slots.Empty → c.name_length ≡ length (string_bytes name) → IsCaseSlots t (shape_of t (ty.Enum j)) tag c
  enum_told tag name c e p n =
      let names : List Name = map (λ n. string_bytes n) keys in
      let here : slice_get names tag ≡ Some (string_bytes name) = slice_get-map (λ (x : String Z). string_bytes x) keys tag ∙ ap (option_map (λ (x : String Z). string_bytes x)) e in
      subst (λ (s : Shape). IsCaseSlots t s tag c) (sym defined.shape) (record {
        there = omega (arith, slice_get_within names tag (string_bytes name) here, enum_count names);
        known = subst (AreKnown t) (sym p) tt;
        shapes = ap (shapes_of t) p ∙ sym (bare_members names tag);
        charge = n ∙ enum_charge names tag (string_bytes name) here;
      })

-- ---- the two cases of an option, and of a result

free_name : (cs : Cases) (i : ℕ) → 0 ≡ case_name_cost of_result cs i
free_name no_cases i = refl
free_name (bare name cs) zero = refl
free_name (bare name cs) (suc i) = free_name cs i
free_name (payload name s cs) zero = refl
free_name (payload name s cs) (suc i) = free_name cs i

pub none_told : (t : TypeTable) (j : ℕ) (some : InterfaceType) (tag : ℕ) (c : CaseSlots) → IsDefined t (ty.Option j) (OptionType some) → tag ≡ 0 → c.payload ≡ slots.Empty → c.name_length ≡ 0 → IsCaseSlots t (shape_of t (ty.Option j)) tag c
none_told t j some tag c defined e p n =
    subst (λ (i : ℕ). IsCaseSlots t (shape_of t (ty.Option j)) i c) (sym e) (subst (λ (s : Shape). IsCaseSlots t s 0 c) (sym defined.shape)
    (record { there = omega arith; known = subst (AreKnown t) (sym p) tt; shapes = ap (shapes_of t) p; charge = n }))

pub some_told : (t : TypeTable) (j : ℕ) (some : InterfaceType) (tag : ℕ) (c : CaseSlots) → IsDefined t (ty.Option j) (OptionType some) → tag ≡ 1 → c.payload ≡ slots.Single some → c.name_length ≡ 0
    → IsCaseSlots t (shape_of t (ty.Option j)) tag c
some_told t j some tag c defined e p n =
    subst (λ (i : ℕ). IsCaseSlots t (shape_of t (ty.Option j)) i c) (sym e) (subst (λ (s : Shape). IsCaseSlots t s 1 c) (sym defined.shape)
    (record { there = omega arith; known = subst (AreKnown t) (sym p) (defined.known 0 some (omega arith)); shapes = ap (shapes_of t) p; charge = n }))

pub option_past : (t : TypeTable) (j : ℕ) (some : InterfaceType) (tag : ℕ) → IsDefined t (ty.Option j) (OptionType some) → 2 ≤ tag → case_count (variant_cases (shape_of t (ty.Option j))) ≤ tag
option_past t j some tag defined h = omega (arith, h, ap (λ (s : Shape). case_count (variant_cases s)) defined.shape)

pub plan_result_cases : (s : Shape) (ok error : Option Shape) → s ≡ result_of ok error → case_count (variant_cases s) ≡ 2
plan_result_cases s ok error e = ap (λ (x : Shape). case_count (variant_cases x)) e ∙ two_cases ok error

first_payload : (t : TypeTable) (o : Option InterfaceType) (cs : Cases) (p : Slots) → IsPayload o p → shapes_of t p ≡ case_members (case_for (payload_in (all_shapes t) o) cs) 0
first_payload t None cs p e = ap (shapes_of t) e
first_payload t (Some type) cs p e = ap (shapes_of t) e

second_payload : (o : Option Shape) (cs : Cases) → case_members cs 0 ≡ case_members (case_for o cs) 1
second_payload None cs = refl
second_payload (Some s) cs = refl

module _ (t : TypeTable) (j : ℕ) (ok error : Option InterfaceType) (tag : ℕ) (c : CaseSlots) (defined : IsDefined t (ty.Result j) (ResultType ok error)) (free : c.name_length ≡ 0) where
  abbrev both : Cases
  both = case_for (payload_in (all_shapes t) ok) (case_for (payload_in (all_shapes t) error) no_cases)

  pub ok_told : tag ≡ 0 → IsPayload ok c.payload → IsCaseSlots t (shape_of t (ty.Result j)) tag c
  ok_told e p =
      subst (λ (i : ℕ). IsCaseSlots t (shape_of t (ty.Result j)) i c) (sym e) (subst (λ (s : Shape). IsCaseSlots t s 0 c) (sym defined.shape) (record {
        there = omega (arith, two_cases (payload_in (all_shapes t) ok) (payload_in (all_shapes t) error));
        known = payload_known t ok c.payload (first_known t ok error defined.known) p;
        shapes = first_payload t ok _ c.payload p;
        charge = free ∙ free_name both 0;
      }))

  pub err_told : tag ≡ 1 → IsPayload error c.payload → IsCaseSlots t (shape_of t (ty.Result j)) tag c
  err_told e p =
      subst (λ (i : ℕ). IsCaseSlots t (shape_of t (ty.Result j)) i c) (sym e) (subst (λ (s : Shape). IsCaseSlots t s 1 c) (sym defined.shape) (record {
        there = omega (arith, two_cases (payload_in (all_shapes t) ok) (payload_in (all_shapes t) error));
        known = payload_known t error c.payload (second_known t ok error defined.known) p;
        shapes = first_payload t error no_cases c.payload p ∙ second_payload (payload_in (all_shapes t) ok) (case_for (payload_in (all_shapes t) error) no_cases);
        charge = free ∙ free_name both 1;
      }))

-- ---- kinds

pub as_cases : (s : Shape) (k : VariantKind) (cs : Cases) → s ≡ variant k cs → s ≡ variant k (variant_cases s)
as_cases s k cs e = subst (λ (x : Shape). x ≡ variant k (variant_cases x)) (sym e) refl

-- of the kinds that have cases a result is left
pub result_left : (type : InterfaceType) (s : Shape) → IsCaseKind type s → ((i : ℕ) → type ≡ ty.Variant i → ⊥) → ((i : ℕ) → type ≡ ty.Enum i → ⊥) → ((i : ℕ) → type ≡ ty.Option i → ⊥) → (i : ℕ) × (type ≡ ty.Result i)
result_left (ty.Result i) s h no_variant no_enum no_option = (i, refl)
result_left (ty.Variant i) s h no_variant no_enum no_option = absurd (no_variant i refl)
result_left (ty.Enum i) s h no_variant no_enum no_option = absurd (no_enum i refl)
result_left (ty.Option i) s h no_variant no_enum no_option = absurd (no_option i refl)
result_left ty.Bool s h no_variant no_enum no_option = absurd h
result_left ty.S8 s h no_variant no_enum no_option = absurd h
result_left ty.U8 s h no_variant no_enum no_option = absurd h
result_left ty.S16 s h no_variant no_enum no_option = absurd h
result_left ty.U16 s h no_variant no_enum no_option = absurd h
result_left ty.S32 s h no_variant no_enum no_option = absurd h
result_left ty.U32 s h no_variant no_enum no_option = absurd h
result_left ty.S64 s h no_variant no_enum no_option = absurd h
result_left ty.U64 s h no_variant no_enum no_option = absurd h
result_left ty.Float32 s h no_variant no_enum no_option = absurd h
result_left ty.Float64 s h no_variant no_enum no_option = absurd h
result_left ty.Char s h no_variant no_enum no_option = absurd h
result_left ty.String s h no_variant no_enum no_option = absurd h
result_left (ty.Own i) s h no_variant no_enum no_option = absurd h
result_left (ty.Borrow i) s h no_variant no_enum no_option = absurd h
result_left (ty.Record i) s h no_variant no_enum no_option = absurd h
result_left (ty.Tuple i) s h no_variant no_enum no_option = absurd h
result_left (ty.List i) s h no_variant no_enum no_option = absurd h
result_left (ty.Map i) s h no_variant no_enum no_option = absurd h
result_left (ty.Flags i) s h no_variant no_enum no_option = absurd h
result_left (ty.FixedLengthList i) s h no_variant no_enum no_option = absurd h
