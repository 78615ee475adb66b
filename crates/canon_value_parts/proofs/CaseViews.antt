-- Views of cases, by what a look-up gives.
use Rattle.std.proofs.Common.{◌≡◌, ◌≤◌, ◌<◌, ◌∙◌, ◌^◌, All, Bool, Err, List, None, Ok, Option, Some, String, [], ◌∷◌, ap}
use Rattle.std.proofs.Common.{arith, false, get_or, length, map, refl, slice_get, string_bytes, if◌then◌else◌, subst, suc, sym, true, zero, not, ℕ}
use Rattle.std.specs.Prelude.{Box, position}
use Rattle.std.specs.List.{position_or_len}
use Rattle.std.specs.Map.{keys_of}
use Rattle.std.specs.Option.{option_map}
use Rattle.std.specs.Str.{bytes_eq}
use Rattle.std.specs.declared.alloc.Global.{Global}
use Rattle.std.proofs.lemmas.Bool.{ltb-false, not-true}
use Rattle.std.proofs.lemmas.List.{length-map}
use Rattle.std.proofs.lemmas.List.Elements.{All-tail}
use Rattle.std.proofs.lemmas.List.Quantifiers.{position-Some}
use Rattle.std.proofs.lemmas.List.Sums.{prefix_len_passes}
use Rattle.std.proofs.lemmas.Option.{slice_get-get_or, slice_get-map, slice_get_within}
use Rattle.std.proofs.lemmas.Slice.Eq.{bytes_eq-Decides}
use Rattle.canon_abi.specs.Abi.{HasInfo}
use Rattle.canon_abi.specs.declared.abi.VariantInfo.{VariantInfo}
use Rattle.canon_lowering.specs.Copies.{case_members}
use Rattle.canon_model.specs.Shape.{Cases, Members, Name, Shape, VariantKind, bare_cases, case_for, case_count, enum_of, member, member_count, no_cases, no_members, of_cases, of_names, of_result, result_of, variant, variant_of}
use Rattle.canon_types.specs.Depth.{variant_cases}
use Rattle.canon_types.specs.Keeps.{cases_type}
use Rattle.canon_types.specs.Table.{Knows, KnowsPayload, ResultType, TypeTable, all_shapes, cases_in, parts, payload_in, shape_of}
use Rattle.canon_types.specs.declared.types.InterfaceType.{InterfaceType}
use Rattle.canon_value_parts.specs.CaseView.{IsPayloadViewed, Misses}
use Rattle.canon_value_parts.specs.Fails.{payload_expected, payload_not_expected, unknown_case}
use Rattle.canon_val.specs.Value.{IsCase, IsFirst, case_names, member_names, result_case, result_payload, unboxed}
use Rattle.canon_value_parts.specs.View.{HaveKnownTypes, IsMember, viewed_names, viewed_shapes, viewed_values}
use Rattle.canon_value_parts.specs.Viewed.{BlamesItself, IsCaseSeen}
use Rattle.canon_context.specs.declared.fault.Fault.{Fault}
use Rattle.canon_context.specs.declared.fault.Fault.TheVariants as fault
use Rattle.canon_value_parts.specs.declared.members.Member.{Member}
use Rattle.canon_value_parts.specs.declared.members.Members.{Members as Parts}
use Rattle.canon_value_parts.specs.declared.members.Members.TheVariants as members
use Rattle.canon_val.specs.declared.val.Val.{Val}
use Rattle.canon_val.specs.declared.val.Val.TheVariants as val
use Rattle.canon_value_parts.proofs.Cases.{Both, first_below, same_enum, same_variant}
use Rattle.canon_plan.proofs.Flats.{first_known, second_known, bare_members, two_cases}
use Rattle.canon_value_parts.proofs.Steps.{own_failure}

-- of one member without a name
pub one_at : (t : TypeTable) (k : ℕ) (m : Member) → k < 1 → Knows t m.ty → m.is_named ≡ true → IsMember t (member [] (shape_of t m.ty) no_members) ([] ∷ []) (m.value.now ∷ []) k m
one_at t zero m lt known named = record { known = known; name = []; named = []; same = (λ h. refl, λ e. named); shapes = refl; names = refl; values = refl }
one_at t (suc k) m lt known named = absurd (omega (arith, lt))

-- ---- names, by the table's look-up

spelled : (ks : List (String Global)) (d : String Global) (i : ℕ) → i < length ks → slice_get (map (λ k. string_bytes k) ks) i ≡ Some (string_bytes (get_or ks i d))
spelled ks d i lt = slice_get-map (λ (k : String Global). string_bytes k) ks i ∙ ap (option_map (λ (k : String Global). string_bytes k)) (slice_get-get_or ks i d lt)

same_some : (a b : Name) (o : Option Name) → o ≡ Some a → o ≡ Some b → a ≡ b
same_some a b o e f = cc

no_both : (b : Bool) → b ≡ true → b ≡ false → ⊥
no_both b e f = cc

-- the first that passes is the first of this name
found_in : (name : Name) (ks : List (String Global)) (d : String Global) (i : ℕ) → position (λ k. bytes_eq name (string_bytes k)) ks ≡ Some i → IsFirst name (map (λ k. string_bytes k) ks) i
found_in name ks d i e =
    let (lt, here, before) = position-Some (λ (k : String Global). bytes_eq name (string_bytes k)) ks i d e in
    let same : name ≡ string_bytes (get_or ks i d) = (bytes_eq-Decides name (string_bytes (get_or ks i d))).0 here in (
      spelled ks d i lt ∙ ap Some (sym same),
      λ j l is. no_both _ ((bytes_eq-Decides name (string_bytes (get_or ks j d))).1 (same_some name (string_bytes (get_or ks j d)) _ is (spelled ks d j (omega (arith, l, lt))))) (before j l),
    )

pub value_found : (name : Name) (ks : List (String Global)) (i : ℕ) → position (λ k. bytes_eq name (string_bytes k)) ks ≡ Some i → IsFirst name (map (λ k. string_bytes k) ks) i
value_found name [] i e = cc
value_found name (k ∷ ks) i e = found_in name (k ∷ ks) k i e

cond_none : (b : Bool) (n : ℕ) → (if b then Some n else None) ≡ None → b ≡ false
cond_none true n e = cc
cond_none false n e = refl

-- where none passes, none has this name
lost_in : (name : Name) (ks : List (String Global)) (d : String Global) → position (λ k. bytes_eq name (string_bytes k)) ks ≡ None → (i : ℕ) → slice_get (map (λ k. string_bytes k) ks) i ≡ Some name → ⊥
lost_in name ks d e i is =
    let test : String Global → Bool = λ k. bytes_eq name (string_bytes k) in
    let far : length ks ≤ position_or_len test ks = ltb-false _ _ (cond_none _ _ e) in
    let lt : i < length ks = omega (arith, slice_get_within (map (λ (k : String Global). string_bytes k) ks) i name is, length-map ks (λ (k : String Global). string_bytes k)) in
    let fails : bytes_eq name (string_bytes (get_or ks i d)) ≡ false = not-true _ (prefix_len_passes (λ k. not (test k)) ks i d (omega (arith, lt, far))) in
    no_both _ ((bytes_eq-Decides name (string_bytes (get_or ks i d))).1 (same_some name (string_bytes (get_or ks i d)) _ is (spelled ks d i lt))) fails

pub lost : (name : Name) (ks : List (String Global)) → position (λ k. bytes_eq name (string_bytes k)) ks ≡ None → (i : ℕ) → slice_get (map (λ k. string_bytes k) ks) i ≡ Some name → ⊥
lost name [] e i is = cc
lost name (k ∷ ks) e i is = lost_in name (k ∷ ks) k e i is

abbrev named_entries : List (String Global × Option InterfaceType) → List (Name × Option InterfaceType)
named_entries entries = map (λ (c : String Global × Option InterfaceType). (string_bytes c.0, c.1)) entries

pub variant_names : (known : List Shape) (entries : List (String Global × Option InterfaceType)) → case_names (cases_in known (named_entries entries)) ≡ map (λ k. string_bytes k) (keys_of entries)
variant_names known [] = refl
variant_names known ((k, None) ∷ entries) = ap (λ ns. string_bytes k ∷ ns) (variant_names known entries)
variant_names known ((k, Some type) ∷ entries) = ap (λ ns. string_bytes k ∷ ns) (variant_names known entries)

pub enum_names : (names : List Name) → case_names (bare_cases names) ≡ names
enum_names [] = refl
enum_names (name ∷ names) = ap (λ ns. name ∷ ns) (enum_names names)

-- ---- a payload as members

-- of a case's type, if it has one
abbrev pub payload_members : TypeTable → Option InterfaceType → Members
payload_members t None = no_members
payload_members t (Some type) = member [] (shape_of t type) no_members

abbrev Entry : Type 0
Entry = String Global × Option InterfaceType

same_entries : (x y : Entry) → Some x ≡ Some y → x ≡ y
same_entries x y e = cc

same_entry : (n k : String Global) (a b : Option InterfaceType) → ◌≡◌ {A = Option Entry} (Some (n, a)) (Some (k, b)) → a ≡ b
same_entry n k a b e = ap (λ (p : Entry). p.1) (same_entries (n, a) (k, b) e)

-- the case of this number, by its entry
pub entry_members : (t : TypeTable) (entries : List (String Global × Option InterfaceType)) (i : ℕ) (k : String Global) (type : Option InterfaceType) → slice_get entries i ≡ Some (k, type)
    → case_members (cases_in (all_shapes t) (named_entries entries)) i ≡ payload_members t type
entry_members t [] i k type e = cc
entry_members t ((n, None) ∷ entries) zero k type e = ap (payload_members t) (same_entry n k None type e)
entry_members t ((n, Some x) ∷ entries) zero k type e = ap (payload_members t) (same_entry n k (Some x) type e)
entry_members t ((n, None) ∷ entries) (suc i) k type e = entry_members t entries i k type e
entry_members t ((n, Some x) ∷ entries) (suc i) k type e = entry_members t entries i k type e

pub entry_known : (t : TypeTable) (entries : List (String Global × Option InterfaceType)) (i : ℕ) (k : String Global) (type : Option InterfaceType) → slice_get entries i ≡ Some (k, type)
    → All (Knows t) (parts (cases_type entries)) → KnowsPayload t type
entry_known t [] i k type e h = cc
entry_known t ((n, None) ∷ entries) zero k type e h = subst (KnowsPayload t) (same_entry n k None type e) tt
entry_known t ((n, Some x) ∷ entries) zero k type e h = subst (KnowsPayload t) (same_entry n k (Some x) type e) (h 0 x (omega arith))
entry_known t ((n, None) ∷ entries) (suc i) k type e h = entry_known t entries i k type e h
entry_known t ((n, Some x) ∷ entries) (suc i) k type e h = entry_known t entries i k type e (All-tail (Knows t) x (parts (cases_type entries)) h)

pub first_members : (t : TypeTable) (type : Option InterfaceType) (cs : Cases) → case_members (case_for (payload_in (all_shapes t) type) cs) 0 ≡ payload_members t type
first_members t None cs = refl
first_members t (Some x) cs = refl

pub second_members : (t : TypeTable) (first : Option Shape) (type : Option InterfaceType) (cs : Cases) → case_members (case_for first (case_for (payload_in (all_shapes t) type) cs)) 1 ≡ payload_members t type
second_members t None type cs = first_members t type cs
second_members t (Some s) type cs = first_members t type cs

-- what the members of a payload are
pub record IsSeen (t : TypeTable) (type : Option InterfaceType) (p : Option (Box Val Global)) (ms : Parts) : Type 0 where
  pub known : HaveKnownTypes t ms
  pub shapes : viewed_shapes t ms ≡ payload_members t type
  pub values : viewed_values ms ≡ unboxed p
  pub names : viewed_names ms ≡ member_names (viewed_shapes t ms)
  pub count : length (viewed_values ms) ≡ member_count (viewed_shapes t ms)

pub payload_seen : (t : TypeTable) (type : Option InterfaceType) (p : Option (Box Val Global)) (ms : Parts) → KnowsPayload t type → IsPayloadViewed type p ms → IsSeen t type p ms
payload_seen t None None ms known e = subst (λ (x : Parts). IsSeen t None None x) (sym e) (record { known = tt; shapes = refl; values = refl; names = refl; count = refl })
payload_seen t None (Some b) ms known e = absurd e
payload_seen t (Some type) None ms known e = absurd e
payload_seen t (Some type) (Some b) ms known (v, e, ev) =
    subst (λ (x : Parts). IsSeen t (Some type) (Some b) x) (sym e) (record { known = known; shapes = refl; values = ap (λ (w : Val). w ∷ []) ev; names = refl; count = refl })

-- ---- how a value fails

-- its payload is there though its case has none, or the other way round
pub missed : (t : TypeTable) (k : VariantKind) (cs : Cases) (d : ℕ) (type : Option InterfaceType) (p : Option (Box Val Global)) (s : Shape) (v : Val) (place : ℕ) (e : Fault) → s ≡ variant k cs
    → case_members cs d ≡ payload_members t type → IsCase k cs d (unboxed p) v → Misses type p place e → BlamesItself s v place e
missed t k cs d None None s v place e es members of miss = absurd miss
missed t k cs d (Some type) (Some b) s v place e es members of miss = absurd miss
missed t k cs d (Some type) None s v place e es members of miss =
    subst (λ (x : Fault). BlamesItself s v place x) (sym miss) (own_failure payload_expected (variant k cs) s v place es (d, of, ap member_count members))
missed t k cs d None (Some b) s v place e es members of miss =
    subst (λ (x : Fault). BlamesItself s v place x) (sym miss) (own_failure payload_not_expected (variant k cs) s v place es (d, b.value, of, ap member_count members))

-- ---- an enum

-- a name's number has 32 bits
pub name_few : (name : Name) (info : VariantInfo) (cs : Cases) (i : ℕ) → HasInfo info cs → IsFirst name (case_names cs) i → i < 2 ^ 32
name_few name info cs i has first = omega (arith, has.few, first_below cs name i first)

module _ (t : TypeTable) (s : Shape) (v : Val) (info : VariantInfo) (ks : List (String Global)) (name : String Global) (xs : Name) (shape : s ≡ enum_of (map (λ k. string_bytes k) ks)) (has : HasInfo info (variant_cases s))
    (ev : v ≡ val.Enum name) (en : xs ≡ string_bytes name) where
  abbrev spellings : List Name
  spellings = map (λ (k : String Global). string_bytes k) ks

  pub enum_first : (i : ℕ) → position (λ k. bytes_eq xs (string_bytes k)) ks ≡ Some i → IsFirst (string_bytes name) (case_names (bare_cases spellings)) i
  enum_first i e = subst (λ (ns : List Name). IsFirst (string_bytes name) ns i) (sym (enum_names spellings)) (subst (λ (x : Name). IsFirst x spellings i) en (value_found xs ks i e))

  pub value_enum_info : HasInfo info (bare_cases spellings)
  value_enum_info = subst (λ (x : Shape). HasInfo info (variant_cases x)) shape has

  pub enum_seen : (i : ℕ) → position (λ k. bytes_eq xs (string_bytes k)) ks ≡ Some i → IsCaseSeen t s v (record { info = info; tag = i; payload = members.Empty })
  enum_seen i e = record {
    kind = of_names;
    cases = bare_cases spellings;
    shape = shape;
    info = value_enum_info;
    inside = first_below (bare_cases spellings) (string_bytes name) i (enum_first i e);
    known = tt;
    shapes = sym (bare_members spellings i);
    is = (name, ev, refl, enum_first i e);
    names = refl;
    count = refl;
  }

  pub enum_unknown : (place : ℕ) → position (λ k. bytes_eq xs (string_bytes k)) ks ≡ None → BlamesItself s v place (fault.UnknownCase place)
  enum_unknown place e = own_failure unknown_case (variant of_names (bare_cases spellings)) s v place shape (
    λ other. other name ev,
    λ d vs (n, ew, et, first). lost xs ks e d (subst (λ (ns : List Name). slice_get ns d ≡ Some xs) (enum_names spellings) (first.0 ∙ ap Some (ap (λ (x : String Global). string_bytes x) (same_enum n name (sym ew ∙ ev)) ∙ sym en))),
  )

-- ---- a variant

module _ (t : TypeTable) (s : Shape) (v : Val) (info : VariantInfo) (entries : List (String Global × Option InterfaceType)) (name : String Global) (p : Option (Box Val Global)) (xs : Name)
    (shape : s ≡ variant_of (cases_in (all_shapes t) (named_entries entries))) (has : HasInfo info (variant_cases s)) (ev : v ≡ val.Variant name p) (en : xs ≡ string_bytes name) where
  abbrev cs : Cases
  cs = cases_in (all_shapes t) (named_entries entries)

  pub variant_first : (i : ℕ) → position (λ k. bytes_eq xs (string_bytes k)) (keys_of entries) ≡ Some i → IsFirst (string_bytes name) (case_names cs) i
  variant_first i e = subst (λ (ns : List Name). IsFirst (string_bytes name) ns i) (sym (variant_names (all_shapes t) entries))
      (subst (λ (x : Name). IsFirst x (map (λ k. string_bytes k) (keys_of entries)) i) en (value_found xs (keys_of entries) i e))

  pub variant_info : HasInfo info cs
  variant_info = subst (λ (x : Shape). HasInfo info (variant_cases x)) shape has

  pub variant_unknown : (place : ℕ) → position (λ k. bytes_eq xs (string_bytes k)) (keys_of entries) ≡ None → BlamesItself s v place (fault.UnknownCase place)
  variant_unknown place e = own_failure unknown_case (variant of_cases cs) s v place shape (
    λ other. other name p ev,
    λ d vs (n, q, ew, et, first). lost xs (keys_of entries) e d
        (subst (λ (ns : List Name). slice_get ns d ≡ Some xs) (variant_names (all_shapes t) entries) (first.0 ∙ ap Some (ap (λ (x : String Global). string_bytes x) (same_variant n name q p (sym ew ∙ ev)).0 ∙ sym en))),
  )

  module _ (i : ℕ) (k : String Global) (type : Option InterfaceType) (at : slice_get entries i ≡ Some (k, type)) (e : position (λ k. bytes_eq xs (string_bytes k)) (keys_of entries) ≡ Some i) where
    pub variant_seen : (ms : Parts) → All (Knows t) (parts (cases_type entries)) → IsPayloadViewed type p ms → IsCaseSeen t s v (record { info = info; tag = i; payload = ms })
    variant_seen ms known is =
        let seen = payload_seen t type p ms (entry_known t entries i k type at known) is in
        record {
          kind = of_cases;
          cases = cs;
          shape = shape;
          info = variant_info;
          inside = first_below cs (string_bytes name) i (variant_first i e);
          known = seen.known;
          shapes = seen.shapes ∙ sym (entry_members t entries i k type at);
          is = (name, p, ev, seen.values, variant_first i e);
          names = seen.names;
          count = seen.count;
        }

    pub variant_missed : (place : ℕ) (f : Fault) → Misses type p place f → BlamesItself s v place f
    variant_missed place f miss = missed t of_cases cs i type p s v place f shape (entry_members t entries i k type at) (name, p, ev, refl, variant_first i e) miss

-- ---- a result

-- what a result's payload is chosen to be: its case, the case's type, and the payload
pub record IsChosen (t : TypeTable) (ok error : Option InterfaceType) (r : Both) (i : ℕ) (type : Option InterfaceType) (p : Option (Box Val Global)) : Type 0 where
  pub members : case_members (variant_cases (result_of (payload_in (all_shapes t) ok) (payload_in (all_shapes t) error))) i ≡ payload_members t type
  pub known : KnowsPayload t type
  pub case : i ≡ result_case r
  pub payload : unboxed p ≡ result_payload r
  pub few : i < 2

pub chosen_ok : (t : TypeTable) (ok error : Option InterfaceType) (r : Both) (q : Option (Box Val Global)) → All (Knows t) (parts (ResultType ok error)) → r ≡ Ok q → IsChosen t ok error r 0 ok q
chosen_ok t ok error r q known e = record {
  members = first_members t ok (case_for (payload_in (all_shapes t) error) no_cases);
  known = first_known t ok error known;
  case = sym (ap result_case e);
  payload = sym (ap result_payload e);
  few = omega arith;
}

pub chosen_error : (t : TypeTable) (ok error : Option InterfaceType) (r : Both) (q : Option (Box Val Global)) → All (Knows t) (parts (ResultType ok error)) → r ≡ Err q → IsChosen t ok error r 1 error q
chosen_error t ok error r q known e = record {
  members = second_members t (payload_in (all_shapes t) ok) error no_cases;
  known = second_known t ok error known;
  case = sym (ap result_case e);
  payload = sym (ap result_payload e);
  few = omega arith;
}

module _ (t : TypeTable) (s : Shape) (v : Val) (info : VariantInfo) (ok error : Option InterfaceType) (r : Both) (i : ℕ) (type : Option InterfaceType) (p : Option (Box Val Global))
    (shape : s ≡ result_of (payload_in (all_shapes t) ok) (payload_in (all_shapes t) error)) (has : HasInfo info (variant_cases s)) (ev : v ≡ val.Result r) (chosen : IsChosen t ok error r i type p) where
  abbrev both_cases : Cases
  both_cases = variant_cases (result_of (payload_in (all_shapes t) ok) (payload_in (all_shapes t) error))

  inside : i < case_count both_cases
  inside = omega (arith, chosen.few, two_cases (payload_in (all_shapes t) ok) (payload_in (all_shapes t) error))

  pub result_seen : (ms : Parts) → IsPayloadViewed type p ms → IsCaseSeen t s v (record { info = info; tag = i; payload = ms })
  result_seen ms is =
      let seen = payload_seen t type p ms chosen.known is in
      record {
        kind = of_result;
        cases = both_cases;
        shape = shape;
        info = subst (λ (x : Shape). HasInfo info (variant_cases x)) shape has;
        inside = inside;
        known = seen.known;
        shapes = seen.shapes ∙ sym chosen.members;
        is = (r, ev, seen.values ∙ chosen.payload, chosen.case, inside);
        names = seen.names;
        count = seen.count;
      }

  pub result_missed : (place : ℕ) (f : Fault) → Misses type p place f → BlamesItself s v place f
  result_missed place f miss = missed t of_result both_cases i type p s v place f shape chosen.members (r, ev, chosen.payload, chosen.case, inside) miss
