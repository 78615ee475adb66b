-- How many words a type has, by its parts; and types of one word or two.
use Rattle.std.proofs.Common.{◌≡◌, ◌≤◌, ◌<◌, ◌+◌, ◌*◌, ◌++◌, ◌∙◌, All, Bool, List, None, Option, Some, [], ◌∷◌, ap, arith, drop, false, get_or, length, map, max, refl, slice_get, string_bytes, String, subst, suc, sym, true, zero, ℕ}
use Rattle.std.proofs.lemmas.List.Elements.{All-tail}
use Rattle.std.proofs.lemmas.List.{get_or-append-add, get_or_append_left, length-append}
use Rattle.std.specs.Map.{values_of}
use Rattle.std.specs.Option.{option_map_or}
use Rattle.std.specs.declared.alloc.Global.{Global}
use Rattle.canon_model.specs.Layout.{cases_flat, flag_words, flat, members_flat}
use Rattle.canon_model.specs.Shape.{Name, Shape, bare_cases, case_for, no_cases, case_count, no_members, variant}
use Rattle.canon_types.specs.Depth.{deepest, deepest_case, depth}
use Rattle.canon_types.specs.Keeps.{cases_type, field_members, fields_type}
use Rattle.canon_types.specs.Laid.{unnamed_cases}
use Rattle.canon_types.specs.Table.{Definition, EnumType, FixedListType, FlagsType, IsDefined, Knows, KnowsPayload, ListType, MapType, OptionType, RecordType, ResultType, TupleType, TypeTable, VariantType, all_shapes, cases_in, defined_shape, is_enum, is_list, is_map, members_of, no_shape, parts, payload_in, shape_in, shape_of, shapes_after}
use Rattle.canon_types.specs.declared.types.InterfaceType.{InterfaceType}
use Rattle.canon_types.specs.declared.types.InterfaceType.TheVariants as ty
use Rattle.canon_types.specs.declared.types.RecordField.{RecordField}
use Rattle.canon_plan.proofs.Lookups.{drop_all, drop_at, field_at, field_depth, field_known, member_at, member_depth}
use Rattle.canon_lowering.specs.Copies.{case_members}

-- ---- the shape of a definition that passes a test

-- the shapes that were found stay
kept_shape : (known : List Shape) (ds : List Definition) (i : ℕ) (d : Shape) → i < length known → get_or (shapes_after known ds) i d ≡ get_or known i d
unfolding shapes_after
kept_shape known [] i d h = refl
kept_shape known (x ∷ ds) i d h =
    let new : List Shape = defined_shape known x ∷ [] in
    kept_shape (known ++ new) ds i d (omega (arith, h, length-append known new)) ∙ get_or_append_left known new d i h

shaped_at : (P : Shape → Type 0) (test : Definition → Bool) → ((known : List Shape) (d : Definition) → test d ≡ true → P (defined_shape known d))
    → (known : List Shape) (ds : List Definition) (j : ℕ) → option_map_or test (slice_get ds j) false ≡ true → P (get_or (shapes_after known ds) (length known + j) no_shape)
unfolding shapes_after
shaped_at P test one known [] j h = cc
shaped_at P test one known (x ∷ ds) zero h =
    let new : List Shape = defined_shape known x ∷ [] in
    let here : get_or (shapes_after (known ++ new) ds) (length known + 0) no_shape ≡ defined_shape known x =
    kept_shape (known ++ new) ds (length known + 0) no_shape (omega (arith, length-append known new)) ∙ get_or-append-add known new 0 no_shape in
    subst P (sym here) (one known x h)
shaped_at P test one known (x ∷ ds) (suc j) h =
    let new : List Shape = defined_shape known x ∷ [] in
    let same : length (known ++ new) + j ≡ length known + suc j = omega (arith, length-append known new) in
    subst (λ n. P (get_or (shapes_after (known ++ new) ds) n no_shape)) same (shaped_at P test one (known ++ new) ds j h)

-- what holds of the shape of each such definition holds of one of the table
shaped_of : (P : Shape → Type 0) (test : Definition → Bool) → ((known : List Shape) (d : Definition) → test d ≡ true → P (defined_shape known d))
    → (t : TypeTable) (i : ℕ) → option_map_or test (slice_get t.definitions i) false ≡ true → P (get_or (all_shapes t) i no_shape)
unfolding all_shapes
shaped_of P test one t i h = let same : 0 + i ≡ i = omega arith in subst (λ n. P (get_or (shapes_after [] t.definitions) n no_shape)) same (shaped_at P test one [] t.definitions i h)

-- ---- types of one word or two

bare_words : (names : List Name) → cases_flat (bare_cases names) ≡ 0
unfolding flat
bare_words [] = refl
bare_words (name ∷ names) = bare_words names

list_words : (known : List Shape) (d : Definition) → is_list d ≡ true → flat (defined_shape known d) ≤ 2
unfolding flat
list_words known (ListType e) h = omega arith
list_words known (MapType k v) h = cc
list_words known (RecordType fs) h = cc
list_words known (TupleType ts) h = cc
list_words known (VariantType cs) h = cc
list_words known (EnumType ns) h = cc
list_words known (OptionType s) h = cc
list_words known (ResultType o e) h = cc
list_words known (FlagsType ns) h = cc
list_words known (FixedListType e n) h = cc

map_words : (known : List Shape) (d : Definition) → is_map d ≡ true → flat (defined_shape known d) ≤ 2
unfolding flat
map_words known (MapType k v) h = omega arith
map_words known (ListType e) h = cc
map_words known (RecordType fs) h = cc
map_words known (TupleType ts) h = cc
map_words known (VariantType cs) h = cc
map_words known (EnumType ns) h = cc
map_words known (OptionType s) h = cc
map_words known (ResultType o e) h = cc
map_words known (FlagsType ns) h = cc
map_words known (FixedListType e n) h = cc

enum_words : (known : List Shape) (d : Definition) → is_enum d ≡ true → flat (defined_shape known d) ≤ 2
unfolding flat
enum_words known (EnumType ns) h = omega (arith, bare_words ns)
enum_words known (ListType e) h = cc
enum_words known (MapType k v) h = cc
enum_words known (RecordType fs) h = cc
enum_words known (TupleType ts) h = cc
enum_words known (VariantType cs) h = cc
enum_words known (OptionType s) h = cc
enum_words known (ResultType o e) h = cc
enum_words known (FlagsType ns) h = cc
enum_words known (FixedListType e n) h = cc

-- any other than these
pub near_words : (t : TypeTable) (type : InterfaceType) → Knows t type → ((i : ℕ) → type ≡ ty.Record i → ⊥) → ((i : ℕ) → type ≡ ty.Tuple i → ⊥) → ((i : ℕ) → type ≡ ty.FixedLengthList i → ⊥)
    → ((i : ℕ) → type ≡ ty.Variant i → ⊥) → ((i : ℕ) → type ≡ ty.Option i → ⊥) → ((i : ℕ) → type ≡ ty.Result i → ⊥) → ((i : ℕ) → type ≡ ty.Flags i → ⊥) → flat (shape_of t type) ≤ 2
unfolding flat
near_words t ty.Bool known r p x v o e f = omega arith
near_words t ty.S8 known r p x v o e f = omega arith
near_words t ty.U8 known r p x v o e f = omega arith
near_words t ty.S16 known r p x v o e f = omega arith
near_words t ty.U16 known r p x v o e f = omega arith
near_words t ty.S32 known r p x v o e f = omega arith
near_words t ty.U32 known r p x v o e f = omega arith
near_words t ty.S64 known r p x v o e f = omega arith
near_words t ty.U64 known r p x v o e f = omega arith
near_words t ty.Float32 known r p x v o e f = omega arith
near_words t ty.Float64 known r p x v o e f = omega arith
near_words t ty.Char known r p x v o e f = omega arith
near_words t ty.String known r p x v o e f = omega arith
near_words t (ty.Own i) known r p x v o e f = omega arith
near_words t (ty.Borrow i) known r p x v o e f = omega arith
near_words t (ty.Record i) known r p x v o e f = absurd (r i refl)
near_words t (ty.Tuple i) known r p x v o e f = absurd (p i refl)
near_words t (ty.FixedLengthList i) known r p x v o e f = absurd (x i refl)
near_words t (ty.Variant i) known r p x v o e f = absurd (v i refl)
near_words t (ty.Option i) known r p x v o e f = absurd (o i refl)
near_words t (ty.Result i) known r p x v o e f = absurd (e i refl)
near_words t (ty.Flags i) known r p x v o e f = absurd (f i refl)
near_words t (ty.List i) known r p x v o e f = shaped_of (λ s. flat s ≤ 2) is_list list_words t i known
near_words t (ty.Map i) known r p x v o e f = shaped_of (λ s. flat s ≤ 2) is_map map_words t i known
near_words t (ty.Enum i) known r p x v o e f = shaped_of (λ s. flat s ≤ 2) is_enum enum_words t i known

-- ---- parts

-- the words of a variant's cases are those of its payloads
pub unnamed_words : (known : List Shape) (cs : List (Name × Option InterfaceType)) → cases_flat (unnamed_cases known (map (λ c. c.1) cs)) ≡ cases_flat (cases_in known cs)
unfolding flat
unnamed_words known [] = refl
unnamed_words known ((name, None) ∷ cs) = unnamed_words known cs
unnamed_words known ((name, Some type) ∷ cs) = ap (λ n. max (flat (shape_in known type)) n) (unnamed_words known cs)

pub unnamed_depth : (known : List Shape) (cs : List (Name × Option InterfaceType)) → deepest_case (unnamed_cases known (map (λ c. c.1) cs)) ≡ deepest_case (cases_in known cs)
unnamed_depth known [] = refl
unnamed_depth known ((name, None) ∷ cs) = unnamed_depth known cs
unnamed_depth known ((name, Some type) ∷ cs) = ap (λ n. max (depth (shape_in known type)) n) (unnamed_depth known cs)

field_first : (t : TypeTable) (fields : List RecordField) (i : ℕ) (d f : RecordField) → f ≡ get_or fields i d → i < length fields
    → members_flat (field_members t (drop i fields)) ≡ flat (shape_of t f.ty) + members_flat (field_members t (drop (i + 1) fields))
unfolding flat
field_first t fields i d f e h = ap members_flat (field_at t fields i d f e h)

member_first : (t : TypeTable) (types : List InterfaceType) (i : ℕ) (d type : InterfaceType) → type ≡ get_or types i d → i < length types
    → members_flat (members_of t (drop i types)) ≡ flat (shape_of t type) + members_flat (members_of t (drop (i + 1) types))
unfolding flat
member_first t types i d type e h = ap members_flat (member_at t types i d type e h)

pub bare_first : (known : List Shape) (payloads : List (Option InterfaceType)) (i : ℕ) (d p : Option InterfaceType) → p ≡ get_or payloads i d → i < length payloads → p ≡ None
    → cases_flat (unnamed_cases known (drop i payloads)) ≡ cases_flat (unnamed_cases known (drop (i + 1) payloads))
unfolding flat
bare_first known payloads i d p e h none = ap (λ ps. cases_flat (unnamed_cases known ps)) (drop_at payloads i d p e h ∙ ap (λ x. x ∷ drop (i + 1) payloads) none)

pub payload_first : (known : List Shape) (payloads : List (Option InterfaceType)) (i : ℕ) (d p : Option InterfaceType) (type : InterfaceType) → p ≡ get_or payloads i d → i < length payloads → p ≡ Some type
    → cases_flat (unnamed_cases known (drop i payloads)) ≡ max (flat (shape_in known type)) (cases_flat (unnamed_cases known (drop (i + 1) payloads)))
unfolding flat
payload_first known payloads i d p type e h some = ap (λ ps. cases_flat (unnamed_cases known ps)) (drop_at payloads i d p e h ∙ ap (λ x. x ∷ drop (i + 1) payloads) some)

pub payload_depth : (known : List Shape) (payloads : List (Option InterfaceType)) (i : ℕ) (d : Option InterfaceType) (type : InterfaceType) → i < length payloads → get_or payloads i d ≡ Some type
    → depth (shape_in known type) ≤ deepest_case (unnamed_cases known payloads)
payload_depth known [] i d type h some = absurd (omega (arith, h))
payload_depth known (None ∷ payloads) zero d type h some = cc
payload_depth known (Some x ∷ payloads) zero d type h some = let same : x ≡ type = cc in omega (arith, ap (λ y. depth (shape_in known y)) same)
payload_depth known (None ∷ payloads) (suc i) d type h some = payload_depth known payloads i d type (omega (arith, h)) some
payload_depth known (Some x ∷ payloads) (suc i) d type h some = omega (arith, payload_depth known payloads i d type (omega (arith, h)) some)

-- ---- loops over parts

-- the type is known and no deeper than `deep`, and its words are the first of those that are left
pub record IsPart (t : TypeTable) (type : InterfaceType) (deep left rest : ℕ) : Type 0 where
  pub known : Knows t type
  pub shallow : depth (shape_of t type) ≤ deep
  pub first : left ≡ flat (shape_of t type) + rest

pub field_part : (t : TypeTable) (fields : List RecordField) (i : ℕ) (d f : RecordField) → f ≡ get_or fields i d → i < length fields → All (Knows t) (parts (fields_type fields))
    → IsPart t f.ty (deepest (field_members t fields)) (members_flat (field_members t (drop i fields))) (members_flat (field_members t (drop (i + 1) fields)))
field_part t fields i d f e h known = record {
  known = subst (λ (x : RecordField). Knows t x.ty) (sym e) (field_known t fields i d h known);
  shallow = omega (arith, field_depth t fields i d h, ap (λ (x : RecordField). depth (shape_of t x.ty)) e);
  first = field_first t fields i d f e h;
}

pub member_part : (t : TypeTable) (types : List InterfaceType) (i : ℕ) (d type : InterfaceType) → type ≡ get_or types i d → i < length types → All (Knows t) types
    → IsPart t type (deepest (members_of t types)) (members_flat (members_of t (drop i types))) (members_flat (members_of t (drop (i + 1) types)))
member_part t types i d type e h known = record {
  known = subst (λ (x : InterfaceType). Knows t x) (sym e) (known i d h);
  shallow = omega (arith, member_depth t types i d h, ap (λ (x : InterfaceType). depth (shape_of t x)) e);
  first = member_first t types i d type e h;
}

pub no_fields : (t : TypeTable) (fields : List RecordField) (i : ℕ) → i ≡ length fields → members_flat (field_members t (drop i fields)) ≡ 0
unfolding flat
no_fields t fields i e = ap (λ (xs : List RecordField). members_flat (field_members t xs)) (drop_all fields i e)

pub no_types : (t : TypeTable) (types : List InterfaceType) (i : ℕ) → i ≡ length types → members_flat (members_of t (drop i types)) ≡ 0
unfolding flat
no_types t types i e = ap (λ (xs : List InterfaceType). members_flat (members_of t xs)) (drop_all types i e)

pub no_payloads : (known : List Shape) (payloads : List (Option InterfaceType)) (i : ℕ) → i ≡ length payloads → cases_flat (unnamed_cases known (drop i payloads)) ≡ 0
unfolding flat
no_payloads known payloads i e = ap (λ (xs : List (Option InterfaceType)). cases_flat (unnamed_cases known xs)) (drop_all payloads i e)

-- the payloads of a definition are known
pub cases_known : (t : TypeTable) (cs : List (Name × Option InterfaceType)) → All (Knows t) (parts (VariantType cs)) → All (KnowsPayload t) (map (λ c. c.1) cs)
cases_known t [] h k d lt = absurd (omega (arith, lt))
cases_known t ((name, None) ∷ cs) h zero d lt = tt
cases_known t ((name, None) ∷ cs) h (suc k) d lt = cases_known t cs h k d (omega (arith, lt))
cases_known t ((name, Some type) ∷ cs) h zero d lt = h 0 type (omega arith)
cases_known t ((name, Some type) ∷ cs) h (suc k) d lt = cases_known t cs (All-tail (Knows t) type (parts (VariantType cs)) h) k d (omega (arith, lt))

pub first_known : (t : TypeTable) (ok error : Option InterfaceType) → All (Knows t) (parts (ResultType ok error)) → KnowsPayload t ok
first_known t None error h = tt
first_known t (Some type) error h = h 0 type (omega arith)

pub second_known : (t : TypeTable) (ok error : Option InterfaceType) → All (Knows t) (parts (ResultType ok error)) → KnowsPayload t error
second_known t ok None h = tt
second_known t None (Some type) h = h 0 type (omega arith)
second_known t (Some first) (Some type) h = h 1 type (omega arith)

pub result_known : (t : TypeTable) (ok error : Option InterfaceType) → All (Knows t) (parts (ResultType ok error)) → All (KnowsPayload t) (ok ∷ error ∷ [])
result_known t ok error h zero d lt = first_known t ok error h
result_known t ok error h (suc zero) d lt = second_known t ok error h
result_known t ok error h (suc (suc k)) d lt = absurd (omega (arith, lt))

-- ---- what a look-up gives

-- so many words, and the deepest part
abbrev IsMade : TypeTable → InterfaceType → ℕ → ℕ → Type 0
IsMade t type words deep = (words ≡ flat (shape_of t type)) × (1 + deep ≡ depth (shape_of t type))

pub record_made : (t : TypeTable) (type : InterfaceType) (i : ℕ) (fields xs : List RecordField) → type ≡ ty.Record i → IsDefined t (ty.Record i) (fields_type fields) → xs ≡ fields
    → IsMade t type (members_flat (field_members t xs)) (deepest (field_members t xs)) × All (Knows t) (parts (fields_type xs))
unfolding flat
record_made t type i fields xs is h same =
    subst (λ (ys : List RecordField). IsMade t type (members_flat (field_members t ys)) (deepest (field_members t ys)) × All (Knows t) (parts (fields_type ys))) (sym same)
    (subst (λ (x : InterfaceType). IsMade t x (members_flat (field_members t fields)) (deepest (field_members t fields))) (sym is) (sym (ap flat h.shape), sym (ap depth h.shape)), h.known)

pub tuple_made : (t : TypeTable) (type : InterfaceType) (i : ℕ) (types xs : List InterfaceType) → type ≡ ty.Tuple i → IsDefined t (ty.Tuple i) (TupleType types) → xs ≡ types
    → IsMade t type (members_flat (members_of t xs)) (deepest (members_of t xs)) × All (Knows t) xs
unfolding flat
tuple_made t type i types xs is h same =
    subst (λ (ys : List InterfaceType). IsMade t type (members_flat (members_of t ys)) (deepest (members_of t ys)) × All (Knows t) ys) (sym same)
    (subst (λ (x : InterfaceType). IsMade t x (members_flat (members_of t types)) (deepest (members_of t types))) (sym is) (sym (ap flat h.shape), sym (ap depth h.shape)), h.known)

pub fixed_made : (t : TypeTable) (type : InterfaceType) (i n : ℕ) (element : InterfaceType) → type ≡ ty.FixedLengthList i → IsDefined t (ty.FixedLengthList i) (FixedListType element n)
    → IsMade t type (n * flat (shape_of t element)) (depth (shape_of t element)) × Knows t element
unfolding flat
fixed_made t type i n element is h =
    (subst (λ (x : InterfaceType). IsMade t x (n * flat (shape_of t element)) (depth (shape_of t element))) (sym is) (sym (ap flat h.shape), sym (ap depth h.shape)), h.known 0 element (omega arith))

pub option_made : (t : TypeTable) (type : InterfaceType) (i : ℕ) (some : InterfaceType) → type ≡ ty.Option i → IsDefined t (ty.Option i) (OptionType some)
    → IsMade t type (1 + flat (shape_of t some)) (depth (shape_of t some)) × Knows t some
unfolding flat
option_made t type i some is h =
    (subst (λ (x : InterfaceType). IsMade t x (1 + flat (shape_of t some)) (depth (shape_of t some))) (sym is) (omega (arith, ap flat h.shape), omega (arith, ap depth h.shape)), h.known 0 some (omega arith))

pub flags_made : (t : TypeTable) (type : InterfaceType) (i : ℕ) (names : List Name) → type ≡ ty.Flags i → IsDefined t (ty.Flags i) (FlagsType names) → flag_words (length names) ≡ flat (shape_of t type)
unfolding flat
flags_made t type i names is h = subst (λ (x : InterfaceType). flag_words (length names) ≡ flat (shape_of t x)) (sym is) (sym (ap flat h.shape))

abbrev IsMadeOf : TypeTable → InterfaceType → List (Option InterfaceType) → Type 0
IsMadeOf t type ps = IsMade t type (1 + cases_flat (unnamed_cases (all_shapes t) ps)) (deepest_case (unnamed_cases (all_shapes t) ps)) × All (KnowsPayload t) ps

payloads_of : (entries : List (String Global × Option InterfaceType)) → map (λ (c : Name × Option InterfaceType). c.1) (map (λ (c : String Global × Option InterfaceType). (string_bytes c.0, c.1)) entries) ≡ values_of entries
payloads_of [] = refl
payloads_of (c ∷ entries) = ap (λ ps. c.1 ∷ ps) (payloads_of entries)

pub variant_made : (t : TypeTable) (type : InterfaceType) (i : ℕ) (entries : List (String Global × Option InterfaceType)) (ps : List (Option InterfaceType)) → type ≡ ty.Variant i
    → IsDefined t (ty.Variant i) (cases_type entries) → ps ≡ values_of entries
    → IsMadeOf t type ps
unfolding flat
variant_made t type i entries ps is h same =
    let cs : List (Name × Option InterfaceType) = map (λ c. (string_bytes c.0, c.1)) entries in
    subst (λ (xs : List (Option InterfaceType)). IsMadeOf t type xs) (payloads_of entries ∙ sym same) (
      subst (λ (x : InterfaceType). IsMade t x (1 + cases_flat (unnamed_cases (all_shapes t) (map (λ c. c.1) cs))) (deepest_case (unnamed_cases (all_shapes t) (map (λ c. c.1) cs)))) (sym is)
          (omega (arith, ap flat h.shape, unnamed_words (all_shapes t) cs), omega (arith, ap depth h.shape, unnamed_depth (all_shapes t) cs)),
      cases_known t cs h.known,
    )

result_unnamed : (known : List Shape) (ok error : Option InterfaceType) → unnamed_cases known (ok ∷ error ∷ []) ≡ case_for (payload_in known ok) (case_for (payload_in known error) no_cases)
result_unnamed known None None = refl
result_unnamed known None (Some e) = refl
result_unnamed known (Some o) None = refl
result_unnamed known (Some o) (Some e) = refl

pub result_made : (t : TypeTable) (type : InterfaceType) (i : ℕ) (ok error : Option InterfaceType) → type ≡ ty.Result i → IsDefined t (ty.Result i) (ResultType ok error) → IsMadeOf t type (ok ∷ error ∷ [])
unfolding flat
result_made t type i ok error is h = (
  subst (λ (x : InterfaceType). IsMade t x (1 + cases_flat (unnamed_cases (all_shapes t) (ok ∷ error ∷ []))) (deepest_case (unnamed_cases (all_shapes t) (ok ∷ error ∷ [])))) (sym is)
      (omega (arith, ap flat h.shape, ap cases_flat (result_unnamed (all_shapes t) ok error)), omega (arith, ap depth h.shape, ap deepest_case (result_unnamed (all_shapes t) ok error))),
  result_known t ok error h.known,
)

pub factor : (n k : ℕ) → 0 < n * k → k ≤ n * k
factor zero k h = absurd (omega (arith, h))
factor (suc n) k h = omega arith

pub bare_members : (names : List Name) (i : ℕ) → case_members (bare_cases names) i ≡ no_members
bare_members [] i = refl
bare_members (name ∷ names) zero = refl
bare_members (name ∷ names) (suc i) = bare_members names i

pub two_cases : (a b : Option Shape) → case_count (case_for a (case_for b no_cases)) ≡ 2
two_cases None None = refl
two_cases None (Some s) = refl
two_cases (Some s) None = refl
two_cases (Some s) (Some r) = refl
