-- The definition that a table has of a type, by its names and its parts.
use Rattle.std.proofs.Common.{◌≡◌, ◌<◌, ◌∙◌, All, List, None, Option, Some, String, [], ◌∷◌, ap, arith, filter_map, get_or, length, map, refl, string_bytes, subst, suc, sym, zero, ℕ}
use Rattle.std.specs.List.{zip}
use Rattle.std.specs.Option.{option_map_or}
use Rattle.std.proofs.lemmas.List.{get_or-map, length-map}
use Rattle.std.proofs.lemmas.Simd.{map-map}
use Rattle.std.specs.declared.alloc.Global.{Global}
use Rattle.canon_model.specs.Shape.{Name}
use Rattle.canon_types.specs.Keeps.{cases_type, fields_type, names_of}
use Rattle.canon_types.specs.Table.{Definition, IsDefined, Knows, KnowsPayload, RecordType, TypeTable, VariantType}
use Rattle.canon_types.specs.declared.types.InterfaceType.{InterfaceType}
use Rattle.canon_types.specs.declared.types.InterfaceType.TheVariants as ty
use Rattle.canon_types.specs.declared.types.RecordField.{RecordField}
use Rattle.canon_named.specs.Named.{HasCases, HasFields}

-- a type has one definition
pub same_definition : (t : TypeTable) (type : InterfaceType) (d e : Definition) → IsDefined t type d → IsDefined t type e → d ≡ e
same_definition t type d e x y = ap (λ o. option_map_or (λ (v : Definition). v) o d) (sym x.definition ∙ y.definition)

-- ---- pairs of names and parts

firsts-zip : {A B : Type 0} (xs : List A) (ys : List B) → length xs ≡ length ys → map (λ p. p.0) (zip xs ys) ≡ xs
firsts-zip [] ys e = refl
firsts-zip (x ∷ xs) [] e = absurd (omega (arith, e))
firsts-zip (x ∷ xs) (y ∷ ys) e = ap (λ l. x ∷ l) (firsts-zip xs ys (omega (arith, e)))

seconds-zip : {A B : Type 0} (xs : List A) (ys : List B) → length xs ≡ length ys → map (λ p. p.1) (zip xs ys) ≡ ys
seconds-zip [] [] e = refl
seconds-zip [] (y ∷ ys) e = absurd (omega (arith, e))
seconds-zip (x ∷ xs) [] e = absurd (omega (arith, e))
seconds-zip (x ∷ xs) (y ∷ ys) e = ap (λ l. y ∷ l) (seconds-zip xs ys (omega (arith, e)))

zip-maps : {A B C : Type 0} (f : A → B) (g : A → C) (xs : List A) → zip (map f xs) (map g xs) ≡ map (λ x. (f x, g x)) xs
zip-maps f g [] = refl
zip-maps f g (x ∷ xs) = ap (λ l. (f x, g x) ∷ l) (zip-maps f g xs)

module _ {A B C : Type 0} (f : A → B) (g : A → C) (xs : List A) where
  -- as many of both
  maps_long : length (map f xs) ≡ length (map g xs)
  maps_long = length-map xs f ∙ sym (length-map xs g)

  -- the names and the parts of zipped ones
  zipped_apart : (bs : List B) (cs : List C) → length bs ≡ length cs → map (λ x. (f x, g x)) xs ≡ zip bs cs → (map f xs ≡ bs) × (map g xs ≡ cs)
  zipped_apart bs cs l e = (
    sym (map-map (λ (p : B × C). p.0) (λ x. (f x, g x)) xs) ∙ ap (map (λ (p : B × C). p.0)) e ∙ firsts-zip bs cs l,
    sym (map-map (λ (p : B × C). p.1) (λ x. (f x, g x)) xs) ∙ ap (map (λ (p : B × C). p.1)) e ∙ seconds-zip bs cs l,
  )

-- ---- elements of lists that were made by maps

mapped_twice : {A B C : Type 0} (f : A → B) (g : B → C) (xs : List A) (k : ℕ) (d : A) (e : C) → k < length xs → get_or (map g (map f xs)) k e ≡ g (f (get_or xs k d))
mapped_twice f g xs k d e l = ap (λ ys. get_or ys k e) (map-map g f xs) ∙ get_or-map (λ x. g (f x)) xs k d e l

mapped_twice_long : {A B C : Type 0} (f : A → B) (g : B → C) (xs : List A) → length (map g (map f xs)) ≡ length xs
mapped_twice_long f g xs = length-map (map f xs) g ∙ length-map xs f

abbrev named_field_names : List RecordField → List Name
named_field_names fields = map (λ f. string_bytes f.name) fields

abbrev field_types : List RecordField → List InterfaceType
field_types fields = map (λ f. f.ty) fields

record_fields : Definition → List (Name × InterfaceType)
record_fields (RecordType fields) = fields
record_fields _ = []

module _ (t : TypeTable) (i : ℕ) (fields : List RecordField) (defined : IsDefined t (ty.Record i) (fields_type fields)) where
  pub record_has : (names : List Name) → named_field_names fields ≡ names → HasFields names t (ty.Record i) (field_types fields)
  record_has names e = subst (λ (ns : List Name). HasFields ns t (ty.Record i) (field_types fields)) e (
    subst (λ (fs : List (Name × InterfaceType)). IsDefined t (ty.Record i) (RecordType fs)) (sym (zip-maps (λ (f : RecordField). string_bytes f.name) (λ (f : RecordField). f.ty) fields)) defined,
    maps_long (λ (f : RecordField). string_bytes f.name) (λ (f : RecordField). f.ty) fields,
  )

  pub record_is : (names : List Name) (types : List InterfaceType) → HasFields names t (ty.Record i) types → (named_field_names fields ≡ names) × (field_types fields ≡ types)
  unfolding record_fields
  record_is names types h = zipped_apart (λ (f : RecordField). string_bytes f.name) (λ (f : RecordField). f.ty) fields names types h.1
      (ap record_fields (same_definition t (ty.Record i) _ _ defined h.0))

  pub fields_known : All (λ f. Knows t f.ty) fields
  fields_known k d l = subst (Knows t) (mapped_twice (λ (f : RecordField). (string_bytes f.name, f.ty)) (λ (p : Name × InterfaceType). p.1) fields k d d.ty l)
      (defined.known k d.ty (omega (arith, l, mapped_twice_long (λ (f : RecordField). (string_bytes f.name, f.ty)) (λ (p : Name × InterfaceType). p.1) fields)))

-- ---- variants

variant_cases : Definition → List (Name × Option InterfaceType)
variant_cases (VariantType cases) = cases
variant_cases _ = []

-- what the table knows of the payloads that are there, it knows of all
module _ (t : TypeTable) where
  known_tail : (x : InterfaceType) (xs : List InterfaceType) → All (Knows t) (x ∷ xs) → All (Knows t) xs
  known_tail x xs known k d l = known (suc k) d (omega (arith, l))

  known_none : (os : List (Option InterfaceType)) → All (KnowsPayload t) os → All (KnowsPayload t) (None ∷ os)
  known_none os rest zero d l = tt
  known_none os rest (suc k) d l = rest k d (omega (arith, l))

  known_some : (x : InterfaceType) (os : List (Option InterfaceType)) → Knows t x → All (KnowsPayload t) os → All (KnowsPayload t) (Some x ∷ os)
  known_some x os first rest zero d l = first
  known_some x os first rest (suc k) d l = rest k d (omega (arith, l))

  known_payloads : (cases : List (Name × Option InterfaceType)) → All (Knows t) (filter_map (λ c. c.1) cases) → All (KnowsPayload t) (map (λ c. c.1) cases)
  known_payloads [] known = λ k d l. absurd (omega (arith, l))
  known_payloads ((name, None) ∷ cases) known = known_none _ (known_payloads cases known)
  known_payloads ((name, Some x) ∷ cases) known = known_some x _ (known 0 x (omega arith)) (known_payloads cases (known_tail x _ known))

module _ (t : TypeTable) (i : ℕ) (cases : List (String Global × Option InterfaceType)) (defined : IsDefined t (ty.Variant i) (cases_type cases)) where
  pub variant_has : (names : List Name) → names_of (map (λ c. c.0) cases) ≡ names → HasCases names t (ty.Variant i) (map (λ c. c.1) cases)
  variant_has names e = subst (λ (ns : List Name). HasCases ns t (ty.Variant i) (map (λ c. c.1) cases)) (sym (map-map (λ (n : String Global). string_bytes n) (λ (c : String Global × Option InterfaceType). c.0) cases) ∙ e) (
    subst (λ (cs : List (Name × Option InterfaceType)). IsDefined t (ty.Variant i) (VariantType cs))
        (sym (zip-maps (λ (c : String Global × Option InterfaceType). string_bytes c.0) (λ (c : String Global × Option InterfaceType). c.1) cases)) defined,
    maps_long (λ (c : String Global × Option InterfaceType). string_bytes c.0) (λ (c : String Global × Option InterfaceType). c.1) cases,
  )

  pub variant_is : (names : List Name) (payloads : List (Option InterfaceType)) → HasCases names t (ty.Variant i) payloads
      → (names_of (map (λ c. c.0) cases) ≡ names) × (map (λ c. c.1) cases ≡ payloads)
  unfolding variant_cases
  variant_is names payloads h =
      let apart = zipped_apart (λ (c : String Global × Option InterfaceType). string_bytes c.0) (λ (c : String Global × Option InterfaceType). c.1) cases names payloads h.1
      (ap variant_cases (same_definition t (ty.Variant i) _ _ defined h.0)) in
      (map-map (λ (n : String Global). string_bytes n) (λ (c : String Global × Option InterfaceType). c.0) cases ∙ apart.0, apart.1)

  pub named_payloads_known : All (KnowsPayload t) (map (λ c. c.1) cases)
  named_payloads_known = subst (All (KnowsPayload t)) (map-map (λ (c : Name × Option InterfaceType). c.1) (λ (c : String Global × Option InterfaceType). (string_bytes c.0, c.1)) cases) (known_payloads t _ defined.known)

-- ---- what the code finds, at the table that it asks

module _ (t u : TypeTable) (type : InterfaceType) (i : ℕ) (same : u ≡ t) where
  at_table : (d : Definition) (j : InterfaceType) → IsDefined u j d → IsDefined t j d
  at_table d j = subst (λ (v : TypeTable). IsDefined v j d) same

  module _ (fields : List RecordField) (is : type ≡ ty.Record i) (defined : IsDefined u (ty.Record i) (fields_type fields)) where
    pub fields_found : (names : List Name) → named_field_names fields ≡ names → HasFields names t type (field_types fields)
    fields_found names e = subst (λ (x : InterfaceType). HasFields names t x (field_types fields)) (sym is) (record_has t i fields (at_table _ _ defined) names e)

    pub fields_told : (names : List Name) (types : List InterfaceType) → HasFields names t type types → (named_field_names fields ≡ names) × (field_types fields ≡ types)
    fields_told names types h = record_is t i fields (at_table _ _ defined) names types (subst (λ (x : InterfaceType). HasFields names t x types) is h)

    pub all_fields_known : All (λ f. Knows t f.ty) fields
    all_fields_known = fields_known t i fields (at_table _ _ defined)

  module _ (cases : List (String Global × Option InterfaceType)) (is : type ≡ ty.Variant i) (defined : IsDefined u (ty.Variant i) (cases_type cases)) where
    pub cases_found : (names : List Name) → names_of (map (λ c. c.0) cases) ≡ names → HasCases names t type (map (λ c. c.1) cases)
    cases_found names e = subst (λ (x : InterfaceType). HasCases names t x (map (λ c. c.1) cases)) (sym is) (variant_has t i cases (at_table _ _ defined) names e)

    pub cases_told : (names : List Name) (payloads : List (Option InterfaceType)) → HasCases names t type payloads → (names_of (map (λ c. c.0) cases) ≡ names) × (map (λ c. c.1) cases ≡ payloads)
    cases_told names payloads h = variant_is t i cases (at_table _ _ defined) names payloads (subst (λ (x : InterfaceType). HasCases names t x payloads) is h)

    pub all_payloads_known : All (KnowsPayload t) (map (λ c. c.1) cases)
    all_payloads_known = named_payloads_known t i cases (at_table _ _ defined)
