-- What look-ups tell of two definitions: of which parts their types are, and when they are the same.
use Rattle.std.proofs.Common.{◌≡◌, ◌+◌, ◌↔◌, ◌∙◌, All, List, None, Option, Some, [], ◌∷◌, ap, map, refl, string_bytes, String, subst, sym, ℕ}
use Rattle.std.specs.Map.{keys_of, values_of}
use Rattle.std.specs.Option.{option_map_or}
use Rattle.std.specs.Prelude.{slice_index_or}
use Rattle.std.specs.declared.alloc.Global.{Global}
use Rattle.canon_model.specs.Same.{Same, SameCases, SameMembers}
use Rattle.canon_model.specs.Shape.{Cases, Name, Shape, case_for, no_cases, of_cases, of_fields, of_items, of_names, of_places, of_result}
use Rattle.canon_types.proofs.Measures.{depth_defined}
use Rattle.canon_types.specs.Depth.{deepest, depth}
use Rattle.canon_types.specs.Instance.{Instance}
use Rattle.canon_types.specs.Keeps.{cases_type, fields_type, field_members, names_of}
use Rattle.canon_types.specs.Laid.{unnamed_cases}
use Rattle.canon_types.specs.Table.{Definition, EnumType, FixedListType, FlagsType, IsDefined, Knows, ListType, MapType, OptionType, ResultType, TupleType, TypeTable, VariantType, all_shapes, defined_shape, members_of, named_case, no_shape, parts, payload_in, place, plain_shape, shape_of, tuple_members, types_of}
use Rattle.canon_types.specs.declared.types.InterfaceType.{InterfaceType}
use Rattle.canon_types.specs.declared.types.RecordField.{RecordField}
use Rattle.canon_same.specs.Same.{SameDefinitions, SameResource, SameTypes}
use Rattle.canon_same.proofs.Steps.{alike, along, back, cases_step, each, enum_step, fixed_step, flags_step, list_step, option_step, pair_step, product_step, through, variant_step}

-- ---- of one type

module _ (t t2 : TypeTable) (type : InterfaceType) (d : Definition) (e : t2 ≡ t) (h : IsDefined t2 type d) where
  pub here : IsDefined t type d
  here = subst (λ (x : TypeTable). IsDefined x type d) e h

  pub shape_here : shape_of t type ≡ defined_shape (all_shapes t) d
  shape_here = here.shape

  pub depth_here : depth (shape_of t type) ≡ 1 + deepest (members_of t (parts d))
  depth_here = ap depth here.shape ∙ depth_defined (all_shapes t) d

  pub parts_known : All (Knows t) (parts d)
  parts_known = here.known

-- the names and the payloads of a variant
names_listed : (entries : List (String Global × Option InterfaceType)) → map (λ (c : Name × Option InterfaceType). c.0) (map (λ (c : String Global × Option InterfaceType). (string_bytes c.0, c.1)) entries) ≡ names_of (keys_of entries)
names_listed [] = refl
names_listed (c ∷ entries) = ap (λ ns. string_bytes c.0 ∷ ns) (names_listed entries)

payloads_listed : (entries : List (String Global × Option InterfaceType)) → map (λ (c : Name × Option InterfaceType). c.1) (map (λ (c : String Global × Option InterfaceType). (string_bytes c.0, c.1)) entries) ≡ values_of entries
payloads_listed [] = refl
payloads_listed (c ∷ entries) = ap (λ ps. c.1 ∷ ps) (payloads_listed entries)

-- the cases of a result have no names
unnamed_case : (p : Option Shape) (cs : Cases) → case_for p cs ≡ named_case [] p cs
unnamed_case None cs = refl
unnamed_case (Some s) cs = refl

result_cases : (known : List Shape) (ok error : Option InterfaceType) → case_for (payload_in known ok) (case_for (payload_in known error) no_cases) ≡ unnamed_cases known (ok ∷ error ∷ [])
result_cases known ok error = unnamed_case (payload_in known ok) _ ∙ ap (named_case [] (payload_in known ok)) (unnamed_case (payload_in known error) no_cases)

-- ---- of two

-- the members that are looked at are those of the tuples
pub tuple_rows : (i j : Instance) (t u : TypeTable) → t ≡ i.types → u ≡ j.types → (n m : ℕ) (xs ys : List InterfaceType) → xs ≡ types_of t n → ys ≡ types_of u m
    → SameMembers (SameResource i j) (members_of i.types xs) (members_of j.types ys) ↔ SameMembers (SameResource i j) (tuple_members i.types n) (tuple_members j.types m)
tuple_rows i j t u e f n m xs ys p q =
    along (SameMembers (SameResource i j)) _ _ _ _ _ (ap (members_of i.types) (p ∙ ap (λ (x : TypeTable). types_of x n) e)) (ap (members_of j.types) (q ∙ ap (λ (x : TypeTable). types_of x m) f)) (λ h. h, λ h. h)

-- types that have definitions are the same where these are
pub placed : (i j : Instance) (type other : InterfaceType) (n m : ℕ) → place type ≡ Some n → place other ≡ Some m → SameDefinitions i j n m ↔ SameTypes i j type other
placed i j type other n m e f = back (along (Same (SameResource i j)) _ _ _ _ _
    (ap (λ o. option_map_or (λ k. slice_index_or (all_shapes i.types) k no_shape) o (plain_shape type)) e)
    (ap (λ o. option_map_or (λ k. slice_index_or (all_shapes j.types) k no_shape) o (plain_shape other)) f) (λ h. h, λ h. h))

-- definitions of one kind, in the tables that the look-ups went to, whose shapes are the same exactly so
module _ (i j : Instance) (t u : TypeTable) (e : t ≡ i.types) (f : u ≡ j.types) (type other : InterfaceType) where
  both_here : (d o : Definition) (Z : Type 0) → IsDefined t type d → IsDefined u other o → Same (SameResource i j) (defined_shape (all_shapes i.types) d) (defined_shape (all_shapes j.types) o) ↔ Z
      → SameTypes i j type other ↔ Z
  both_here d o Z x y p = along (Same (SameResource i j)) Z _ _ _ _ (shape_here i.types t type d e x) (shape_here j.types u other o f y) p

  pub lists_same : (element other_element : InterfaceType) → IsDefined t type (ListType element) → IsDefined u other (ListType other_element) → SameTypes i j type other ↔ SameTypes i j element other_element
  lists_same element other_element x y = both_here (ListType element) (ListType other_element) _ x y (list_step (SameResource i j) of_items _ _)

  pub fixed_same : (n m : ℕ) (element other_element : InterfaceType) → IsDefined t type (FixedListType element n) → IsDefined u other (FixedListType other_element m)
      → SameTypes i j type other ↔ ((n ≡ m) × SameTypes i j element other_element)
  fixed_same n m element other_element x y = both_here (FixedListType element n) (FixedListType other_element m) _ x y (fixed_step (SameResource i j) n m _ _)

  pub maps_same : (key value other_key other_value : InterfaceType) → IsDefined t type (MapType key value) → IsDefined u other (MapType other_key other_value)
      → SameTypes i j type other ↔ (SameTypes i j key other_key × SameTypes i j value other_value)
  maps_same key value other_key other_value x y = both_here (MapType key value) (MapType other_key other_value) _ x y (pair_step (SameResource i j) _ _ _ _)

  pub records_same : (fields others xs ys : List RecordField) → xs ≡ fields → ys ≡ others → IsDefined t type (fields_type fields) → IsDefined u other (fields_type others)
      → SameTypes i j type other ↔ SameMembers (SameResource i j) (field_members i.types xs) (field_members j.types ys)
  records_same fields others xs ys p q x y =
      through (both_here (fields_type fields) (fields_type others) _ x y (product_step (SameResource i j) of_fields _ _))
      (along (SameMembers (SameResource i j)) _ _ _ _ _ (ap (field_members i.types) (sym p)) (ap (field_members j.types) (sym q)) (λ h. h, λ h. h))

  pub tuples_same : (types others xs ys : List InterfaceType) → xs ≡ types → ys ≡ others → IsDefined t type (TupleType types) → IsDefined u other (TupleType others)
      → SameTypes i j type other ↔ SameMembers (SameResource i j) (members_of i.types xs) (members_of j.types ys)
  tuples_same types others xs ys p q x y =
      through (both_here (TupleType types) (TupleType others) _ x y (product_step (SameResource i j) of_places _ _))
      (along (SameMembers (SameResource i j)) _ _ _ _ _ (ap (members_of i.types) (sym p)) (ap (members_of j.types) (sym q)) (λ h. h, λ h. h))

  pub options_same : (some other_some : InterfaceType) → IsDefined t type (OptionType some) → IsDefined u other (OptionType other_some) → SameTypes i j type other ↔ SameTypes i j some other_some
  options_same some other_some x y = both_here (OptionType some) (OptionType other_some) _ x y (option_step (SameResource i j) _ _)

  pub enums_same : (names others : List Name) → IsDefined t type (EnumType names) → IsDefined u other (EnumType others) → SameTypes i j type other ↔ (names ≡ others)
  enums_same names others x y = both_here (EnumType names) (EnumType others) _ x y (through (variant_step (SameResource i j) of_names _ _) (enum_step (SameResource i j) names others))

  pub flags_same : (names others : List Name) → IsDefined t type (FlagsType names) → IsDefined u other (FlagsType others) → SameTypes i j type other ↔ (names ≡ others)
  flags_same names others x y = both_here (FlagsType names) (FlagsType others) _ x y (flags_step (SameResource i j) names others)

  pub variants_same : (cs ds : List (Name × Option InterfaceType)) → IsDefined t type (VariantType cs) → IsDefined u other (VariantType ds)
      → SameTypes i j type other
      ↔ ((map (λ c. c.0) cs ≡ map (λ c. c.0) ds) × SameCases (SameResource i j) (unnamed_cases (all_shapes i.types) (map (λ c. c.1) cs)) (unnamed_cases (all_shapes j.types) (map (λ c. c.1) ds)))
  variants_same cs ds x y = both_here (VariantType cs) (VariantType ds) _ x y (through (variant_step (SameResource i j) of_cases _ _) (cases_step (SameResource i j) (all_shapes i.types) (all_shapes j.types) cs ds))

  pub results_same : (ok error other_ok other_error : Option InterfaceType) → IsDefined t type (ResultType ok error) → IsDefined u other (ResultType other_ok other_error)
      → SameTypes i j type other ↔ SameCases (SameResource i j) (unnamed_cases (all_shapes i.types) (ok ∷ error ∷ [])) (unnamed_cases (all_shapes j.types) (other_ok ∷ other_error ∷ []))
  results_same ok error other_ok other_error x y = both_here (ResultType ok error) (ResultType other_ok other_error) _ x y (through (variant_step (SameResource i j) of_result _ _)
      (along (SameCases (SameResource i j)) _ _ _ _ _ (result_cases (all_shapes i.types) ok error) (result_cases (all_shapes j.types) other_ok other_error) (λ h. h, λ h. h)))

  -- of the names and the payloads that are looked at
  pub rows_same : (entries others : List (String Global × Option InterfaceType)) (names other_names : List (String Global)) (ps qs : List (Option InterfaceType)) → names ≡ keys_of entries → other_names ≡ keys_of others
      → ps ≡ values_of entries → qs ≡ values_of others → IsDefined t type (cases_type entries) → IsDefined u other (cases_type others)
      → SameTypes i j type other ↔ ((names_of names ≡ names_of other_names) × SameCases (SameResource i j) (unnamed_cases (all_shapes i.types) ps) (unnamed_cases (all_shapes j.types) qs))
  rows_same entries others names other_names ps qs e1 e2 e3 e4 x y =
      let cs : List (Name × Option InterfaceType) = map (λ c. (string_bytes c.0, c.1)) entries in
      let ds : List (Name × Option InterfaceType) = map (λ c. (string_bytes c.0, c.1)) others in
      through (variants_same cs ds x y) (each
      (alike (names_listed entries ∙ sym (ap names_of e1)) (names_listed others ∙ sym (ap names_of e2)))
      (along (SameCases (SameResource i j)) _ _ _ _ _ (ap (unnamed_cases (all_shapes i.types)) (payloads_listed entries ∙ sym e3)) (ap (unnamed_cases (all_shapes j.types)) (payloads_listed others ∙ sym e4)) (λ h. h, λ h. h)))
