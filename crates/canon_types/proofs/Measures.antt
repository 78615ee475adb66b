-- A definition's depth and its borrows are those of its parts.
use Rattle.std.proofs.Common.{Bool, List, None, Option, Some, [], ap, arith, false, filter_map, length, map, max, refl, suc, true, ℕ, ◌+◌, ◌||◌, ◌∷◌, ◌≡◌}
use Rattle.canon_model.specs.Shape.{Name, Shape, bare_cases, member_count}
use Rattle.canon_types.specs.declared.types.InterfaceType.{InterfaceType}
use Rattle.canon_types.specs.Depth.{case_borrows, deepest, deepest_case, depth, has_borrow, member_borrows}
use Rattle.canon_types.specs.Table.{Definition, EnumType, FixedListType, FlagsType, ListType, MapType, OptionType, RecordType, ResultType, TupleType, TypeTable, VariantType, cases_in, defined_shape, fields_in, members_in, members_of, parts, shape_in}

deepest-fields : (known : List Shape) (fs : List (Name × InterfaceType)) → deepest (fields_in known fs) ≡ deepest (members_in known (map (λ f. f.1) fs))
deepest-fields known [] = refl
deepest-fields known (f ∷ fs) = ap (max (depth (shape_in known f.1))) (deepest-fields known fs)

deepest-cases : (known : List Shape) (cs : List (Name × Option InterfaceType)) → deepest_case (cases_in known cs) ≡ deepest (members_in known (filter_map (λ c. c.1) cs))
deepest-cases known [] = refl
deepest-cases known ((name, None) ∷ cs) = deepest-cases known cs
deepest-cases known ((name, Some t) ∷ cs) = ap (max (depth (shape_in known t))) (deepest-cases known cs)

deepest-names : (names : List Name) → deepest_case (bare_cases names) ≡ 0
deepest-names [] = refl
deepest-names (n ∷ ns) = deepest-names ns

pub depth_defined : (known : List Shape) (d : Definition) → depth (defined_shape known d) ≡ 1 + deepest (members_in known (parts d))
depth_defined known (ListType e) = omega arith
depth_defined known (MapType k v) = omega arith
depth_defined known (RecordType fs) = ap (λ (n : ℕ). 1 + n) (deepest-fields known fs)
depth_defined known (TupleType ts) = refl
depth_defined known (VariantType cs) = ap (λ (n : ℕ). 1 + n) (deepest-cases known cs)
depth_defined known (EnumType ns) = ap (λ (n : ℕ). 1 + n) (deepest-names ns)
depth_defined known (OptionType t) = omega arith
depth_defined known (ResultType None None) = refl
depth_defined known (ResultType (Some a) None) = refl
depth_defined known (ResultType None (Some b)) = refl
depth_defined known (ResultType (Some a) (Some b)) = refl
depth_defined known (FlagsType ns) = refl
depth_defined known (FixedListType e n) = omega arith

borrows-fields : (known : List Shape) (fs : List (Name × InterfaceType)) → member_borrows (fields_in known fs) ≡ member_borrows (members_in known (map (λ f. f.1) fs))
borrows-fields known [] = refl
borrows-fields known (f ∷ fs) = ap (λ (b : Bool). has_borrow (shape_in known f.1) || b) (borrows-fields known fs)

borrows-cases : (known : List Shape) (cs : List (Name × Option InterfaceType)) → case_borrows (cases_in known cs) ≡ member_borrows (members_in known (filter_map (λ c. c.1) cs))
borrows-cases known [] = refl
borrows-cases known ((name, None) ∷ cs) = borrows-cases known cs
borrows-cases known ((name, Some t) ∷ cs) = ap (λ (b : Bool). has_borrow (shape_in known t) || b) (borrows-cases known cs)

borrows-names : (names : List Name) → case_borrows (bare_cases names) ≡ false
borrows-names [] = refl
borrows-names (n ∷ ns) = borrows-names ns

or_false : (b : Bool) → b ≡ (b || false)
or_false true = refl
or_false false = refl

pub borrows_defined : (known : List Shape) (d : Definition) → has_borrow (defined_shape known d) ≡ member_borrows (members_in known (parts d))
borrows_defined known (ListType e) = or_false _
borrows_defined known (MapType k v) = refl
borrows_defined known (RecordType fs) = borrows-fields known fs
borrows_defined known (TupleType ts) = refl
borrows_defined known (VariantType cs) = borrows-cases known cs
borrows_defined known (EnumType ns) = borrows-names ns
borrows_defined known (OptionType t) = refl
borrows_defined known (ResultType None None) = refl
borrows_defined known (ResultType (Some a) None) = refl
borrows_defined known (ResultType None (Some b)) = refl
borrows_defined known (ResultType (Some a) (Some b)) = refl
borrows_defined known (FlagsType ns) = refl
borrows_defined known (FixedListType e n) = or_false _

-- a tuple has a member for each type
pub count_members : (t : TypeTable) (types : List InterfaceType) → member_count (members_of t types) ≡ length types
count_members t [] = refl
count_members t (type ∷ types) = ap suc (count_members t types)
