-- What a script lists is known to its table, which has no more functions than a table may have.
use Rattle.std.proofs.Common.{◌≡◌, ◌≤◌, ◌+◌, ◌++◌, List, [], ◌∷◌, length, IsTrue, codes, Bool, true, false, nat_lt, Option, None, Some, refl, sym, subst, arith, append_assoc, length-append, max, option_and_then}
use Rattle.std.proofs.lemmas.Bool.{ltb-false}
use Rattle.std.proofs.lemmas.List.Elements.{All-nil, All-push}
use Rattle.std.proofs.lemmas.Option.{option_and_then_some, same_Some}
use Rattle.std.specs.List.{All}
use Rattle.serde_json.specs.Data.{Data, Items}
use Rattle.serde_json.specs.Find.{as_array, as_object, get}
use Rattle.canon_json.specs.Json.{has_len, items_of, onward}
use Rattle.canon_json.proofs.Found.{by_map, by_test, onward_keeps}
use Rattle.canon_abi.specs.Abi.{wider_size}
use Rattle.canon_model.specs.Shape.{of_places, product}
use Rattle.canon_types.specs.Depth.{depth, has_borrow}
use Rattle.canon_types.specs.Refusal.{empty_type_table, first_error, func_parts_refusal, func_refusal, is_full_for, or_else, refusal, resource_refusal, type_entry_count, with_definition, with_func}
use Rattle.canon_types.specs.Table.{Definition, EnumType, FixedListType, FlagsType, Knows, ListType, MapType, OptionType, RecordType, ResultType, TupleType, TypeTable, VariantType, is_enum, is_fixed_list, is_flags, is_list, is_map, is_option, is_record, is_result, is_tuple, is_variant, knows, members_of}
use Rattle.canon_types.proofs.Adding.{has_new}
use Rattle.canon_types.proofs.Growth.{has_more, knows-with}
use Rattle.canon_types.specs.declared.error.TypeError.{TypeError}
use Rattle.canon_types.specs.declared.error.TypeError.TheVariants as error
use Rattle.canon_types.specs.declared.types.InterfaceType.{InterfaceType}
use Rattle.canon_types.specs.declared.types.InterfaceType.TheVariants as ty
use Rattle.canon_types.specs.declared.types.TypeResourceTable.{TypeResourceTable}
use Rattle.canon_layout.specs.Asked.{Funcs, Listed, add_entry, add_func, add_resource, funcs_over, funcs_so_far, grown, layout_of, listing_over, layout_members, listed_so_far, type_at, types_listed, types_over, unless, entry_added, with_funcs, with_parts, with_resource}
use Rattle.canon_layout.specs.Entries.{Entry, FuncParts, defines, entry_by_member, func_of, handle, resource_table_of}

-- what is added is what came, and nothing refused it
pub accepted_is : {A : Type 0} (o : Option TypeError) (a b : A) → unless o a ≡ Some b → a ≡ b
accepted_is None a b e = same_Some a b e
accepted_is (Some e) a b h = absurd (cc)

pub not_refused : {A : Type 0} (o : Option TypeError) (a b : A) → unless o a ≡ Some b → o ≡ None
not_refused None a b e = refl
not_refused (Some e) a b h = absurd (cc)

-- ---- types

knows_new : (t : TypeTable) (d : Definition) → Knows (with_definition t d) (type_at (length t.definitions) d)
knows_new t (ListType x) = has_new is_list t (ListType x) (length t.definitions) refl refl
knows_new t (MapType k v) = has_new is_map t (MapType k v) (length t.definitions) refl refl
knows_new t (RecordType fs) = has_new is_record t (RecordType fs) (length t.definitions) refl refl
knows_new t (TupleType ts) = has_new is_tuple t (TupleType ts) (length t.definitions) refl refl
knows_new t (VariantType cs) = has_new is_variant t (VariantType cs) (length t.definitions) refl refl
knows_new t (EnumType ns) = has_new is_enum t (EnumType ns) (length t.definitions) refl refl
knows_new t (OptionType x) = has_new is_option t (OptionType x) (length t.definitions) refl refl
knows_new t (ResultType ok error) = has_new is_result t (ResultType ok error) (length t.definitions) refl refl
knows_new t (FlagsType ns) = has_new is_flags t (FlagsType ns) (length t.definitions) refl refl
knows_new t (FixedListType x n) = has_new is_fixed_list t (FixedListType x n) (length t.definitions) refl refl

-- types that are known, and no functions yet
pub record LayoutBegun (l : Listed) : Type 0 where
  pub known : All (Knows l.table) l.types
  pub none : length l.table.funcs ≡ 0

one_more : (t new : TypeTable) (types : List InterfaceType) (type : InterfaceType) → ((x : InterfaceType) → Knows t x → Knows new x)
    → All (Knows t) types → Knows new type → All (Knows new) (types ++ type ∷ [])
one_more t new types type keeps known is = All-push (Knows new) types type (λ k d lt. keeps _ (known k d lt)) is

keeps_entry : (l m : Listed) (e : Entry) → LayoutBegun l → entry_added l e ≡ Some m → LayoutBegun m
keeps_entry l m (defines d) begun e =
    let new : TypeTable = with_definition l.table d in
    let type : InterfaceType = type_at (length l.table.definitions) d in
    let grew : grown new l.types type ≡ m = accepted_is (refusal l.table d) _ m e in
    subst LayoutBegun grew (record { known = one_more l.table new l.types type (λ x h. knows-with l.table d x h) begun.known (knows_new l.table d); none = begun.none })
keeps_entry l m (handle t) begun e = by_test (knows l.table t) (Some (grown l.table l.types t)) m e (λ is same.
    subst LayoutBegun (same_Some _ m same) (record { known = one_more l.table l.table l.types t (λ x h. h) begun.known is; none = begun.none }))

keeps_types : (l m : Listed) (d : Data) → LayoutBegun l → add_entry l d ≡ Some m → LayoutBegun m
keeps_types l m d begun e = option_and_then_some (entry_added l) (entry_by_member l.types d) m e (λ x s h. keeps_entry l m x begun h)

pub types_begun : (t : TypeTable) (ds : Items) (l : Listed) → length t.funcs ≡ 0 → types_over t ds ≡ Some l → LayoutBegun l
types_begun t ds l none e = onward_keeps LayoutBegun add_entry keeps_types (listed_so_far t []) l ds (record { known = All-nil (Knows t); none = none }) e

-- ---- functions

-- types that are known, and few functions, each with whether it has a post-return function
pub record LineStands (types : List InterfaceType) (fs : Funcs) : Type 0 where
  pub known : All (Knows fs.table) types
  pub few : length fs.table.funcs ≤ 1048576
  pub told : length fs.posts ≡ length fs.table.funcs

last_test : (o : Option TypeError) (a b c d : Bool) (p q r s : TypeError) → or_else o (first_error ((a, p) ∷ (b, q) ∷ (c, r) ∷ (d, s) ∷ [])) ≡ None → d ≡ false
last_test (Some e) a b c d p q r s h = absurd (cc)
last_test None true b c d p q r s h = absurd (cc)
last_test None false true c d p q r s h = absurd (cc)
last_test None false false true d p q r s h = absurd (cc)
last_test None false false false true p q r s h = absurd (cc)
last_test None false false false false p q r s h = refl

-- a function that was accepted found room
room : (t : TypeTable) (params results : List InterfaceType) → func_refusal t params results ≡ None → length t.funcs + 1 ≤ 1048576
room t params results e =
    let ps = product of_places (members_of t params) in
    let rs = product of_places (members_of t results) in
    let free : is_full_for 3 t ≡ false =
    last_test (func_parts_refusal t params results) (nat_lt 100 (max (depth ps) (depth rs))) (nat_lt 4294967295 (max (wider_size ps) (wider_size rs))) (has_borrow rs) (is_full_for 3 t)
    error.TooDeep error.SizeTooLarge error.BorrowInResult error.TooManyTypes e in
    omega (arith, ltb-false 1048576 (type_entry_count t + 3) free)

knows_more : (t new : TypeTable) (more : List Definition) → new.definitions ≡ t.definitions ++ more → new.resources ≡ t.resources → (type : InterfaceType) → Knows t type → Knows new type
knows_more t new more grown same (ty.List i) h = has_more is_list t new more i grown h
knows_more t new more grown same (ty.Map i) h = has_more is_map t new more i grown h
knows_more t new more grown same (ty.Record i) h = has_more is_record t new more i grown h
knows_more t new more grown same (ty.Tuple i) h = has_more is_tuple t new more i grown h
knows_more t new more grown same (ty.Variant i) h = has_more is_variant t new more i grown h
knows_more t new more grown same (ty.Enum i) h = has_more is_enum t new more i grown h
knows_more t new more grown same (ty.Option i) h = has_more is_option t new more i grown h
knows_more t new more grown same (ty.Result i) h = has_more is_result t new more i grown h
knows_more t new more grown same (ty.Flags i) h = has_more is_flags t new more i grown h
knows_more t new more grown same (ty.FixedLengthList i) h = has_more is_fixed_list t new more i grown h
knows_more t new more grown same (ty.Own r) h = subst (λ (rs : List TypeResourceTable). IsTrue (nat_lt r (length rs))) (sym same) h
knows_more t new more grown same (ty.Borrow r) h = subst (λ (rs : List TypeResourceTable). IsTrue (nat_lt r (length rs))) (sym same) h
knows_more t new more grown same _ h = refl

keeps_parts : (types : List InterfaceType) (fs gs : Funcs) (f : FuncParts) → LineStands types fs → with_parts fs f ≡ Some gs → LineStands types gs
keeps_parts types fs gs f stands e =
    let t = fs.table in
    let new = with_func t f.params f.results f.async in
    let refused = func_refusal t f.params f.results in
    let free = room t f.params f.results (not_refused refused _ gs e) in
    let more : List Definition = TupleType f.params ∷ TupleType f.results ∷ [] in
    let grew = append_assoc t.definitions (TupleType f.params ∷ []) (TupleType f.results ∷ []) in
    let longer = length-append t.funcs (record { params = length t.definitions; results = length t.definitions + 1; async_ = f.async } ∷ []) in
    subst (LineStands types) (accepted_is refused (funcs_so_far new (fs.posts ++ f.post ∷ [])) gs e) (record {
      known = λ k d lt. knows_more t new more grew refl _ (stands.known k d lt);
      few = omega (arith, free, longer);
      told = omega (arith, stands.told, length-append fs.posts (f.post ∷ []), longer);
    })

keeps_funcs : (types : List InterfaceType) (fs gs : Funcs) (d : Data) → LineStands types fs → add_func types fs d ≡ Some gs → LineStands types gs
keeps_funcs types fs gs d stands e = option_and_then_some (with_parts fs) (func_of types d) gs e (λ f s h. keeps_parts types fs gs f stands h)

pub funcs_stand : (ds : Items) (l : Listed) (fs : Funcs) → LayoutBegun l → funcs_over ds l ≡ Some fs → LineStands l.types fs
funcs_stand ds l fs begun e = onward_keeps (LineStands l.types) (add_func l.types) (keeps_funcs l.types) (funcs_so_far l.table []) fs ds
    (record { known = begun.known; few = omega (arith, begun.none); told = sym begun.none }) e

-- ---- all of it

keeps_resources : (t u : TypeTable) (d : Data) → length t.funcs ≡ 0 → add_resource t d ≡ Some u → length u.funcs ≡ 0
keeps_resources t u d none e = option_and_then_some (with_resource t) (resource_table_of d) u e (λ r s h.
    subst (λ (x : TypeTable). length x.funcs ≡ 0) (accepted_is (resource_refusal t r) (record t { resources = t.resources ++ r ∷ [] }) u h) none)

pub resources_begun : (ds : Items) (t : TypeTable) → onward add_resource empty_type_table ds ≡ Some t → length t.funcs ≡ 0
resources_begun ds t e = onward_keeps (λ x. length x.funcs ≡ 0) add_resource keeps_resources empty_type_table t ds refl e

-- what is known of a listing
pub record IsKnownLine (l : Listed) : Type 0 where
  pub known : All (Knows l.table) l.types
  pub few : length l.table.funcs ≤ 1048576

pub listing_known : (resources types funcs : Items) (l : Listed) → listing_over resources types funcs ≡ Some l → IsKnownLine l
listing_known resources types funcs l e =
    option_and_then_some (λ t. option_and_then (with_funcs funcs) (types_over t types)) (onward add_resource empty_type_table resources) l e (λ t s more.
    option_and_then_some (with_funcs funcs) (types_over t types) l more (λ m made last.
    by_map (λ fs. listed_so_far fs.table m.types) (funcs_over funcs m) l last (λ fs over is.
    let none = resources_begun resources t s in
    let stands = funcs_stand funcs m fs (types_begun t types m none made) over in
    subst IsKnownLine is (record { known = stands.known; few = stands.few }))))

pub layout_known : (d : Data) (l : Listed) → layout_of d ≡ Some l → IsKnownLine l
layout_known d l e = by_test (has_len (layout_members d) (as_object d)) _ l e (λ counted e0.
    option_and_then_some _ (items_of (get (codes "resources") d)) l e0 (λ resources s1 e1.
    option_and_then_some _ (items_of (get (codes "types") d)) l e1 (λ types s2 e2.
    option_and_then_some _ (items_of (get (codes "funcs") d)) l e2 (λ funcs s3 e3. listing_known resources types funcs l e3))))

pub types_known : (d : Data) (l : Listed) → types_listed d ≡ Some l → LayoutBegun l
types_known d l e = option_and_then_some (types_over empty_type_table) (as_array d) l e (λ ds s h. types_begun empty_type_table ds l refl h)
