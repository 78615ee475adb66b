-- When a definition is not added to a table, and what adding it gives.
use Rattle.std.specs.Prelude.{◌≡◌, ℕ, ◌+◌, max, Bool, true, false, not, ◌||◌, ◌&&◌, ◌==◌, nat_lt, if◌then◌else◌, List, [], ◌∷◌, ◌++◌, length, map, bytes_eq, Option, Some, None}
use Rattle.std.specs.List.{list_all, list_any}
use Rattle.canon_abi.specs.Abi.{wider_size}
use Rattle.canon_model.specs.Shape.{Name, Shape, of_places, product, tuple}
use Rattle.canon_types.specs.Depth.{depth, has_borrow}
use Rattle.canon_types.specs.declared.error.TypeError.{TypeError}
use Rattle.canon_types.specs.declared.error.TypeError.TheVariants as error
use Rattle.canon_types.specs.declared.types.InterfaceType.{InterfaceType}
use Rattle.canon_types.specs.declared.types.InterfaceType.TheVariants as ty
use Rattle.canon_types.specs.declared.types.TypeResourceTable.{TypeResourceTable}
use Rattle.canon_types.specs.Table.{Definition, EnumType, FixedListType, FlagsType, IsDefined, Knows, MapType, RecordType, TupleType, TypeTable, VariantType, all_shapes, defined_shape, has, knows, members_of, parts, place, shape_in, shape_of}

-- a tuple without members
abbrev pub is_unit : Definition → Bool
is_unit (TupleType []) = true
is_unit _ = false

abbrev pub is_unit_type : TypeTable → InterfaceType → Bool
is_unit_type t (ty.Tuple i) = has is_unit t i
is_unit_type t _ = false

abbrev pub names : Definition → List Name
names (RecordType fields) = map (λ f. f.0) fields
names (VariantType cases) = map (λ c. c.0) cases
names (EnumType ns) = ns
names (FlagsType ns) = ns
names _ = []

abbrev pub most_names : Definition → ℕ
most_names (FlagsType ns) = 8160
most_names _ = 1048576

-- without a field, a member, a case, a name or an element
abbrev pub is_empty : Definition → Bool
is_empty (RecordType fields) = length fields == 0
is_empty (TupleType types) = length types == 0
is_empty (VariantType cases) = length cases == 0
is_empty (EnumType ns) = length ns == 0
is_empty (FlagsType ns) = length ns == 0
is_empty (FixedListType element count) = count == 0
is_empty _ = false

-- one of these names stands among those before it
abbrev pub repeats_after : List Name → List Name → Bool
repeats_after before [] = false
repeats_after before (n ∷ ns) = list_any (bytes_eq n) before || repeats_after (before ++ n ∷ []) ns

abbrev pub has_repeats : List Name → Bool
has_repeats ns = repeats_after [] ns

-- the shape whose size is tested: of a map, that of its pair
abbrev pub laid_shape : List Shape → Definition → Shape
laid_shape known (MapType key value) = tuple (shape_in known key ∷ shape_in known value ∷ [])
laid_shape known d = defined_shape known d

abbrev pub type_entry_count : TypeTable → ℕ
type_entry_count t = length t.definitions + length t.funcs + length t.resources

-- n entries more would be too many
abbrev pub is_full_for : ℕ → TypeTable → Bool
is_full_for n t = nat_lt 1048576 (type_entry_count t + n)

-- the error of the first test that applies
abbrev pub first_error : {E : Type 0} → List (Bool × E) → Option E
first_error [] = None
first_error (test ∷ tests) = if test.0 then Some test.1 else first_error tests

abbrev pub or_else : Option TypeError → Option TypeError → Option TypeError
or_else None later = later
or_else (Some e) later = Some e

-- why parts are refused, if they are
abbrev pub parts_refusal : TypeTable → List InterfaceType → Bool → Option TypeError
parts_refusal t types empty = first_error (
    (not (list_all (knows t) types), error.UnknownIndex) ∷ (empty || list_any (is_unit_type t) types, error.Empty) ∷ [])

-- why names are refused, if they are
abbrev pub names_refusal : List Name → ℕ → Option TypeError
names_refusal ns most = first_error (
    (nat_lt most (length ns), error.TooManyNames) ∷ (has_repeats ns, error.RepeatedName) ∷ [])

-- why a type of this depth and this size is refused, if it is
abbrev pub shape_refusal : TypeTable → ℕ → ℕ → Option TypeError
shape_refusal t deep bytes = first_error (
    (nat_lt 100 deep, error.TooDeep) ∷ (nat_lt 4294967295 bytes, error.SizeTooLarge) ∷ (is_full_for 1 t, error.TooManyTypes) ∷ [])

-- why a definition is refused, if it is: the first reason counts
abbrev pub refusal : TypeTable → Definition → Option TypeError
refusal t d =
    or_else (parts_refusal t (parts d) (is_empty d))
    (or_else (names_refusal (names d) (most_names d))
    (shape_refusal t (depth (defined_shape (all_shapes t) d)) (wider_size (laid_shape (all_shapes t) d))))

abbrev pub empty_type_table : TypeTable
empty_type_table = record { definitions = []; funcs = []; resources = [] }

-- the table with one definition more
abbrev pub with_definition : TypeTable → Definition → TypeTable
with_definition t d = record t { definitions = t.definitions ++ d ∷ [] }

-- the type is new in the table, with this definition, and the others are as they were
pub record Adds (old : TypeTable) (d : Definition) (type : InterfaceType) (new : TypeTable) : Type 0 where
  pub accepted : refusal old d ≡ None
  pub table : new ≡ with_definition old d
  pub place : place type ≡ Some (length old.definitions)
  pub known : Knows new type
  pub defined : IsDefined new type d
  pub others_known : (t : InterfaceType) → Knows old t → Knows new t
  pub others : (t : InterfaceType) → Knows old t → shape_of new t ≡ shape_of old t

-- ---- functions

-- why the types of a function are refused, if they are
abbrev pub func_parts_refusal : TypeTable → List InterfaceType → List InterfaceType → Option TypeError
func_parts_refusal t params results = first_error (
    (not (list_all (knows t) params && list_all (knows t) results), error.UnknownIndex)
    ∷ (list_any (is_unit_type t) params || list_any (is_unit_type t) results, error.Empty)
    ∷ [])

-- why a function is refused, if it is: its lists are tuples, which may be empty
abbrev pub func_refusal : TypeTable → List InterfaceType → List InterfaceType → Option TypeError
func_refusal t params results =
    let ps = product of_places (members_of t params) in
    let rs = product of_places (members_of t results) in
    or_else (func_parts_refusal t params results)
    (first_error (
    (nat_lt 100 (max (depth ps) (depth rs)), error.TooDeep)
    ∷ (nat_lt 4294967295 (max (wider_size ps) (wider_size rs)), error.SizeTooLarge)
    ∷ (has_borrow rs, error.BorrowInResult)
    ∷ (is_full_for 3 t, error.TooManyTypes)
    ∷ []))

-- the table with two definitions and a function over them more
abbrev pub with_func_of : TypeTable → Definition → Definition → Bool → TypeTable
with_func_of t params results async =
    let n = length t.definitions in
    record {
      definitions = t.definitions ++ params ∷ [] ++ results ∷ [];
      funcs = t.funcs ++ record { params = n; results = n + 1; async_ = async } ∷ [];
      resources = t.resources;
    }

abbrev pub with_func : TypeTable → List InterfaceType → List InterfaceType → Bool → TypeTable
with_func t params results async = with_func_of t (TupleType params) (TupleType results) async

-- the function is new in the table, over two tuples that are new there
pub record AddsFunc (old : TypeTable) (params results : List InterfaceType) (async : Bool) (i : ℕ) (new : TypeTable) : Type 0 where
  pub accepted : func_refusal old params results ≡ None
  pub table : new ≡ with_func old params results async
  pub last : i ≡ length old.funcs

-- ---- resource tables

abbrev pub resource_refusal : TypeTable → TypeResourceTable → Option TypeError
resource_refusal t r = first_error ((nat_lt 255 r.instance || is_full_for 1 t, error.TooManyTypes) ∷ [])

pub record AddsResource (old : TypeTable) (r : TypeResourceTable) (i : ℕ) (new : TypeTable) : Type 0 where
  pub accepted : resource_refusal old r ≡ None
  pub table : new ≡ record old { resources = old.resources ++ r ∷ [] }
  pub last : i ≡ length old.resources
