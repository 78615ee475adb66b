-- What a table of types holds: definitions in the order in which they were added, each over types that
-- were there before it. The shape of a type (canon_model) is its meaning apart from the table; it is found by going
-- through the definitions once, in that order.
use Rattle.std.specs.Prelude.{◌≡◌, ℕ, ◌<◌, Bool, true, false, nat_lt, IsTrue, List, [], ◌∷◌, ◌++◌, length, map, slice_get, slice_index_or, All, ⊤, Option, Some, None, option_to_list, filter_map}
use Rattle.std.specs.Option.{option_map_or}
use Rattle.canon_model.specs.Shape as shape
use Rattle.canon_model.specs.Shape.{Cases, Members, Name, Shape, bare, borrow, enum_of, fixed, flags, list_of, map_of, member, no_cases, no_members, of_places, option_of, own, payload, product, record_of, result_of, scalar, string, variant_of}
use Rattle.canon_types.specs.declared.types.InterfaceType.{InterfaceType}
use Rattle.canon_types.specs.declared.types.InterfaceType.TheVariants as ty
use Rattle.canon_types.specs.declared.types.TypeFunc.{TypeFunc}
use Rattle.canon_types.specs.declared.types.TypeResourceTable.{TypeResourceTable}

-- one type with parts or names, over types of the table
pub data Definition : Type 0 where
  ListType : (element : InterfaceType) → Definition
  MapType : (key value : InterfaceType) → Definition
  RecordType : (fields : List (Name × InterfaceType)) → Definition
  TupleType : (types : List InterfaceType) → Definition
  VariantType : (cases : List (Name × Option InterfaceType)) → Definition
  EnumType : (names : List Name) → Definition
  OptionType : (some : InterfaceType) → Definition
  ResultType : (ok error : Option InterfaceType) → Definition
  FlagsType : (names : List Name) → Definition
  FixedListType : (element : InterfaceType) (count : ℕ) → Definition

pub record TypeTable : Type 0 where
  pub definitions : List Definition
  pub funcs : List TypeFunc
  pub resources : List TypeResourceTable

-- ---- shapes

-- the number of a type's definition
abbrev pub place : InterfaceType → Option ℕ
place (ty.List i) = Some i
place (ty.Map i) = Some i
place (ty.Record i) = Some i
place (ty.Tuple i) = Some i
place (ty.Variant i) = Some i
place (ty.Enum i) = Some i
place (ty.Option i) = Some i
place (ty.Result i) = Some i
place (ty.Flags i) = Some i
place (ty.FixedLengthList i) = Some i
place _ = None

-- where there is no definition
abbrev pub no_shape : Shape
no_shape = product of_places no_members

-- the shape of a type without a definition
abbrev pub plain_shape : InterfaceType → Shape
plain_shape ty.Bool = scalar shape.bool
plain_shape ty.S8 = scalar shape.s8
plain_shape ty.U8 = scalar shape.u8
plain_shape ty.S16 = scalar shape.s16
plain_shape ty.U16 = scalar shape.u16
plain_shape ty.S32 = scalar shape.s32
plain_shape ty.U32 = scalar shape.u32
plain_shape ty.S64 = scalar shape.s64
plain_shape ty.U64 = scalar shape.u64
plain_shape ty.Float32 = scalar shape.f32
plain_shape ty.Float64 = scalar shape.f64
plain_shape ty.Char = scalar shape.char
plain_shape ty.String = string
plain_shape (ty.Own r) = own r
plain_shape (ty.Borrow r) = borrow r
plain_shape _ = no_shape

-- the shape of a type, by the shapes of the definitions
abbrev pub shape_in : List Shape → InterfaceType → Shape
shape_in known t = option_map_or (λ i. slice_index_or known i no_shape) (place t) (plain_shape t)

-- of a payload, if there is one
abbrev pub payload_in : List Shape → Option InterfaceType → Option Shape
payload_in known None = None
payload_in known (Some t) = Some (shape_in known t)

abbrev pub members_in : List Shape → List InterfaceType → Members
members_in known [] = no_members
members_in known (t ∷ ts) = member [] (shape_in known t) (members_in known ts)

abbrev pub fields_in : List Shape → List (Name × InterfaceType) → Members
fields_in known [] = no_members
fields_in known (f ∷ fs) = member f.0 (shape_in known f.1) (fields_in known fs)

abbrev pub named_case : Name → Option Shape → Cases → Cases
named_case name None cs = bare name cs
named_case name (Some s) cs = payload name s cs

abbrev pub cases_in : List Shape → List (Name × Option InterfaceType) → Cases
cases_in known [] = no_cases
cases_in known (c ∷ cs) = named_case c.0 (payload_in known c.1) (cases_in known cs)

-- the shape that a definition gives
abbrev pub defined_shape : List Shape → Definition → Shape
defined_shape known (ListType element) = list_of (shape_in known element)
defined_shape known (MapType key value) = map_of (shape_in known key) (shape_in known value)
defined_shape known (RecordType fields) = record_of (fields_in known fields)
defined_shape known (TupleType types) = product of_places (members_in known types)
defined_shape known (VariantType cases) = variant_of (cases_in known cases)
defined_shape known (EnumType names) = enum_of names
defined_shape known (OptionType some) = option_of (shape_in known some)
defined_shape known (ResultType ok error) = result_of (payload_in known ok) (payload_in known error)
defined_shape known (FlagsType names) = flags names
defined_shape known (FixedListType element count) = fixed count (shape_in known element)

-- the shapes of the definitions, those before them known
unfoldable pub shapes_after : List Shape → List Definition → List Shape
shapes_after known [] = known
shapes_after known (d ∷ ds) = shapes_after (known ++ defined_shape known d ∷ []) ds

unfoldable pub all_shapes : TypeTable → List Shape
all_shapes t = shapes_after [] t.definitions

-- ---- the shape of a type of a table

abbrev pub shape_of : TypeTable → InterfaceType → Shape
shape_of t = shape_in (all_shapes t)

-- types in a row, as the members of a tuple
abbrev pub members_of : TypeTable → List InterfaceType → Members
members_of t = members_in (all_shapes t)

-- ---- which types a table knows

abbrev pub is_list : Definition → Bool
is_list (ListType element) = true
is_list _ = false

abbrev pub is_map : Definition → Bool
is_map (MapType key value) = true
is_map _ = false

abbrev pub is_record : Definition → Bool
is_record (RecordType fields) = true
is_record _ = false

abbrev pub is_tuple : Definition → Bool
is_tuple (TupleType types) = true
is_tuple _ = false

abbrev pub is_variant : Definition → Bool
is_variant (VariantType cases) = true
is_variant _ = false

abbrev pub is_enum : Definition → Bool
is_enum (EnumType names) = true
is_enum _ = false

abbrev pub is_option : Definition → Bool
is_option (OptionType some) = true
is_option _ = false

abbrev pub is_result : Definition → Bool
is_result (ResultType ok error) = true
is_result _ = false

abbrev pub is_flags : Definition → Bool
is_flags (FlagsType names) = true
is_flags _ = false

abbrev pub is_fixed_list : Definition → Bool
is_fixed_list (FixedListType element count) = true
is_fixed_list _ = false

-- there is a definition of this number, and it passes the test
abbrev pub has : (Definition → Bool) → TypeTable → ℕ → Bool
has test t i = option_map_or test (slice_get t.definitions i) false

abbrev pub knows : TypeTable → InterfaceType → Bool
knows t (ty.List i) = has is_list t i
knows t (ty.Map i) = has is_map t i
knows t (ty.Record i) = has is_record t i
knows t (ty.Tuple i) = has is_tuple t i
knows t (ty.Variant i) = has is_variant t i
knows t (ty.Enum i) = has is_enum t i
knows t (ty.Option i) = has is_option t i
knows t (ty.Result i) = has is_result t i
knows t (ty.Flags i) = has is_flags t i
knows t (ty.FixedLengthList i) = has is_fixed_list t i
knows t (ty.Own r) = nat_lt r (length t.resources)
knows t (ty.Borrow r) = nat_lt r (length t.resources)
knows t _ = true

abbrev pub Knows : TypeTable → InterfaceType → Type 0
Knows t type = IsTrue (knows t type)

abbrev pub KnowsPayload : TypeTable → Option InterfaceType → Type 0
KnowsPayload t None = ⊤
KnowsPayload t (Some type) = Knows t type

abbrev pub HasTuple : TypeTable → ℕ → Type 0
HasTuple t i = Knows t (ty.Tuple i)

abbrev pub HasFunc : TypeTable → ℕ → Type 0
HasFunc t i = i < length t.funcs

abbrev pub HasResource : TypeTable → ℕ → Type 0
HasResource t i = i < length t.resources

-- the types that a definition names
abbrev pub parts : Definition → List InterfaceType
parts (ListType element) = element ∷ []
parts (MapType key value) = key ∷ value ∷ []
parts (RecordType fields) = map (λ f. f.1) fields
parts (TupleType types) = types
parts (VariantType cases) = filter_map (λ c. c.1) cases
parts (EnumType names) = []
parts (OptionType some) = some ∷ []
parts (ResultType ok error) = option_to_list ok ++ option_to_list error
parts (FlagsType names) = []
parts (FixedListType element count) = element ∷ []

-- the definition of a type, if it has one
abbrev pub definition_at : TypeTable → InterfaceType → Option Definition
definition_at t type = option_map_or (slice_get t.definitions) (place type) None

-- the type has this definition, and the table knows its parts
pub record IsDefined (t : TypeTable) (type : InterfaceType) (d : Definition) : Type 0 where
  pub definition : definition_at t type ≡ Some d
  pub shape : shape_of t type ≡ defined_shape (all_shapes t) d
  pub known : All (Knows t) (parts d)

-- ---- tuples and functions

abbrev pub tuple_types : Definition → List InterfaceType
tuple_types (TupleType types) = types
tuple_types _ = []

-- the types of a tuple's members
abbrev pub types_of : TypeTable → ℕ → List InterfaceType
types_of t i = option_map_or tuple_types (slice_get t.definitions i) []

-- a tuple's members
abbrev pub tuple_members : TypeTable → ℕ → Members
tuple_members t i = members_of t (types_of t i)

-- the parameters and the results of the function are tuples of the table
pub record IsOver (t : TypeTable) (f : TypeFunc) : Type 0 where
  pub params : HasTuple t f.params
  pub results : HasTuple t f.results

abbrev pub param_members : TypeTable → TypeFunc → Members
param_members t f = tuple_members t f.params

abbrev pub result_members : TypeTable → TypeFunc → Members
result_members t f = tuple_members t f.results
