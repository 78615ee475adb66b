-- Which component types are a Rust type's: a relation of an instance's types, by cases on the type.
use Rattle.std.specs.Prelude.{Bool, List, None, Option, Some, [], false, true, ◌∷◌, ◌≡◌, ◌≤◌, ⊤, ℕ}
use Rattle.canon_types.specs.Instance.{Instance}
use Rattle.canon_types.specs.Resource.{resource_type_at}
use Rattle.canon_types.specs.Table.{FixedListType, IsDefined, ListType, MapType, OptionType, ResultType, TupleType}
use Rattle.canon_types.specs.declared.resource.ResourceType.{ResourceType}
use Rattle.canon_types.specs.declared.types.InterfaceType.{InterfaceType}
use Rattle.canon_types.specs.declared.types.InterfaceType.TheVariants as ty

abbrev pub IsOptionOf : (Instance → InterfaceType → Type 0) → Instance → InterfaceType → Type 0
IsOptionOf Fits i (ty.Option x) = (some : InterfaceType) × IsDefined i.types (ty.Option x) (OptionType some) × Fits i some
IsOptionOf Fits i _ = ⊥

abbrev pub IsListOf : (Instance → InterfaceType → Type 0) → Instance → InterfaceType → Type 0
IsListOf Fits i (ty.List x) = (element : InterfaceType) × IsDefined i.types (ty.List x) (ListType element) × Fits i element
IsListOf Fits i _ = ⊥

abbrev pub IsMapOf : (Instance → InterfaceType → Type 0) → (Instance → InterfaceType → Type 0) → Instance → InterfaceType → Type 0
IsMapOf Key Value i (ty.Map x) = (key value : InterfaceType) × IsDefined i.types (ty.Map x) (MapType key value) × Key i key × Value i value
IsMapOf Key Value i _ = ⊥

-- a list of n items, at least one: there is no type of none
abbrev pub IsFixedOf : ℕ → (Instance → InterfaceType → Type 0) → Instance → InterfaceType → Type 0
IsFixedOf n Fits i (ty.FixedLengthList x) = (1 ≤ n) × ((element : InterfaceType) × IsDefined i.types (ty.FixedLengthList x) (FixedListType element n) × Fits i element)
IsFixedOf n Fits i _ = ⊥

-- the types are these, in order
abbrev pub AreOf : List (Instance → InterfaceType → Type 0) → Instance → List InterfaceType → Type 0
AreOf [] i [] = ⊤
AreOf (Fits ∷ rest) i (type ∷ types) = Fits i type × AreOf rest i types
AreOf _ i _ = ⊥

abbrev pub IsTupleOf : List (Instance → InterfaceType → Type 0) → Instance → InterfaceType → Type 0
IsTupleOf all i (ty.Tuple x) = (types : List InterfaceType) × IsDefined i.types (ty.Tuple x) (TupleType types) × AreOf all i types
IsTupleOf all i _ = ⊥

-- a case has no payload exactly where the Rust type is the unit
abbrev pub IsPayloadOf : Bool → (Instance → InterfaceType → Type 0) → Instance → Option InterfaceType → Type 0
IsPayloadOf true Fits i None = ⊤
IsPayloadOf false Fits i (Some type) = Fits i type
IsPayloadOf _ Fits i _ = ⊥

abbrev pub IsResultOf : Bool → (Instance → InterfaceType → Type 0) → Bool → (Instance → InterfaceType → Type 0) → Instance → InterfaceType → Type 0
IsResultOf ok_is_unit Good error_is_unit Bad i (ty.Result x) = (ok error : Option InterfaceType) × IsDefined i.types (ty.Result x) (ResultType ok error) × IsPayloadOf ok_is_unit Good i ok × IsPayloadOf error_is_unit Bad i error
IsResultOf ok_is_unit Good error_is_unit Bad i _ = ⊥

-- ---- handles

-- an own or a borrowed handle, of any resource type
abbrev pub IsHandleType : Instance → InterfaceType → Type 0
IsHandleType i (ty.Own r) = ⊤
IsHandleType i (ty.Borrow r) = ⊤
IsHandleType i _ = ⊥

-- the resource type that a handle is of
abbrev pub handle_type : Instance → InterfaceType → Option ResourceType
handle_type i (ty.Own r) = resource_type_at i r
handle_type i (ty.Borrow r) = resource_type_at i r
handle_type i _ = None

-- it is of a resource type that the kind takes
abbrev pub IsHandleOf : {D : Type 0} → (ResourceType → Option D) → Instance → InterfaceType → Type 0
IsHandleOf {D} checked i type = (kind : ResourceType) × (d : D) × (handle_type i type ≡ Some kind) × (checked kind ≡ Some d)
