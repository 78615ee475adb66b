-- What a type's values are lifted as.
use Rattle.std.specs.Prelude.{Bool, List, Option, [], false, length, suc, true, zero, ℕ, ⊤, ◌+◌, ◌<◌, ◌^◌, ◌≡◌}
use Rattle.canon_abi.specs.Abi.{HasInfo}
use Rattle.canon_lowering.specs.Copies.{copies}
use Rattle.canon_model.specs.Cost.{names_length}
use Rattle.canon_model.specs.Shape.{Members, Name, Shape, VariantKind, borrow, enum_of, fixed, list, member, no_members, of_cases, of_fields, of_items, of_places, option_of, own, product, result_of, string, variant}
use Rattle.canon_types.specs.Depth.{element_shape, product_members, variant_cases}
use Rattle.canon_types.specs.Table.{HasTuple, Knows, TypeTable, shape_of, tuple_members}
use Rattle.canon_types.specs.declared.types.InterfaceType.{InterfaceType}
use Rattle.canon_types.specs.declared.types.InterfaceType.TheVariants as ty
use Rattle.canon_plan.specs.NoHandle.{IsScalarType}
use Rattle.canon_plan.specs.Element.{IsKnown, IsMap, list_shape, row_of}
use Rattle.canon_plan.specs.declared.plan.HandleType.{HandleType}
use Rattle.canon_plan.specs.declared.plan.Plan.{Plan}
use Rattle.canon_plan.specs.declared.plan.Plan.TheVariants as plan
use Rattle.canon_plan.specs.declared.plan.Slot.{Slot}
use Rattle.canon_plan.specs.declared.plan.Slots.{Slots}
use Rattle.canon_plan.specs.declared.plan.Slots.TheVariants as slots

-- ---- members

-- the members from the one of this number on
abbrev pub members_from : ℕ → Members → Members
members_from zero ms = ms
members_from (suc i) no_members = no_members
members_from (suc i) (member name s ms) = members_from i ms

-- the shape lies as these members do, from its address on and in its words
abbrev pub LiesAs : Shape → Members → Type 0
LiesAs (product k ms) these = these ≡ ms
LiesAs (fixed n s) these = these ≡ copies n s
LiesAs _ these = ⊥

-- ---- members, by the table

abbrev pub shapes_of : TypeTable → Slots → Members
shapes_of t (slots.Fields i) = product_members (shape_of t (ty.Record i))
shapes_of t (slots.Places i) = tuple_members t i
shapes_of t (slots.Items type n) = copies n (shape_of t type)
shapes_of t slots.Empty = no_members
shapes_of t (slots.Single type) = member [] (shape_of t type) no_members
shapes_of t (slots.Pairs i n) = row_of (shape_of t (ty.Map i)) n

abbrev pub AreKnown : TypeTable → Slots → Type 0
AreKnown t (slots.Fields i) = Knows t (ty.Record i)
AreKnown t (slots.Places i) = HasTuple t i
AreKnown t (slots.Items type n) = Knows t type
AreKnown t slots.Empty = ⊤
AreKnown t (slots.Single type) = Knows t type
AreKnown t (slots.Pairs i n) = Knows t (ty.Map i) × IsMap (shape_of t (ty.Map i)) × (n < 2 ^ 32)

-- the one of number k
pub record IsSlot (t : TypeTable) (ms : Members) (k : ℕ) (slot : Slot) : Type 0 where
  pub known : Knows t slot.ty
  pub name : Name
  pub name_is : slot.name_length ≡ length name
  pub shapes : members_from k ms ≡ member name (shape_of t slot.ty) (members_from (k + 1) ms)

-- members of a tuple have no names
abbrev pub Unnamed : Shape → Type 0
Unnamed (product of_places ms) = names_length ms ≡ 0
Unnamed _ = ⊤

-- the type is of a kind that has members or items, and its shape is of this kind
abbrev pub IsKind : InterfaceType → Shape → Type 0
IsKind (ty.Record i) s = s ≡ product of_fields (product_members s)
IsKind (ty.Tuple i) s = (s ≡ product of_places (product_members s)) × (names_length (product_members s) ≡ 0)
IsKind (ty.FixedLengthList i) s = (n : ℕ) × (part : Shape) × (s ≡ fixed n part)
IsKind (ty.List i) s = s ≡ list of_items (element_shape s)
IsKind (ty.Map i) s = IsMap s
IsKind _ s = ⊥

-- the type is of a kind that has cases, and its shape is of this kind
abbrev pub IsCaseKind : InterfaceType → Shape → Type 0
IsCaseKind (ty.Variant i) s = s ≡ variant of_cases (variant_cases s)
IsCaseKind (ty.Enum i) s = (names : List Name) × (s ≡ enum_of names)
IsCaseKind (ty.Option i) s = (some : Shape) × (s ≡ option_of some)
IsCaseKind (ty.Result i) s = (ok error : Option Shape) × (s ≡ result_of ok error)
IsCaseKind _ s = ⊥

abbrev pub IsVariant : Shape → Type 0
IsVariant s = (k : VariantKind) × (s ≡ variant k (variant_cases s))

-- the type of a handle, and its shape
abbrev pub typed_handle : Bool → ℕ → InterfaceType
typed_handle true r = ty.Own r
typed_handle false r = ty.Borrow r

abbrev pub type_of_handle : HandleType → InterfaceType
type_of_handle h = typed_handle h.owned h.resource

abbrev pub shaped_handle : Bool → ℕ → Shape
shaped_handle true r = own r
shaped_handle false r = borrow r

abbrev pub shape_of_handle : HandleType → Shape
shape_of_handle h = shaped_handle h.owned h.resource

abbrev pub Plans : TypeTable → InterfaceType → Plan → Type 0
Plans t type plan.Scalar = IsScalarType type
Plans t type (plan.Handle h) = type ≡ type_of_handle h
Plans t type plan.Text = shape_of t type ≡ string
Plans t type (plan.List element) = IsKnown t element × (shape_of t type ≡ list_shape t element) × IsKind type (shape_of t type)
Plans t type (plan.Members members) = AreKnown t members × LiesAs (shape_of t type) (shapes_of t members) × IsKind type (shape_of t type) × Unnamed (shape_of t type)
Plans t type (plan.Case info) = IsCaseKind type (shape_of t type) × IsVariant (shape_of t type) × HasInfo info (variant_cases (shape_of t type))
Plans t type (plan.Flags i) = type ≡ ty.Flags i
