-- The payload of a case: none where its Rust type is the unit.
use Rattle.std.specs.Prelude.{◌≡◌, ◌≤◌, ◌+◌, ◌^◌, Bool, List, None, Option, Some, [], false, length, suc, true, zero, ℕ}
use Rattle.canon_context.specs.Core.{Parts, component_types}
use Rattle.canon_model.specs.Layout.{payload_offset, tag_size}
use Rattle.canon_model.specs.Shape.{Cases, Shape, VariantKind, case_count, no_members, of_places, option_of, product, result_of, variant}
use Rattle.canon_model.specs.Tree.{Tree, Trees}
use Rattle.canon_types.specs.Depth.{variant_cases}
use Rattle.canon_types.specs.Instance.{Instance}
use Rattle.canon_types.specs.Table.{Knows, KnowsPayload, TypeTable, all_shapes, payload_in, shape_of}
use Rattle.canon_types.specs.declared.types.InterfaceType.{InterfaceType}
use Rattle.canon_typed.specs.Meaning.{FirstAnd, NoTrees}
use Rattle.canon_typed.specs.Types.{IsPayloadOf}
use Rattle.canon_resources.specs.Parts.{Part}
use Rattle.canon_lower_parts.specs.Stores.{IsPut}

-- the shape of a payload, unless its Rust type is the unit
abbrev pub unless_unit : Bool → Shape → Option Shape
unless_unit true s = None
unless_unit false s = Some s

-- the trees of a payload, as those of no member or one
abbrev pub PayloadTrees : Bool → (Tree → Type 0) → Trees → Type 0
PayloadTrees true Has = NoTrees
PayloadTrees false Has = FirstAnd Has NoTrees

-- the shape of a payload's type; without one a product of nothing
abbrev pub payload_type : TypeTable → Option InterfaceType → Shape
payload_type t None = product of_places no_members
payload_type t (Some type) = shape_of t type

-- the one of case d, of two
abbrev pub pick : {A : Type 0} → ℕ → A → A → A
pick zero x y = x
pick (suc d) x y = y

-- what the handles of a payload do, which is nothing where its Rust type is the unit
abbrev pub part_gives : Bool → List (List Part) → List (List Part)
part_gives true gs = []
part_gives false gs = gs

-- a shape with cases
abbrev pub IsVariantShape : Shape → Type 0
IsVariantShape s = (k : VariantKind) × (s ≡ variant k (variant_cases s))

-- the number of a case was written where the variant begins; its payload begins at `place`
pub record IsCasePut {D G : Type 0} (before after : Parts D G) (cs : Cases) (at d place : ℕ) : Type 0 where
  pub put : IsPut before after at d (tag_size (case_count cs))
  pub inner : place ≡ at + payload_offset false cs
  pub small : length before.memory ≤ 2 ^ 32

-- the number of an option's case was written, and this is the type of its payload
pub record IsOptionPut {D G : Type 0} (Fits : Instance → InterfaceType → Type 0) (before after : Parts D G) (type : InterfaceType) (at d : ℕ) (some : InterfaceType) (place : ℕ) : Type 0 where
  pub shape : shape_of (component_types before) type ≡ option_of (shape_of (component_types before) some)
  pub known : Knows (component_types before) some
  pub fits : Fits before.component.types some
  pub put : IsCasePut before after (variant_cases (shape_of (component_types before) type)) at d place

-- the number of a result's case was written, and this is its payload's type
pub record IsResultPut {D G : Type 0} (unit : Bool) (Good : Instance → InterfaceType → Type 0) (unit2 : Bool) (Bad : Instance → InterfaceType → Type 0) (before after : Parts D G)
    (type : InterfaceType) (at d : ℕ) (payload : Option InterfaceType) (place : ℕ) : Type 0 where
  pub first : Option InterfaceType
  pub second : Option InterfaceType
  pub shape : shape_of (component_types before) type ≡ result_of (payload_in (all_shapes (component_types before)) first) (payload_in (all_shapes (component_types before)) second)
  pub part : payload ≡ pick d first second
  pub known : KnowsPayload (component_types before) payload
  pub fits : IsPayloadOf unit Good before.component.types first
  pub fits2 : IsPayloadOf unit2 Bad before.component.types second
  pub put : IsCasePut before after (variant_cases (shape_of (component_types before) type)) at d place
