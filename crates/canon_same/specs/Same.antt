-- Types of two components that are the same: their values mean the same in both.
use Rattle.std.specs.Prelude.{◌≡◌, ℕ, ⊤, All, IfSome, None, Option, Some, slice_index_or}
use Rattle.canon_model.specs.Same.{Same, SameMembers}
use Rattle.canon_model.specs.Shape.{Shape}
use Rattle.canon_types.specs.Instance.{Instance}
use Rattle.canon_types.specs.Resource.{resource_type_at}
use Rattle.canon_types.specs.Table.{all_shapes, no_shape, param_members, result_members, shape_of}
use Rattle.canon_types.specs.declared.types.InterfaceType.{InterfaceType}
use Rattle.canon_types.specs.declared.types.TypeFunc.{TypeFunc}
use Rattle.canon_same.specs.declared.found.Found.{Found}

-- `read` and `written` are the types of the two components, each in its store.
module _ (read written : Instance) where
  -- the two resources are of one type
  abbrev pub SameResource : ℕ → ℕ → Type 0
  SameResource r q = resource_type_at read r ≡ resource_type_at written q

  -- of one shape, but that each component has its own numbers for resources
  abbrev pub SameTypes : InterfaceType → InterfaceType → Type 0
  SameTypes type other = Same SameResource (shape_of read.types type) (shape_of written.types other)

  -- the parameters are the same, and so are the results
  pub record SameFuncs (f g : TypeFunc) : Type 0 where
    pub params : SameMembers SameResource (param_members read.types f) (param_members written.types g)
    pub results : SameMembers SameResource (result_members read.types f) (result_members written.types g)

  -- the definitions of these numbers are the same
  abbrev pub SameDefinitions : ℕ → ℕ → Type 0
  SameDefinitions n m = Same SameResource (slice_index_or (all_shapes read.types) n no_shape) (slice_index_or (all_shapes written.types) m no_shape)

  -- the pairs that are kept are the same
  abbrev pub AreFound : Found → Type 0
  AreFound found = All (λ pair. IfSome pair (λ p. SameDefinitions p.read p.written)) found.pairs

-- the payloads of two cases: none, or the same
abbrev pub SamePayload : (ℕ → ℕ → Type 0) → Option Shape → Option Shape → Type 0
SamePayload same_resource None None = ⊤
SamePayload same_resource (Some s) (Some v) = Same same_resource s v
SamePayload same_resource _ _ = ⊥
