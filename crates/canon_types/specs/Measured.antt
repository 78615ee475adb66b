-- What is known of a definition before it is entered.
use Rattle.std.specs.Prelude.{◌≡◌, ℕ, ◌+◌, ◌<◌, Bool, false, nat_lt, List, [], ◌∷◌, All, Option}
use Rattle.canon_abi.specs.Abi.{HasLayout}
use Rattle.canon_abi.specs.declared.abi.CanonicalAbiInfo.{CanonicalAbiInfo}
use Rattle.canon_model.specs.Shape.{of_places, product}
use Rattle.canon_types.specs.Depth.{deepest, member_borrows}
use Rattle.canon_types.specs.declared.error.TypeError.{TypeError}
use Rattle.canon_types.specs.declared.error.TypeError.TheVariants as error
use Rattle.canon_types.specs.declared.types.InterfaceType.{InterfaceType}
use Rattle.canon_types.specs.Refusal.{first_error, has_repeats, is_full_for, names, or_else, parts_refusal, refusal}
use Rattle.canon_types.specs.Table.{Definition, Knows, TypeTable, members_of, parts}

-- only a full table refuses the definition
abbrev pub FitsWithRoom : TypeTable → Definition → Type 0
FitsWithRoom t d = refusal t d ≡ first_error ((is_full_for 1 t, error.TooManyTypes) ∷ [])

-- why a type without names is refused for its parts or its depth, if it is
abbrev pub measure_refusal : TypeTable → List InterfaceType → Bool → Option TypeError
measure_refusal t types empty =
    or_else (parts_refusal t types empty) (first_error ((nat_lt 100 (1 + deepest (members_of t types)), error.TooDeep) ∷ []))

-- known types that a tuple may have, and the tuple's numbers
pub record MakeTuple (t : TypeTable) (types : List InterfaceType) (abi : CanonicalAbiInfo) : Type 0 where
  pub known : All (Knows t) types
  pub shallow : deepest (members_of t types) < 100
  pub layout : HasLayout abi (product of_places (members_of t types))

-- a definition that fits, its depth, and whether a borrowed handle occurs in it
pub record IsMeasured (t : TypeTable) (d : Definition) (deep : ℕ) (borrowed : Bool) : Type 0 where
  pub fits : FitsWithRoom t d
  pub known : All (Knows t) (parts d)
  pub depth : deep ≡ 1 + deepest (members_of t (parts d))
  pub borrows : borrowed ≡ member_borrows (members_of t (parts d))
  pub names : has_repeats (names d) ≡ false
