-- The pairs of a map.
use Rattle.std.specs.Prelude.{[], ◌∷◌, ◌≡◌, false}
use Rattle.canon_abi.specs.Abi.{HasLayout}
use Rattle.canon_model.specs.Layout.{begins, ends}
use Rattle.canon_model.specs.Shape.{Shape, tuple}
use Rattle.canon_types.specs.Instance.{Instance}
use Rattle.canon_types.specs.Table.{Knows, TypeTable, shape_of}
use Rattle.canon_types.specs.declared.types.InterfaceType.{InterfaceType}
use Rattle.canon_lower_parts.specs.declared.maps.PairType.{PairType}

-- the shape of a pair
abbrev pub pair_in : TypeTable → PairType → Shape
pair_in t p = tuple (shape_of t p.key ∷ shape_of t p.value ∷ [])

-- the types of key and value are the Rust types', and the numbers are the pair's
pub record IsPairType (Key Value : Instance → InterfaceType → Type 0) (i : Instance) (p : PairType) : Type 0 where
  pub key_known : Knows i.types p.key
  pub value_known : Knows i.types p.value
  pub key_fits : Key i p.key
  pub value_fits : Value i p.value
  pub second : p.second ≡ begins false (ends false 0 (shape_of i.types p.key)) (shape_of i.types p.value)
  pub layout : HasLayout p.abi (pair_in i.types p)
