-- What a look-up gives of a list's type.
use Rattle.std.specs.Prelude.{◌≡◌}
use Rattle.canon_model.specs.Shape.{Shape}
use Rattle.canon_types.specs.Instance.{Instance}
use Rattle.canon_types.specs.Table.{Knows, shape_of}
use Rattle.canon_types.specs.declared.types.InterfaceType.{InterfaceType}

-- the type is of the shape that its items' type gives
pub record IsElementOf (whole : Shape → Shape) (Fits : Instance → InterfaceType → Type 0) (i : Instance) (type element : InterfaceType) : Type 0 where
  pub shape : shape_of i.types type ≡ whole (shape_of i.types element)
  pub known : Knows i.types element
  pub fits : Fits i element
