-- What holds of types that are the same.
use Rattle.std.specs.Prelude.{◌≡◌, Bool}
use Rattle.canon_model.specs.Layout.{align, flat, size}
use Rattle.canon_types.specs.Instance.{Instance}
use Rattle.canon_types.specs.Table.{shape_of}
use Rattle.canon_types.specs.declared.types.InterfaceType.{InterfaceType}
use Rattle.canon_same.specs.Same.{SameTypes}

-- an equivalence over all components
pub record SameIsEquivalence : Type 0 where
  pub itself : (i : Instance) (type : InterfaceType) → SameTypes i i type type
  pub turned : (i j : Instance) (type other : InterfaceType) → SameTypes i j type other → SameTypes j i other type
  pub joined : (i j k : Instance) (one two three : InterfaceType) → SameTypes i j one two → SameTypes j k two three → SameTypes i k one three

-- one size, one alignment and one number of words, whatever the width of pointers
pub record SameLiesAlike : Type 0 where
  pub size : (i j : Instance) (type other : InterfaceType) (wide : Bool) → SameTypes i j type other → size wide (shape_of i.types type) ≡ size wide (shape_of j.types other)
  pub align : (i j : Instance) (type other : InterfaceType) (wide : Bool) → SameTypes i j type other → align wide (shape_of i.types type) ≡ align wide (shape_of j.types other)
  pub flat : (i j : Instance) (type other : InterfaceType) → SameTypes i j type other → flat (shape_of i.types type) ≡ flat (shape_of j.types other)
