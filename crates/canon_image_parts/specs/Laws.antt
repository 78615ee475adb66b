-- The laws of images. Each is proved as the contract of a function in src/laws.rt.
use Rattle.std.specs.Prelude.{List, ℕ, ◌++◌, ◌≡◌}
use Rattle.canon_model.specs.Image.{Image}
use Rattle.canon_model.specs.Shape.{Shape}
use Rattle.canon_model.specs.Tree.{Tree}
use Rattle.canon_val.specs.Value.{HasTree, IsLiftedFrom, IsSame}
use Rattle.canon_val.specs.declared.val.Val.{Val}
use Rattle.canon_image_parts.specs.Stops.{Stop, StopsAt}

-- Bytes that begin with an image don't stop reading, and reading stops at one place and in one way.
pub record StopsOnce : Type 0 where
  pub whole : (s : Shape) (t : Tree) (xs rest : List ℕ) (p : ℕ) (how : Stop) → Image s t xs → ¬ StopsAt s (xs ++ rest) p how
  pub once : (s : Shape) (bs : List ℕ) (p q : ℕ) (how other : Stop) → StopsAt s bs p how → StopsAt s bs q other → (p ≡ q) × (how ≡ other)

-- What was imaged is read as the same value, with its flags in their type's order, each once; and what was read has the image that it was read from.
pub record ImagesComeBack : Type 0 where
  pub value : (s : Shape) (v w : Val) (t u : Tree) (bs : List ℕ) → HasTree s v t → Image s t bs → Image s u bs → IsLiftedFrom s w u → IsSame s v w
  pub bytes : (s : Shape) (w : Val) (t u : Tree) (xs ys : List ℕ) → Image s t xs → IsLiftedFrom s w t → HasTree s w u → Image s u ys → xs ≡ ys
