-- The words of scalars.
use Rattle.std.proofs.Common.{◌%◌, ◌^◌, ℕ}
use Rattle.canon_model.specs.Flat.{IsLeastWord, flat_bits}
use Rattle.canon_model.specs.Rep.{ScalarIs}
use Rattle.canon_model.specs.Tree.{Tree}
use Rattle.canon_model.specs.Shape.{Scalar}

-- The word strictly represents a scalar that has one of these trees.
abbrev pub IsWordOfScalar : Scalar → (Tree → Type 0) → ℕ → Type 0
IsWordOfScalar k Has w = (t : Tree) × Has t × ScalarIs k (w % 2 ^ flat_bits k) t × IsLeastWord k w
