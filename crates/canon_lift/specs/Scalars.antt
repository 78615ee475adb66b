-- The numbers that stand for scalars.
use Rattle.std.specs.Prelude.{◌≡◌, ℕ}
use Rattle.canon_model.specs.Rep.{ScalarIs}
use Rattle.canon_model.specs.Shape.{Scalar, char}
use Rattle.std.specs.Char.{IsScalar}
use Rattle.canon_model.specs.Tree.{Tree}

-- the number is that of a scalar with one of these trees
abbrev pub StandsFor : {A : Type 0} → Scalar → (A → Tree → Type 0) → ℕ → A → Type 0
StandsFor k Lifts n v = (t : Tree) × ScalarIs k n t × Lifts v t

-- it should be a char's, and is no Unicode scalar value
abbrev pub StandsForNone : Scalar → ℕ → Type 0
StandsForNone k n = (k ≡ char) × ¬ IsScalar n
