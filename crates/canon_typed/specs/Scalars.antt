-- The types of scalars: each value has one tree, which no other value has.
use Rattle.std.specs.Prelude.{Bool, false, pos, true, ◌≡◌, ℕ}
use Rattle.std.proofs.Common.{ap, refl, sym, ◌∙◌}
use Rattle.canon_model.specs.Shape.{Scalar, scalar}
use Rattle.canon_model.specs.Tree.{Tree, code_point, number, truth}
use Rattle.canon_types.specs.Instance.{Instance}
use Rattle.canon_types.specs.Table.{shape_of}
use Rattle.canon_types.specs.declared.types.InterfaceType.{InterfaceType}
use Rattle.canon_typed.specs.Charges.{free}

-- the shape of each type that fits is the scalar's
abbrev pub IsOfScalar : Scalar → (Instance → InterfaceType → Type 0) → Type 0
IsOfScalar k Fit = (i : Instance) (type : InterfaceType) → Fit i type → shape_of i.types type ≡ scalar k

-- Of a scalar's Rust type: each value has one tree, which is lifted to it and to no other, for nothing.
pub record IsScalarRustType {A : Type 0} (k : Scalar) (Fit : Instance → InterfaceType → Type 0) (is_unit : Bool) (Means Walks : A → Tree → Type 0) (is_told : Bool) (Lifts : A → Tree → Type 0) (cost : Tree → ℕ) : Type 0 where
  pub shape : IsOfScalar k Fit
  pub no_unit : is_unit ≡ false
  pub walkable : (v : A) → (t : Tree) × Walks v t
  pub one_tree : (v : A) (t u : Tree) → Means v t → Means v u → t ≡ u
  pub comes_back : (v : A) (t : Tree) → Means v t → Lifts v t
  pub one_value : (v w : A) (t : Tree) → Lifts v t → Lifts w t → v ≡ w
  pub told : is_told ≡ true
  pub uncharged : cost ≡ free

-- what is of this type is of this scalar
pub scalar_of : (type : InterfaceType) (k : Scalar) → ((i : Instance) → shape_of i.types type ≡ scalar k) → IsOfScalar k (λ i t. t ≡ type)
scalar_of type k same i t e = ap (shape_of i.types) e ∙ same i

-- no two values have the same tree
abbrev pub HaveDistinctTrees : {A : Type 0} → (A → Tree) → Type 0
HaveDistinctTrees {A} tree_of = (v w : A) → tree_of v ≡ tree_of w → v ≡ w

pub scalar_rust_type : {A : Type 0} (type : InterfaceType) (k : Scalar) (tree_of : A → Tree) → HaveDistinctTrees tree_of → ((i : Instance) → shape_of i.types type ≡ scalar k)
    → IsScalarRustType k (λ i t. t ≡ type) false (λ v t. t ≡ tree_of v) (λ v t. t ≡ tree_of v) true (λ v t. t ≡ tree_of v) free
scalar_rust_type type k tree_of apart same = record {
  shape = scalar_of type k same;
  no_unit = refl;
  walkable = λ v. (tree_of v, refl);
  one_tree = λ v t u h g. h ∙ sym g;
  comes_back = λ v t h. h;
  one_value = λ v w t h g. apart v w (sym h ∙ g);
  told = refl;
  uncharged = refl;
}

pub numbers_apart : HaveDistinctTrees number
numbers_apart m n e = cc

pub naturals_apart : HaveDistinctTrees (λ n. number (pos n))
naturals_apart m n e = cc

pub truths_apart : HaveDistinctTrees truth
truths_apart b c e = cc

pub code_points_apart : HaveDistinctTrees code_point
code_points_apart c d e = cc
