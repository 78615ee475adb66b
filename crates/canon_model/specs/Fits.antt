-- A tree fits a shape as far as lowering to words asks: it has a tree for each member, a case that there is, and its lists of fixed
-- length are as long as their type says.
use Rattle.std.specs.Prelude.{suc, zero, ⊤, ℕ, ◌≡◌}
use Rattle.canon_model.specs.Shape.{Cases, Members, Shape, bare, borrow, fixed, flags, list, member, no_cases, no_members, own, payload, product, scalar, string, variant}
use Rattle.canon_model.specs.Tree.{Tree, Trees, case_number, no_trees, payload_of, tree, tree_count, trees_of}

abbrev pub AllTrees : (Tree → Type 0) → Trees → Type 0
AllTrees P no_trees = ⊤
AllTrees P (tree t ts) = P t × AllTrees P ts

abbrev mutual
  pub Fits : Shape → Tree → Type 0
  Fits (scalar k) t = ⊤
  Fits string t = ⊤
  Fits (own r) t = ⊤
  Fits (borrow r) t = ⊤
  Fits (list k s) t = ⊤
  Fits (fixed n s) t = (tree_count (trees_of t) ≡ n) × AllTrees (λ u. Fits s u) (trees_of t)
  Fits (product k ms) t = MembersFit ms (trees_of t)
  Fits (variant k cs) t = CaseFits cs (case_number t) (payload_of t)
  Fits (flags names) t = ⊤

  pub MembersFit : Members → Trees → Type 0
  MembersFit no_members ts = ⊤
  MembersFit (member name s ms) no_trees = ⊥
  MembersFit (member name s ms) (tree t ts) = Fits s t × MembersFit ms ts

  pub CaseFits : Cases → ℕ → Tree → Type 0
  CaseFits no_cases i u = ⊥
  CaseFits (bare name cs) zero u = ⊤
  CaseFits (bare name cs) (suc i) u = CaseFits cs i u
  CaseFits (payload name s cs) zero u = Fits s u
  CaseFits (payload name s cs) (suc i) u = CaseFits cs i u
