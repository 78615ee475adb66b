-- Which trees a type has, by its shape: their kinds, counts and cases. How large a number may be is left to the Rust types.
use Rattle.std.proofs.Common.{Bool, IsTrue, List, ap, length, pos, subst, suc, sym, zero, ◌≡◌, ℕ, ℤ}
use Rattle.std.specs.Str.{all_scalars}
use Rattle.canon_model.specs.Fits.{AllTrees, CaseFits, Fits, MembersFit}
use Rattle.canon_model.specs.Shape as shape
use Rattle.canon_model.specs.Shape.{Cases, Members, Scalar, Shape, bare, borrow, fixed, flags, list, member, no_cases, no_members, own, payload, product, scalar, string, variant}
use Rattle.canon_model.specs.Tree.{Tree, Trees, bits, case, case_number, case_of, code_point, handle, items, no_trees, number, parts, payload_of, text, tree, tree_count, truth}

abbrev pub IsScalarTree : Scalar → Tree → Type 0
IsScalarTree shape.bool t = (b : Bool) × (t ≡ truth b)
IsScalarTree shape.char t = (c : ℕ) × (t ≡ code_point c)
IsScalarTree shape.s8 t = (z : ℤ) × (t ≡ number z)
IsScalarTree shape.s16 t = (z : ℤ) × (t ≡ number z)
IsScalarTree shape.s32 t = (z : ℤ) × (t ≡ number z)
IsScalarTree shape.s64 t = (z : ℤ) × (t ≡ number z)
IsScalarTree _ t = (n : ℕ) × (t ≡ number (pos n))

abbrev mutual
  pub IsTreeOf : Shape → Tree → Type 0
  IsTreeOf (scalar k) t = IsScalarTree k t
  IsTreeOf string t = (cs : List ℕ) × (n : ℕ) × (t ≡ text cs n) × IsTrue (all_scalars cs)
  IsTreeOf (own r) t = (h : ℕ) × (t ≡ handle h)
  IsTreeOf (borrow r) t = (h : ℕ) × (t ≡ handle h)
  IsTreeOf (list k s) t = (ts : Trees) × (t ≡ items ts) × AllTrees (λ u. IsTreeOf s u) ts
  IsTreeOf (fixed n s) t = (ts : Trees) × (t ≡ parts ts) × (tree_count ts ≡ n) × AllTrees (λ u. IsTreeOf s u) ts
  IsTreeOf (product k ms) t = (ts : Trees) × (t ≡ parts ts) × AreTreesOf ms ts
  IsTreeOf (variant k cs) t = (d : ℕ) × IsCaseOf cs d d t
  IsTreeOf (flags names) t = (bs : List Bool) × (t ≡ bits bs) × (length bs ≡ length names)

  -- one for each member
  pub AreTreesOf : Members → Trees → Type 0
  AreTreesOf no_members ts = ts ≡ no_trees
  AreTreesOf (member name s ms) ts = (t : Tree) × (rest : Trees) × (ts ≡ tree t rest) × IsTreeOf s t × AreTreesOf ms rest

  -- case i of these, which is case d of the variant
  pub IsCaseOf : Cases → ℕ → ℕ → Tree → Type 0
  IsCaseOf no_cases i d t = ⊥
  IsCaseOf (bare name cs) zero d t = t ≡ case d
  IsCaseOf (bare name cs) (suc i) d t = IsCaseOf cs i d t
  IsCaseOf (payload name s cs) zero d t = (u : Tree) × (t ≡ case_of d u) × IsTreeOf s u
  IsCaseOf (payload name s cs) (suc i) d t = IsCaseOf cs i d t

-- ---- such a tree fits

all_fit : (Is : Tree → Type 0) (Fit : Tree → Type 0) → ((t : Tree) → Is t → Fit t) → (ts : Trees) → AllTrees Is ts → AllTrees Fit ts
all_fit Is Fit law no_trees h = tt
all_fit Is Fit law (tree t ts) (one, more) = (law t one, all_fit Is Fit law ts more)

mutual
  pub tree_fits : (s : Shape) (t : Tree) → IsTreeOf s t → Fits s t
  tree_fits (scalar k) t h = tt
  tree_fits string t h = tt
  tree_fits (own r) t h = tt
  tree_fits (borrow r) t h = tt
  tree_fits (list k s) t h = tt
  tree_fits (fixed n s) t (ts, e, count, all) = subst (λ (u : Tree). Fits (fixed n s) u) (sym e) (count, all_fit (λ u. IsTreeOf s u) (λ u. Fits s u) (λ u h. tree_fits s u h) ts all)
  tree_fits (product k ms) t (ts, e, all) = subst (λ (u : Tree). Fits (product k ms) u) (sym e) (trees_fit ms ts all)
  tree_fits (variant k cs) t (d, h) = let is = case_fits cs d d t h in subst (λ (i : ℕ). CaseFits cs i (payload_of t)) (sym is.0) is.1
  tree_fits (flags names) t h = tt

  trees_fit : (ms : Members) (ts : Trees) → AreTreesOf ms ts → MembersFit ms ts
  trees_fit no_members ts h = tt
  trees_fit (member name s ms) ts (t, rest, e, one, more) = subst (λ (us : Trees). MembersFit (member name s ms) us) (sym e) (tree_fits s t one, trees_fit ms rest more)

  case_fits : (cs : Cases) (i d : ℕ) (t : Tree) → IsCaseOf cs i d t → (case_number t ≡ d) × CaseFits cs i (payload_of t)
  case_fits no_cases i d t h = absurd h
  case_fits (bare name cs) zero d t e = (ap case_number e, tt)
  case_fits (bare name cs) (suc i) d t h = case_fits cs i d t h
  case_fits (payload name s cs) zero d t (u, e, one) = (ap case_number e, subst (λ (w : Tree). Fits s (payload_of w)) (sym e) (tree_fits s u one))
  case_fits (payload name s cs) (suc i) d t h = case_fits cs i d t h
