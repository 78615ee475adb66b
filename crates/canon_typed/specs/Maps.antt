-- The trees of a map: a list of its pairs.
use Rattle.std.proofs.Common.{[], ◌∷◌, ◌≡◌, Bool, List, None, refl, subst, sym}
use Rattle.std.specs.HashMap.{HashMap, get}
use Rattle.std.specs.List.Sorted.{IsPermutation}
use Rattle.std.specs.Map.{update_all}
use Rattle.canon_model.specs.Shape.{Shape, tuple}
use Rattle.canon_model.specs.Tree.{Tree, Trees, items}
use Rattle.canon_types.specs.Instance.{Instance}
use Rattle.canon_types.specs.Table.{shape_of}
use Rattle.canon_types.specs.declared.types.InterfaceType.{InterfaceType}
use Rattle.canon_types.specs.declared.types.InterfaceType.TheVariants as ty
use Rattle.canon_typed.specs.Meaning.{EachMeans, FirstAnd, NoTrees, PairMeans}
use Rattle.canon_typed.specs.Trees.{IsTreeOf}
use Rattle.canon_typed.specs.Typed.{IsTyped, each_typed}
use Rattle.canon_typed.specs.Types.{IsMapOf}
use Rattle.canon_typed.specs.Walked.{IsWalked, each_walked, first_walked, none_walked, product_walked}

-- lowered: each list in which each of its pairs stands once
abbrev pub MapMeans : {K V S : Type 0} → (K → Tree → Type 0) → (V → Tree → Type 0) → HashMap K V S → Tree → Type 0
MapMeans {K} {V} M N m t = (pairs : List (K × V)) × (ts : Trees) × IsPermutation m.entries pairs × (t ≡ items ts) × EachMeans (PairMeans M N) pairs ts

-- as it is walked: the pairs in the order of the entries
abbrev pub MapWalks : {K V S : Type 0} → (K → Tree → Type 0) → (V → Tree → Type 0) → HashMap K V S → Tree → Type 0
MapWalks M N m t = (ts : Trees) × (t ≡ items ts) × EachMeans (PairMeans M N) m.entries ts

-- the pairs were put in, in this order: each key has its last value
abbrev pub IsFilledWith : {K V S : Type 0} → (K → K → Bool) → List (K × V) → HashMap K V S → Type 0
IsFilledWith {K} eq pairs m = (k : K) → get eq m k ≡ update_all eq (λ q. None) pairs k

-- lifted: at each key of the represented pairs the value of the last one
abbrev pub MapLifts : {K V S : Type 0} → (K → K → Bool) → (K → Tree → Type 0) → (V → Tree → Type 0) → HashMap K V S → Tree → Type 0
MapLifts {K} {V} eq M N m t = (pairs : List (K × V)) × (ts : Trees) × IsFilledWith eq pairs m × (t ≡ items ts) × EachMeans (PairMeans M N) pairs ts

pair_walked : {K V : Type 0} (Walks Means : K → Tree → Type 0) (Walks2 Means2 : V → Tree → Type 0) → IsWalked Walks Means → IsWalked Walks2 Means2 → IsWalked (PairMeans Walks Walks2) (PairMeans Means Means2)
pair_walked Walks Means Walks2 Means2 law law2 p t h =
    product_walked (FirstAnd (Walks p.0) (FirstAnd (Walks2 p.1) NoTrees)) (FirstAnd (Means p.0) (FirstAnd (Means2 p.1) NoTrees))
    (first_walked (Walks p.0) (Means p.0) (FirstAnd (Walks2 p.1) NoTrees) (FirstAnd (Means2 p.1) NoTrees) (law p.0) (first_walked (Walks2 p.1) (Means2 p.1) NoTrees NoTrees (law2 p.1) none_walked)) t h

pub map_walked : {K V S : Type 0} (Walks Means : K → Tree → Type 0) (Walks2 Means2 : V → Tree → Type 0) → IsWalked Walks Means → IsWalked Walks2 Means2
    → (m : HashMap K V S) (t : Tree) → MapWalks Walks Walks2 m t → MapMeans Means Means2 m t
map_walked Walks Means Walks2 Means2 law law2 m t (ts, e, each) =
    (m.entries, ts, record { moves = []; below = tt; is = refl }, e, each_walked (PairMeans Walks Walks2) (PairMeans Means Means2) (pair_walked Walks Means Walks2 Means2 law law2) m.entries ts each)

-- ---- its trees are those of a list of pairs

pair_typed : {K V : Type 0} (s z : Shape) (M : K → Tree → Type 0) (N : V → Tree → Type 0) → ((k : K) (t : Tree) → M k t → IsTreeOf s t) → ((v : V) (t : Tree) → N v t → IsTreeOf z t)
    → (p : K × V) (t : Tree) → PairMeans M N p t → IsTreeOf (tuple (s ∷ z ∷ [])) t
pair_typed s z M N one two p t (ts, e, (u, rest, is, key, (w, last, is2, value, none))) = (ts, e, (u, rest, is, one p.0 u key, (w, last, is2, two p.1 w value, none)))

pub map_typed : {K V S : Type 0} (Fit Fit2 : Instance → InterfaceType → Type 0) (M : K → Tree → Type 0) (N : V → Tree → Type 0) → IsTyped Fit M → IsTyped Fit2 N
    → (m : HashMap K V S) (i : Instance) (type : InterfaceType) (u : Tree) → IsMapOf Fit Fit2 i type → MapMeans M N m u → IsTreeOf (shape_of i.types type) u
map_typed Fit Fit2 M N law law2 m i (ty.Map x) u (key, value, d, f, g) (pairs, ts, moved, e, each) =
    let s : Shape = shape_of i.types key in
    let z : Shape = shape_of i.types value in
    subst (λ (s : Shape). IsTreeOf s u) (sym d.shape) (ts, e, each_typed (PairMeans M N) (λ w. IsTreeOf (tuple (s ∷ z ∷ [])) w) (pair_typed s z M N (λ k t h. law k i key t f h) (λ v t h. law2 v i value t g h)) pairs ts each)
map_typed Fit Fit2 M N law law2 m i _ u f h = absurd f
