-- The same of lists and of tuples.
use Rattle.std.proofs.Common.{◌≡◌, ◌+◌, ◌*◌, ◌%◌, ◌==◌, ◌++◌, ◌∙◌, List, [], ◌∷◌, ap, ap₂, eq-eqb, false, if◌then◌else◌, inl, inr, le-leb, length, refl, subst, suc, sym, zero, ℕ}
use Rattle.std.proofs.lemmas.Bool.{cond-true}
use Rattle.canon_ledger.specs.Ledger.{LedgerState}
use Rattle.canon_model.specs.Flat.{Flat, MembersFlat}
use Rattle.canon_model.specs.Layout.{align, flat, size}
use Rattle.canon_model.specs.Memory.{Inside, Memory}
use Rattle.canon_model.specs.Reach.{At, FlatFault, Kind, MemberFault, MemberFlatFault, SomeElement, StoredFault, is_inside}
use Rattle.canon_model.specs.Rep.{IsList, MembersStored, Stored}
use Rattle.canon_model.specs.Shape.{ListKind, Members, Shape, fixed, list, member, no_members, of_items, of_places, product, Name}
use Rattle.canon_model.specs.Text.{Encoding}
use Rattle.canon_model.specs.Tree.{EachAt, Tree, Trees, items, no_trees, parts, sum_of, tree, tree_count}
use Rattle.canon_types.specs.Instance.{Instance}
use Rattle.canon_types.specs.Table.{members_of, shape_of}
use Rattle.canon_types.specs.declared.types.InterfaceType.{InterfaceType}
use Rattle.canon_types.specs.declared.types.InterfaceType.TheVariants as ty
use Rattle.canon_typed.specs.Charges.{each_cost, list_cost, product_cost, row_cost}
use Rattle.canon_typed.specs.Meaning.{EachMeans, FirstAnd, ListMeans, NoTrees, ProductMeans, RowMeans}
use Rattle.canon_typed.specs.Types.{AreOf, IsFixedOf, IsListOf, IsTupleOf}
use Rattle.canon_reading.specs.OfTrees.{IsFaulted, IsFaultedAt, IsOfTrees, IsOfTreesAt, IsPriced, IsPricedAt, faulted_at, priced_at, told_at, untrue, AreSteps}
use Rattle.canon_reading.specs.Reading.{Reading, Setting}
use Rattle.canon_reading.specs.Readings.{EachFault, EachReads, ListReads, RestReading, each_reach, first_reading, fixed_reading, list_reading, none_reading, product_reading, each_steps}
use Rattle.canon_reading.specs.Spots.{Faulty, HasRoom, Represents, Rest, Spot, behind, first_spot, flat_from, flat_in, length_in, spot_members, others, pointer_in, stored, stored_from, leaves_in}
use Rattle.canon_model.specs.Leaves.{Leaf, flat_leaves, list_at, members_flat_leaves, members_reach_leaves, reach_leaves}
use Rattle.canon_resources.specs.Parts.{Part}
use Rattle.canon_reading.specs.Ways.{AreLiftedBy, lifted_if, lifted_then}

-- ---- values in a row

module _ (m : Memory) (enc : Encoding) (s : Shape) where
  abbrev pub EachIn : Spot → Trees → Type 0
  EachIn (stored a) ts = EachAt (λ b u. Stored (Inside m) false enc m s b u) (size m.wide s) a ts
  EachIn (flat_in ws i) ts = EachAt (λ j u. Flat (Inside m) false enc m ws s j u) (flat s) i ts

  abbrev pub SomeFaulty : Spot → ℕ → Kind → At → Type 0
  SomeFaulty (stored a) n k x = SomeElement (λ b j y. StoredFault enc m s b j y) (size m.wide s) a n k x
  SomeFaulty (flat_in ws i) n k x = SomeElement (λ l j y. FlatFault enc m ws s l j y) (flat s) i n k x

  each_none : (at : Spot) → EachIn at no_trees
  each_none (stored a) = tt
  each_none (flat_in ws i) = tt

  each_first : (at : Spot) (t : Tree) (ts : Trees) → Represents m enc at s t → EachIn (behind m s at) ts → EachIn at (tree t ts)
  each_first (stored a) t ts h g = (h, g)
  each_first (flat_in ws i) t ts h g = (h, g)

  first_of_each : (at : Spot) (t : Tree) (ts : Trees) → EachIn at (tree t ts) → Represents m enc at s t × EachIn (behind m s at) ts
  first_of_each (stored a) t ts h = h
  first_of_each (flat_in ws i) t ts h = h

-- the handles of n of them
abbrev pub each_leaves : Memory → Shape → Spot → ℕ → List Leaf
each_leaves m s (stored a) n = list_at (λ b. reach_leaves m s b) (size m.wide s) a n
each_leaves m s (flat_in ws i) n = list_at (λ j. flat_leaves m ws s j) (flat s) i n

each_leaves_more : (m : Memory) (s : Shape) (at : Spot) (n : ℕ) → leaves_in m at s ++ each_leaves m s (behind m s at) n ≡ each_leaves m s at (suc n)
each_leaves_more m s (stored a) n = refl
each_leaves_more m s (flat_in ws i) n = refl

each_leaves_none : (m : Memory) (s : Shape) (at : Spot) → [] ≡ each_leaves m s at 0
each_leaves_none m s (stored a) = refl
each_leaves_none m s (flat_in ws i) = refl

module _ {A : Type 0} {R : Reading A} {w : Setting} {s : Shape} where
  pub each_lifts : {Lifts : A → Tree → Type 0} → IsOfTreesAt w s R Lifts → (at : Spot) (before after : LedgerState) (xs : List A) → EachReads R w s at before xs after
      → (ts : Trees) × EachIn w.memory w.encoding s at ts × (tree_count ts ≡ length xs) × EachMeans Lifts xs ts
  each_lifts law at before after [] h = (no_trees, each_none w.memory w.encoding s at, refl, refl)
  each_lifts law at before after (x ∷ xs) (mid, first, rest) =
      let (t, rep, lifts) = law.reads at before mid x first in
      let (ts, each, count, have) = each_lifts law (behind w.memory s at) mid after xs rest in
      (tree t ts, each_first w.memory w.encoding s at t ts rep each, ap suc count, (t, ts, refl, lifts, have))

  pub each_row_walked : {Lifts : A → Tree → Type 0} → IsOfTreesAt w s R Lifts → (n : ℕ) (at : Spot) → AreLiftedBy w.types (each_leaves w.memory s at n) (each_steps R w s at n)
  each_row_walked law zero at = subst (λ ls. AreLiftedBy w.types ls []) (each_leaves_none w.memory s at) tt
  each_row_walked law (suc n) at = subst (λ ls. AreLiftedBy w.types ls (each_steps R w s at (suc n))) (each_leaves_more w.memory s at n)
      (lifted_then w.types (leaves_in w.memory at s) (each_leaves w.memory s (behind w.memory s at) n) (R.steps w at s) (each_steps R w s (behind w.memory s at) n) (law.steps at) (each_row_walked law n (behind w.memory s at)))

  pub each_priced : {price : Tree → ℕ} → IsPricedAt w s R price → (at : Spot) (ts : Trees) → EachIn w.memory w.encoding s at ts → each_reach R w s at (tree_count ts) ≡ sum_of price ts
  each_priced law at no_trees h = refl
  each_priced law at (tree t ts) h =
      let (rep, rest) = first_of_each w.memory w.encoding s at t ts h in
      ap₂ ◌+◌ (law.reach at t rep) (each_priced law (behind w.memory s at) ts rest)

  pub some_faulty : IsFaultedAt w s R → (at : Spot) (n : ℕ) (k : Kind) (x : At) → EachFault R w s at n k x → SomeFaulty w.memory w.encoding s at n k x
  some_faulty law (stored a) n k x (i, few, h) = (i, few, law.faults (stored (a + i * size w.memory.wide s)) k x h)
  some_faulty law (flat_in ws j) n k x (i, few, h) = (i, few, law.faults (flat_in ws (j + i * flat s)) k x h)

-- ---- lists

module _ (m : Memory) (enc : Encoding) (l : ListKind) (s : Shape) where
  list_represents : (at : Spot) (t : Tree) → HasRoom m at (list l s) → IsList (Inside m) false enc m (λ b u. Stored (Inside m) false enc m s b u) s (pointer_in m at) (length_in m at) t → Represents m enc at (list l s) t
  unfolding size
  list_represents (stored a) t room h = (room, h)
  list_represents (flat_in ws i) t room h = (h, λ g. untrue g)

  pub represented_list : (at : Spot) (t : Tree) → Represents m enc at (list l s) t → IsList (Inside m) false enc m (λ b u. Stored (Inside m) false enc m s b u) s (pointer_in m at) (length_in m at) t
  represented_list (stored a) t h = h.1
  represented_list (flat_in ws i) t h = h.0

-- a list or a map, by its elements
module _ {A : Type 0} (bytes : ℕ) (l : ListKind) {R : Reading A} {w : Setting} {s : Shape} where
  pub list_lifts : {Lifts : A → Tree → Type 0} → IsOfTreesAt w s R Lifts → (at : Spot) (before after : LedgerState) (xs : List A) → ListReads bytes R w at (list l s) before xs after
      → (t : Tree) × Represents w.memory w.encoding at (list l s) t × ListMeans Lifts xs t
  list_lifts law at before after xs (room, (aligned, inside), count, each) =
      let (ts, there, same, have) = each_lifts law (stored (pointer_in w.memory at)) before after xs each in (
        items ts,
        list_represents w.memory w.encoding l s at (items ts) room
            (record { trees = ts; is = refl; count = same ∙ count; aligned = aligned; inside = inside; each = there }),
        (ts, refl, have),
      )

  pub list_row_walked : {Lifts : A → Tree → Type 0} → IsOfTreesAt w s R Lifts → (at : Spot) → AreSteps w at (list l s) ((list_reading bytes R).steps w at (list l s))
  unfolding reach_leaves flat_leaves
  list_row_walked law (stored a) = lifted_if w.types _ _ _ (each_row_walked law (length_in w.memory (stored a)) (stored (pointer_in w.memory (stored a))))
  list_row_walked law (flat_in ws i) = lifted_if w.types _ _ _ (each_row_walked law (length_in w.memory (flat_in ws i)) (stored (pointer_in w.memory (flat_in ws i))))

  pub list_price : {price : Tree → ℕ} → IsPricedAt w s R price → (at : Spot) (t : Tree) → Represents w.memory w.encoding at (list l s) t → (list_reading bytes R).reach w at (list l s) ≡ list_cost bytes price t
  list_price {price} law at t rep =
      let m = w.memory in
      let p : ℕ = pointer_in m at in
      let n : ℕ = length_in m at in
      let h = represented_list m w.encoding l s at t rep in
      let all : ℕ = each_reach R w s (stored p) n in
      let outer = cond-true (is_inside m p (n * size m.wide s)) (n * bytes + (if p % align m.wide s == 0 then all else 0)) 0 (le-leb _ _ h.inside) in
      let inner = ap (λ k. n * bytes + k) (cond-true (p % align m.wide s == 0) all 0 (eq-eqb _ _ h.aligned)) in
      let counted = subst (λ k. n * bytes + each_reach R w s (stored p) n ≡ k * bytes + each_reach R w s (stored p) k) (sym h.count) refl in
      outer ∙ inner ∙ counted ∙ ap (λ k. tree_count h.trees * bytes + k) (each_priced law (stored p) h.trees h.each)
      ∙ ap (λ (u : Tree). list_cost bytes price u) (sym h.is)

  pub list_faulty : IsFaultedAt w s R → (at : Spot) (k : Kind) (x : At) → (list_reading bytes R).faults w at (list l s) k x → Faulty w.memory w.encoding at (list l s) k x
  list_faulty law (stored a) k x (inl h) = inl h
  list_faulty law (stored a) k x (inr (good, h)) = inr (good, some_faulty law (stored (pointer_in w.memory (stored a))) _ k x h)
  list_faulty law (flat_in ws i) k x (inl h) = inl h
  list_faulty law (flat_in ws i) k x (inr (good, h)) = inr (good, some_faulty law (stored (pointer_in w.memory (flat_in ws i))) _ k x h)

module _ {A : Type 0} (bytes : ℕ) {Fit : Instance → InterfaceType → Type 0} {R : Reading A} where
  module _ (law : IsFaulted Fit R) where
    list_faults : (w : Setting) (at : Spot) (type : InterfaceType) (k : Kind) (x : At) → IsListOf Fit w.types type
        → (list_reading bytes R).faults w at (shape_of w.types.types type) k x → Faulty w.memory w.encoding at (shape_of w.types.types type) k x
    list_faults w at (ty.List i) k x (element, d, f) h =
        subst (λ (z : Shape). Faulty w.memory w.encoding at z k x) (sym d.shape)
        (list_faulty bytes of_items (faulted_at w element f law) at k x (subst (λ (z : Shape). (list_reading bytes R).faults w at z k x) d.shape h))
    list_faults w at _ k x f h = absurd f

    pub list_faulted : IsFaulted (IsListOf Fit) (list_reading bytes R)
    list_faulted = record { faults = list_faults }

  module _ {price : Tree → ℕ} (law : IsPriced Fit R price) where
    list_reached : (w : Setting) (at : Spot) (type : InterfaceType) (t : Tree) → IsListOf Fit w.types type → Represents w.memory w.encoding at (shape_of w.types.types type) t
        → (list_reading bytes R).reach w at (shape_of w.types.types type) ≡ list_cost bytes price t
    list_reached w at (ty.List i) t (element, d, f) rep =
        subst (λ (z : Shape). (list_reading bytes R).reach w at z ≡ list_cost bytes price t) (sym d.shape)
        (list_price bytes of_items (priced_at w element f law) at t (subst (λ (z : Shape). Represents w.memory w.encoding at z t) d.shape rep))
    list_reached w at _ t f rep = absurd f

    pub list_priced : IsPriced (IsListOf Fit) (list_reading bytes R) (list_cost bytes price)
    list_priced = record { reach = list_reached }

  module _ {Lifts : A → Tree → Type 0} (law : IsOfTrees Fit R Lifts) where
    list_reads : (w : Setting) (at : Spot) (type : InterfaceType) (before after : LedgerState) (xs : List A) → IsListOf Fit w.types type → (list_reading bytes R).reads w at (shape_of w.types.types type) before xs after
        → (t : Tree) × Represents w.memory w.encoding at (shape_of w.types.types type) t × ListMeans Lifts xs t
    list_reads w at (ty.List i) before after xs (element, d, f) h =
        subst (λ (z : Shape). (t : Tree) × Represents w.memory w.encoding at z t × ListMeans Lifts xs t) (sym d.shape)
        (list_lifts bytes of_items (told_at w element f law) at before after xs (subst (λ (z : Shape). (list_reading bytes R).reads w at z before xs after) d.shape h))
    list_reads w at _ before after xs f h = absurd f

    list_steps_are : (w : Setting) (at : Spot) (type : InterfaceType) → IsListOf Fit w.types type → AreSteps w at (shape_of w.types.types type) ((list_reading bytes R).steps w at (shape_of w.types.types type))
    list_steps_are w at (ty.List i) (element, d, f) =
        subst (λ (z : Shape). AreSteps w at z ((list_reading bytes R).steps w at z)) (sym d.shape) (list_row_walked bytes of_items (told_at w element f law) at)
    list_steps_are w at _ f = absurd f

    pub list_told : IsOfTrees (IsListOf Fit) (list_reading bytes R) (ListMeans Lifts)
    list_told = record { reads = list_reads; steps = list_steps_are }

-- ---- lists of fixed length

module _ (m : Memory) (enc : Encoding) (n : ℕ) (s : Shape) where
  row_represents : (at : Spot) (ts : Trees) → HasRoom m at (fixed n s) → tree_count ts ≡ n → EachIn m enc s at ts → Represents m enc at (fixed n s) (parts ts)
  unfolding size
  row_represents (stored a) ts room count h = (room, record { trees = ts; is = refl; count = count; each = h })
  row_represents (flat_in ws i) ts room count h = record { trees = ts; is = refl; count = count; each = h }

  represented_row : (at : Spot) (t : Tree) → Represents m enc at (fixed n s) t → (ts : Trees) × (t ≡ parts ts) × (tree_count ts ≡ n) × EachIn m enc s at ts
  represented_row (stored a) t h = let r = h.1 in (r.trees, r.is, r.count, r.each)
  represented_row (flat_in ws i) t h = (h.trees, h.is, h.count, h.each)

  row_faulty : (at : Spot) (k : Kind) (x : At) → SomeFaulty m enc s at n k x → Faulty m enc at (fixed n s) k x
  row_faulty (stored a) k x h = h
  row_faulty (flat_in ws i) k x h = h

row_leaves : (m : Memory) (n : ℕ) (s : Shape) (at : Spot) → each_leaves m s at n ≡ leaves_in m at (fixed n s)
unfolding reach_leaves flat_leaves
row_leaves m n s (stored a) = refl
row_leaves m n s (flat_in ws i) = refl

module _ {A : Type 0} (n : ℕ) {Fit : Instance → InterfaceType → Type 0} {R : Reading A} where
  module _ (law : IsFaulted Fit R) where
    fixed_faults : (w : Setting) (at : Spot) (type : InterfaceType) (k : Kind) (x : At) → IsFixedOf n Fit w.types type
        → (fixed_reading n R).faults w at (shape_of w.types.types type) k x → Faulty w.memory w.encoding at (shape_of w.types.types type) k x
    fixed_faults w at (ty.FixedLengthList i) k x (some, (element, d, f)) h =
        let s : Shape = shape_of w.types.types element in
        subst (λ (z : Shape). Faulty w.memory w.encoding at z k x) (sym d.shape)
        (row_faulty w.memory w.encoding n s at k x (some_faulty (faulted_at w element f law) at n k x (subst (λ (z : Shape). (fixed_reading n R).faults w at z k x) d.shape h)))
    fixed_faults w at _ k x f h = absurd f

    pub fixed_faulted : IsFaulted (IsFixedOf n Fit) (fixed_reading n R)
    fixed_faulted = record { faults = fixed_faults }

  module _ {price : Tree → ℕ} (law : IsPriced Fit R price) where
    fixed_reached : (w : Setting) (at : Spot) (type : InterfaceType) (t : Tree) → IsFixedOf n Fit w.types type → Represents w.memory w.encoding at (shape_of w.types.types type) t
        → (fixed_reading n R).reach w at (shape_of w.types.types type) ≡ row_cost price t
    fixed_reached w at (ty.FixedLengthList i) t (some, (element, d, f)) rep =
        let s : Shape = shape_of w.types.types element in
        let (ts, is, count, each) = represented_row w.memory w.encoding n s at t (subst (λ (z : Shape). Represents w.memory w.encoding at z t) d.shape rep) in
        subst (λ (z : Shape). (fixed_reading n R).reach w at z ≡ row_cost price t) (sym d.shape)
        (ap (λ k. each_reach R w s at k) (sym count) ∙ each_priced (priced_at w element f law) at ts each ∙ ap (λ (u : Tree). row_cost price u) (sym is))
    fixed_reached w at _ t f rep = absurd f

    pub fixed_priced : IsPriced (IsFixedOf n Fit) (fixed_reading n R) (row_cost price)
    fixed_priced = record { reach = fixed_reached }

  module _ {Lifts : A → Tree → Type 0} (law : IsOfTrees Fit R Lifts) where
    fixed_reads : (w : Setting) (at : Spot) (type : InterfaceType) (before after : LedgerState) (xs : List A) → IsFixedOf n Fit w.types type → (fixed_reading n R).reads w at (shape_of w.types.types type) before xs after
        → (t : Tree) × Represents w.memory w.encoding at (shape_of w.types.types type) t × RowMeans Lifts xs t
    fixed_reads w at (ty.FixedLengthList i) before after xs (some, (element, d, f)) h =
        let s : Shape = shape_of w.types.types element in
        let (room, count, each) = subst (λ (z : Shape). (fixed_reading n R).reads w at z before xs after) d.shape h in
        let (ts, there, same, have) = each_lifts (told_at w element f law) at before after xs each in
        subst (λ (z : Shape). (t : Tree) × Represents w.memory w.encoding at z t × RowMeans Lifts xs t) (sym d.shape)
        (parts ts, row_represents w.memory w.encoding n s at ts room (same ∙ count) there, (ts, refl, have))
    fixed_reads w at _ before after xs f h = absurd f

    fixed_steps : (w : Setting) (at : Spot) (type : InterfaceType) → IsFixedOf n Fit w.types type → AreSteps w at (shape_of w.types.types type) ((fixed_reading n R).steps w at (shape_of w.types.types type))
    fixed_steps w at (ty.FixedLengthList i) (some, (element, d, f)) =
        subst (λ (z : Shape). AreSteps w at z ((fixed_reading n R).steps w at z)) (sym d.shape)
        (subst (λ ls. AreLiftedBy w.types ls (each_steps R w (shape_of w.types.types element) at n)) (row_leaves w.memory n (shape_of w.types.types element) at) (each_row_walked (told_at w element f law) n at))
    fixed_steps w at _ f = absurd f

    pub fixed_told : IsOfTrees (IsFixedOf n Fit) (fixed_reading n R) (RowMeans Lifts)
    fixed_told = record { reads = fixed_reads; steps = fixed_steps }

-- ---- tuples, a member at a time

module _ (m : Memory) (enc : Encoding) where
  abbrev MembersIn : Rest → Members → Trees → Type 0
  MembersIn (stored_from a o) ms ts = MembersStored (Inside m) false enc m ms o a ts
  MembersIn (flat_from ws i) ms ts = MembersFlat (Inside m) false enc m ws ms i ts

  abbrev MembersFaulty : Rest → Members → Kind → At → Type 0
  MembersFaulty (stored_from a o) ms k x = MemberFault enc m ms o a k x
  MembersFaulty (flat_from ws i) ms k x = MemberFlatFault enc m ws ms i k x

-- the handles of members
abbrev members_leaves_in : Memory → Rest → Members → List Leaf
members_leaves_in m (stored_from a o) ms = members_reach_leaves m ms o a
members_leaves_in m (flat_from ws i) ms = members_flat_leaves m ws ms i

abbrev MembersSteps : Setting → Rest → Members → List (List Part) → Type 0
MembersSteps w at ms ps = AreLiftedBy w.types (members_leaves_in w.memory at ms) ps

no_members_steps : (w : Setting) (at : Rest) → MembersSteps w at no_members []
unfolding reach_leaves flat_leaves
no_members_steps w (stored_from a o) = tt
no_members_steps w (flat_from ws i) = tt

more_leaves : (m : Memory) (at : Rest) (name : Name) (s : Shape) (ms : Members) → leaves_in m (first_spot m s at) s ++ members_leaves_in m (others m s at) ms ≡ members_leaves_in m at (member name s ms)
unfolding reach_leaves flat_leaves
more_leaves m (stored_from a o) name s ms = refl
more_leaves m (flat_from ws i) name s ms = refl

-- Over each row of types that fit, one after the other.
pub record AreFaulted {A : Type 0} (all : List (Instance → InterfaceType → Type 0)) (S : RestReading A) : Type 0 where
  pub faults : (w : Setting) (at : Rest) (types : List InterfaceType) (k : Kind) (x : At) → AreOf all w.types types → S.faults w at (members_of w.types.types types) k x
      → MembersFaulty w.memory w.encoding at (members_of w.types.types types) k x

pub record ArePriced {A : Type 0} (all : List (Instance → InterfaceType → Type 0)) (S : RestReading A) (prices : List (Tree → ℕ)) : Type 0 where
  pub reach : (w : Setting) (at : Rest) (types : List InterfaceType) (ts : Trees) → AreOf all w.types types
      → MembersIn w.memory w.encoding at (members_of w.types.types types) ts → S.reach w at (members_of w.types.types types) ≡ each_cost prices ts

pub record AreOfTrees {A : Type 0} (all : List (Instance → InterfaceType → Type 0)) (S : RestReading A) (Have : A → Trees → Type 0) : Type 0 where
  pub reads : (w : Setting) (at : Rest) (types : List InterfaceType) (before after : LedgerState) (v : A) → AreOf all w.types types → S.reads w at (members_of w.types.types types) before v after
      → (ts : Trees) × MembersIn w.memory w.encoding at (members_of w.types.types types) ts × Have v ts
  pub steps : (w : Setting) (at : Rest) (types : List InterfaceType) → AreOf all w.types types → MembersSteps w at (members_of w.types.types types) (S.steps w at (members_of w.types.types types))

end_reads : {A : Type 0} (w : Setting) (at : Rest) (types : List InterfaceType) (before after : LedgerState) (v : A) → AreOf [] w.types types → (none_reading {A = A}).reads w at (members_of w.types.types types) before v after
    → (ts : Trees) × MembersIn w.memory w.encoding at (members_of w.types.types types) ts × NoTrees ts
end_reads w (stored_from a o) [] before after v f h = (no_trees, refl, refl)
end_reads w (flat_from ws i) [] before after v f h = (no_trees, refl, refl)
end_reads w at (type ∷ types) before after v f h = absurd f

end_steps : (w : Setting) (at : Rest) (types : List InterfaceType) → AreOf [] w.types types → MembersSteps w at (members_of w.types.types types) []
end_steps w at [] f = no_members_steps w at
end_steps w at (type ∷ types) f = absurd f

pub end_faulted : {A : Type 0} → AreFaulted [] (none_reading {A = A})
end_faulted = record { faults = λ w at types k x f h. absurd h }

pub end_priced : {A : Type 0} → ArePriced [] (none_reading {A = A}) []
end_priced = record { reach = λ w at types ts f h. refl }

pub end_told : {A : Type 0} → AreOfTrees [] (none_reading {A = A}) (λ v. NoTrees)
end_told = record { reads = end_reads; steps = end_steps }

module _ {A B C : Type 0} (first : C → A) (others_of : C → B) {Fit : Instance → InterfaceType → Type 0} {R : Reading A} {rest : List (Instance → InterfaceType → Type 0)} {S : RestReading B} where
  module _ (law : IsFaulted Fit R) (more : AreFaulted rest S) where
    more_faults : (w : Setting) (at : Rest) (types : List InterfaceType) (k : Kind) (x : At) → AreOf (Fit ∷ rest) w.types types → (first_reading first others_of R S).faults w at (members_of w.types.types types) k x
        → MembersFaulty w.memory w.encoding at (members_of w.types.types types) k x
    more_faults w at [] k x f h = absurd f
    more_faults w (stored_from a o) (type ∷ types) k x (f, fs) (inl h) = inl (law.faults w _ type k x f h)
    more_faults w (stored_from a o) (type ∷ types) k x (f, fs) (inr h) = inr (more.faults w _ types k x fs h)
    more_faults w (flat_from ws i) (type ∷ types) k x (f, fs) (inl h) = inl (law.faults w _ type k x f h)
    more_faults w (flat_from ws i) (type ∷ types) k x (f, fs) (inr h) = inr (more.faults w _ types k x fs h)

  module _ {price : Tree → ℕ} {prices : List (Tree → ℕ)} (law : IsPriced Fit R price) (more : ArePriced rest S prices) where
    more_reached : (w : Setting) (at : Rest) (types : List InterfaceType) (ts : Trees) → AreOf (Fit ∷ rest) w.types types → MembersIn w.memory w.encoding at (members_of w.types.types types) ts
        → (first_reading first others_of R S).reach w at (members_of w.types.types types) ≡ each_cost (price ∷ prices) ts
    more_reached w at [] ts f h = absurd f
    more_reached w (stored_from a o) (type ∷ types) ts (f, fs) (t, us, is, rep, reps) =
        ap₂ ◌+◌ (law.reach w _ type t f rep) (more.reach w _ types us fs reps) ∙ ap (λ zs. each_cost (price ∷ prices) zs) (sym is)
    more_reached w (flat_from ws i) (type ∷ types) ts (f, fs) (t, us, is, rep, reps) =
        ap₂ ◌+◌ (law.reach w _ type t f rep) (more.reach w _ types us fs reps) ∙ ap (λ zs. each_cost (price ∷ prices) zs) (sym is)

  module _ {Lifts : A → Tree → Type 0} {Have : B → Trees → Type 0} (law : IsOfTrees Fit R Lifts) (more : AreOfTrees rest S Have) where
    more_reads : (w : Setting) (at : Rest) (types : List InterfaceType) (before after : LedgerState) (v : C) → AreOf (Fit ∷ rest) w.types types → (first_reading first others_of R S).reads w at (members_of w.types.types types) before v after
        → (ts : Trees) × MembersIn w.memory w.encoding at (members_of w.types.types types) ts × FirstAnd (Lifts (first v)) (Have (others_of v)) ts
    more_reads w at [] before after v f h = absurd f
    more_reads w (stored_from a o) (type ∷ types) before after v (f, fs) (mid, h, hs) =
        let s : Shape = shape_of w.types.types type in
        let (t, rep, lifts) = law.reads w (first_spot w.memory s (stored_from a o)) type before mid (first v) f h in
        let (ts, reps, have) = more.reads w (others w.memory s (stored_from a o)) types mid after (others_of v) fs hs in
        (tree t ts, (t, ts, refl, rep, reps), (t, ts, refl, lifts, have))
    more_reads w (flat_from ws i) (type ∷ types) before after v (f, fs) (mid, h, hs) =
        let s : Shape = shape_of w.types.types type in
        let (t, rep, lifts) = law.reads w (first_spot w.memory s (flat_from ws i)) type before mid (first v) f h in
        let (ts, reps, have) = more.reads w (others w.memory s (flat_from ws i)) types mid after (others_of v) fs hs in
        (tree t ts, (t, ts, refl, rep, reps), (t, ts, refl, lifts, have))

    more_steps : (w : Setting) (at : Rest) (types : List InterfaceType) → AreOf (Fit ∷ rest) w.types types
        → MembersSteps w at (members_of w.types.types types) ((first_reading first others_of R S).steps w at (members_of w.types.types types))
    more_steps w at [] f = absurd f
    more_steps w at (type ∷ types) (f, fs) =
        let s : Shape = shape_of w.types.types type in
        let ms : Members = members_of w.types.types types in
        let m : Memory = w.memory in
        subst (λ ls. AreLiftedBy w.types ls ((first_reading first others_of R S).steps w at (members_of w.types.types (type ∷ types)))) (more_leaves m at [] s ms)
        (lifted_then w.types (leaves_in m (first_spot m s at) s) (members_leaves_in m (others m s at) ms) _ _ (law.steps w (first_spot m s at) type f) (more.steps w (others m s at) types fs))

module _ {A B C : Type 0} {first : C → A} {others_of : C → B} {Fit : Instance → InterfaceType → Type 0} {R : Reading A} {rest : List (Instance → InterfaceType → Type 0)} {S : RestReading B} where
  pub more_faulted : IsFaulted Fit R → AreFaulted rest S → AreFaulted (Fit ∷ rest) (first_reading first others_of R S)
  more_faulted law more = record { faults = more_faults first others_of law more }

  pub more_priced : {price : Tree → ℕ} {prices : List (Tree → ℕ)} → IsPriced Fit R price → ArePriced rest S prices → ArePriced (Fit ∷ rest) (first_reading first others_of R S) (price ∷ prices)
  more_priced law more = record { reach = more_reached first others_of law more }

  pub more_told : {Lifts : A → Tree → Type 0} {Have : B → Trees → Type 0} → IsOfTrees Fit R Lifts → AreOfTrees rest S Have
      → AreOfTrees (Fit ∷ rest) (first_reading first others_of R S) (λ v. FirstAnd (Lifts (first v)) (Have (others_of v)))
  more_told law more = record { reads = more_reads first others_of law more; steps = more_steps first others_of law more }

module _ (m : Memory) (enc : Encoding) (ms : Members) where
  product_represents : (at : Spot) (ts : Trees) → HasRoom m at (product of_places ms) → MembersIn m enc (spot_members at) ms ts → Represents m enc at (product of_places ms) (parts ts)
  product_represents (stored a) ts room h = (room, (ts, refl, h))
  product_represents (flat_in ws i) ts room h = (ts, refl, h)

  represented_product : (at : Spot) (t : Tree) → Represents m enc at (product of_places ms) t → (ts : Trees) × (t ≡ parts ts) × MembersIn m enc (spot_members at) ms ts
  represented_product (stored a) t h = h.1
  represented_product (flat_in ws i) t h = h

  product_faulty : (at : Spot) (k : Kind) (x : At) → MembersFaulty m enc (spot_members at) ms k x → Faulty m enc at (product of_places ms) k x
  product_faulty (stored a) k x h = h
  product_faulty (flat_in ws i) k x h = h

product_leaves : (m : Memory) (ms : Members) (at : Spot) → members_leaves_in m (spot_members at) ms ≡ leaves_in m at (product of_places ms)
unfolding reach_leaves flat_leaves
product_leaves m ms (stored a) = refl
product_leaves m ms (flat_in ws i) = refl

module _ {A B : Type 0} (f : B → A) {all : List (Instance → InterfaceType → Type 0)} {S : RestReading A} where
  module _ (law : AreFaulted all S) where
    tuple_faults : (w : Setting) (at : Spot) (type : InterfaceType) (k : Kind) (x : At) → IsTupleOf all w.types type
        → (product_reading f S).faults w at (shape_of w.types.types type) k x → Faulty w.memory w.encoding at (shape_of w.types.types type) k x
    tuple_faults w at (ty.Tuple i) k x (types, d, fits) h =
        subst (λ (z : Shape). Faulty w.memory w.encoding at z k x) (sym d.shape)
        (product_faulty w.memory w.encoding (members_of w.types.types types) at k x (law.faults w (spot_members at) types k x fits (subst (λ (z : Shape). (product_reading f S).faults w at z k x) d.shape h)))
    tuple_faults w at _ k x fits h = absurd fits

    pub tuple_faulted : IsFaulted (IsTupleOf all) (product_reading f S)
    tuple_faulted = record { faults = tuple_faults }

  module _ {prices : List (Tree → ℕ)} (law : ArePriced all S prices) where
    tuple_reached : (w : Setting) (at : Spot) (type : InterfaceType) (t : Tree) → IsTupleOf all w.types type → Represents w.memory w.encoding at (shape_of w.types.types type) t
        → (product_reading f S).reach w at (shape_of w.types.types type) ≡ product_cost prices t
    tuple_reached w at (ty.Tuple i) t (types, d, fits) rep =
        let (ts, is, reps) = represented_product w.memory w.encoding (members_of w.types.types types) at t (subst (λ (z : Shape). Represents w.memory w.encoding at z t) d.shape rep) in
        subst (λ (z : Shape). (product_reading f S).reach w at z ≡ product_cost prices t) (sym d.shape)
        (law.reach w (spot_members at) types ts fits reps ∙ ap (λ (u : Tree). product_cost prices u) (sym is))
    tuple_reached w at _ t fits rep = absurd fits

    pub tuple_priced : IsPriced (IsTupleOf all) (product_reading f S) (product_cost prices)
    tuple_priced = record { reach = tuple_reached }

  module _ {Have : A → Trees → Type 0} (law : AreOfTrees all S Have) where
    tuple_reads : (w : Setting) (at : Spot) (type : InterfaceType) (before after : LedgerState) (v : B) → IsTupleOf all w.types type → (product_reading f S).reads w at (shape_of w.types.types type) before v after
        → (t : Tree) × Represents w.memory w.encoding at (shape_of w.types.types type) t × ProductMeans (Have (f v)) t
    tuple_reads w at (ty.Tuple i) before after v (types, d, fits) h =
        let (room, each) = subst (λ (z : Shape). (product_reading f S).reads w at z before v after) d.shape h in
        let (ts, reps, have) = law.reads w (spot_members at) types before after (f v) fits each in
        subst (λ (z : Shape). (t : Tree) × Represents w.memory w.encoding at z t × ProductMeans (Have (f v)) t) (sym d.shape)
        (parts ts, product_represents w.memory w.encoding (members_of w.types.types types) at ts room reps, (ts, refl, have))
    tuple_reads w at _ before after v fits h = absurd fits

    tuple_steps : (w : Setting) (at : Spot) (type : InterfaceType) → IsTupleOf all w.types type → AreSteps w at (shape_of w.types.types type) ((product_reading f S).steps w at (shape_of w.types.types type))
    tuple_steps w at (ty.Tuple i) (types, d, fits) =
        subst (λ (z : Shape). AreSteps w at z ((product_reading f S).steps w at z)) (sym d.shape)
        (subst (λ ls. AreLiftedBy w.types ls (S.steps w (spot_members at) (members_of w.types.types types))) (product_leaves w.memory (members_of w.types.types types) at) (law.steps w (spot_members at) types fits))
    tuple_steps w at _ fits = absurd fits

    pub tuple_told : IsOfTrees (IsTupleOf all) (product_reading f S) (λ v. ProductMeans (Have (f v)))
    tuple_told = record { reads = tuple_reads; steps = tuple_steps }
