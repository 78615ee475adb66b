-- Values that have trees: what is read is represented, the charges are the tree's, and a fault is one of the representation.
use Rattle.std.proofs.Common.{◌≡◌, ◌≤◌, ◌+◌, ◌&&◌, ◌==◌, ◌∙◌, Bool, Err, IsTrue, List, None, Ok, Option, Result, Some, [], ap, cond, if◌then◌else◌, false, inl, inr, refl, subst, suc, sym, true, zero, ℕ}
use Rattle.std.specs.Bool.{⊤}
use Rattle.std.proofs.lemmas.Bool.{cond-false, ne_eqb}
use Rattle.canon_resources.specs.Parts.{Part}
use Rattle.canon_ledger.specs.Ledger.{LedgerState}
use Rattle.canon_model.proofs.Reached.{reach_is_the_cost}
use Rattle.canon_model.specs.Cost.{cost}
use Rattle.canon_model.specs.Flat.{CaseFlat}
use Rattle.canon_model.specs.Layout.{cases_flat, payload_offset, payload_shape}
use Rattle.canon_model.specs.Leaves.{Leaf, case_flat_leaves, case_reach_leaves, flat_leaves, reach_leaves}
use Rattle.canon_model.specs.Memory.{Inside, Memory}
use Rattle.canon_model.specs.Reach.{At, CaseFault, CaseFlatFault, IsFault, Kind, no_case, reach_cost, flat_reach}
use Rattle.canon_model.specs.Rep.{CaseStored}
use Rattle.canon_model.specs.Shape.{Cases, Name, Shape, VariantKind, bare, case_count, case_for, no_cases, of_option, of_result, option_of, payload, string, variant, Scalar, scalar}
use Rattle.canon_model.specs.Text.{Encoding}
use Rattle.canon_model.specs.Tree.{Tree, case, case_of, text_length}
use Rattle.canon_types.specs.Instance.{Instance}
use Rattle.canon_types.specs.Table.{all_shapes, payload_in, shape_of}
use Rattle.canon_types.specs.declared.types.InterfaceType.{InterfaceType}
use Rattle.canon_types.specs.declared.types.InterfaceType.TheVariants as ty
use Rattle.canon_typed.specs.Charges.{free, option_cost, result_cost}
use Rattle.canon_typed.specs.Meaning.{CaseMeans, OptionMeans, ResultMeans}
use Rattle.canon_typed.specs.Scalars.{IsOfScalar}
use Rattle.canon_typed.specs.Types.{IsOptionOf, IsPayloadOf, IsResultOf}
use Rattle.canon_reading.specs.Reading.{Reading, Setting}
use Rattle.canon_reading.specs.Readings.{CasesFault, OptionReads, ResultReads, boxed_reading, cases_reach, nothing_reading, option_reading, payload_reading}
use Rattle.canon_reading.specs.Readings.{read_as, result_reading, scalar_reading, text_charge, tree_reading, TreeReads, text_reading, cases_steps}
use Rattle.canon_reading.specs.Spots.{Faulty, HasRoom, Represents, Spot, at_of, flat_in, payload_spot, stored, tag_in, leaves_in}
use Rattle.std.proofs.Math.Nat.{suc-ne-zero, suc_inj}
use Rattle.canon_reading.specs.Ways.{AreLiftedBy}

-- Over each type that fits: a fault of what is read is one of a place that the tree walk of the type's shape reaches. A text or a list
-- that stays in memory has those of its pointer alone.
pub record IsFaulted {A : Type 0} (Fit : Instance → InterfaceType → Type 0) (R : Reading A) : Type 0 where
  pub faults : (w : Setting) (at : Spot) (type : InterfaceType) (k : Kind) (x : At) → Fit w.types type → R.faults w at (shape_of w.types.types type) k x → Faulty w.memory w.encoding at (shape_of w.types.types type) k x

-- The charges are the price of the tree that stands there.
pub record IsPriced {A : Type 0} (Fit : Instance → InterfaceType → Type 0) (R : Reading A) (price : Tree → ℕ) : Type 0 where
  pub reach : (w : Setting) (at : Spot) (type : InterfaceType) (t : Tree) → Fit w.types type → Represents w.memory w.encoding at (shape_of w.types.types type) t → R.reach w at (shape_of w.types.types type) ≡ price t

-- these are the steps of the handles at the reached places, in order
abbrev pub AreSteps : Setting → Spot → Shape → List (List Part) → Type 0
AreSteps w at s ps = AreLiftedBy w.types (leaves_in w.memory at s) ps

-- A value that is read is one of a tree that stands there, and its handles are those at the reached places.
pub record IsOfTrees {A : Type 0} (Fit : Instance → InterfaceType → Type 0) (R : Reading A) (Lifts : A → Tree → Type 0) : Type 0 where
  pub reads : (w : Setting) (at : Spot) (type : InterfaceType) (before after : LedgerState) (v : A) → Fit w.types type → R.reads w at (shape_of w.types.types type) before v after
      → (t : Tree) × Represents w.memory w.encoding at (shape_of w.types.types type) t × Lifts v t
  pub steps : (w : Setting) (at : Spot) (type : InterfaceType) → Fit w.types type → AreSteps w at (shape_of w.types.types type) (R.steps w at (shape_of w.types.types type))

-- The same over one shape.
pub record IsFaultedAt {A : Type 0} (w : Setting) (s : Shape) (R : Reading A) : Type 0 where
  pub faults : (at : Spot) (k : Kind) (x : At) → R.faults w at s k x → Faulty w.memory w.encoding at s k x

pub record IsPricedAt {A : Type 0} (w : Setting) (s : Shape) (R : Reading A) (price : Tree → ℕ) : Type 0 where
  pub reach : (at : Spot) (t : Tree) → Represents w.memory w.encoding at s t → R.reach w at s ≡ price t

pub record IsOfTreesAt {A : Type 0} (w : Setting) (s : Shape) (R : Reading A) (Lifts : A → Tree → Type 0) : Type 0 where
  pub reads : (at : Spot) (before after : LedgerState) (v : A) → R.reads w at s before v after → (t : Tree) × Represents w.memory w.encoding at s t × Lifts v t
  pub steps : (at : Spot) → AreSteps w at s (R.steps w at s)

module _ {A : Type 0} {Fit : Instance → InterfaceType → Type 0} {R : Reading A} (w : Setting) (type : InterfaceType) (f : Fit w.types type) where
  pub faulted_at : IsFaulted Fit R → IsFaultedAt w (shape_of w.types.types type) R
  faulted_at law = record { faults = λ at k x h. law.faults w at type k x f h }

  pub priced_at : {price : Tree → ℕ} → IsPriced Fit R price → IsPricedAt w (shape_of w.types.types type) R price
  priced_at law = record { reach = λ at t rep. law.reach w at type t f rep }

  pub told_at : {Lifts : A → Tree → Type 0} → IsOfTrees Fit R Lifts → IsOfTreesAt w (shape_of w.types.types type) R Lifts
  told_at law = record { reads = λ at before after v h. law.reads w at type before after v f h; steps = λ at. law.steps w at type f }

-- nothing is said of a value that has no tree
pub untrue : {A : Type 0} → IsTrue false → A
untrue h = absurd (subst (λ b. elim b as (λ x. Type 0) [ true ↦ ⊥ | false ↦ ⊤ ]) h tt)

pub left_true : (a b : Bool) → IsTrue (a && b) → IsTrue a
left_true true b h = refl
left_true false b h = h

pub right_true : (a b : Bool) → IsTrue (a && b) → IsTrue b
right_true true b h = h
right_true false b h = untrue h

-- ---- scalars and texts

pub tree_faulted : {A : Type 0} {Fit : Instance → InterfaceType → Type 0} {Lifts : A → Tree → Type 0} {charge : Setting → Spot → ℕ} {allocates : Bool} → IsFaulted Fit (tree_reading Lifts charge allocates)
tree_faulted = record { faults = λ w at type k x f h. h }

tree_reads : {A : Type 0} (Lifts : A → Tree → Type 0) (w : Setting) (at : Spot) (s : Shape) (before after : LedgerState) (v : A) → TreeReads Lifts w at s before v after → (t : Tree) × Represents w.memory w.encoding at s t × Lifts v t
tree_reads Lifts w at s before after v (t, rep, lifts, same) = (t, rep, lifts)

no_handle : (w : Setting) (at : Spot) (k : Scalar) → AreSteps w at (scalar k) []
unfolding reach_leaves flat_leaves
no_handle w (stored a) k = tt
no_handle w (flat_in ws i) k = tt

no_handle_in_text : (w : Setting) (at : Spot) → AreSteps w at string []
unfolding reach_leaves flat_leaves
no_handle_in_text w (stored a) = tt
no_handle_in_text w (flat_in ws i) = tt

-- of types whose shape is the scalar's
module _ {A : Type 0} {Fit : Instance → InterfaceType → Type 0} (k : Scalar) (shape : IsOfScalar k Fit) {Lifts : A → Tree → Type 0} where
  pub scalar_told : IsOfTrees Fit (scalar_reading Lifts) Lifts
  scalar_told = record {
    reads = λ w at u before after v f h. tree_reads Lifts w at _ before after v h;
    steps = λ w at u f. subst (λ (s : Shape). AreSteps w at s []) (sym (shape w.types u f)) (no_handle w at k);
  }

pub scalar_priced : {A : Type 0} {Fit : Instance → InterfaceType → Type 0} {Lifts : A → Tree → Type 0} (cost : Tree → ℕ) → cost ≡ free → IsPriced Fit (scalar_reading Lifts) cost
scalar_priced cost is = record { reach = λ w at type t f rep. sym (ap (λ (c : Tree → ℕ). c t) is) }

pub text_price : (w : Setting) (at : Spot) (t : Tree) → Represents w.memory w.encoding at string t → text_charge w at ≡ text_length t
unfolding reach_cost flat_reach cost
text_price w (stored a) t rep = reach_is_the_cost.memory false w.encoding w.memory a string t rep
text_price w (flat_in ws i) t rep = reach_is_the_cost.flat false w.encoding w.memory ws i string t rep

-- of whatever is charged as a text
pub text_priced : {A : Type 0} {R : Reading A} → ((w : Setting) (at : Spot) (s : Shape) → R.reach w at s ≡ text_charge w at) → IsPriced (λ i t. t ≡ ty.String) R text_length
text_priced is = record {
  reach = λ w at type t f rep. is w at _ ∙ text_price w at t (subst (λ x. Represents w.memory w.encoding at (shape_of w.types.types x) t) f rep);
}

pub text_told : {A : Type 0} {Lifts : A → Tree → Type 0} → IsOfTrees (λ i t. t ≡ ty.String) (text_reading Lifts) Lifts
text_told {A} {Lifts} = record {
  reads = λ w at u before after v f h. tree_reads Lifts w at _ before after v h;
  steps = λ w at u f. subst (λ x. AreSteps w at (shape_of w.types.types x) []) (sym f) (no_handle_in_text w at);
}

-- the same value in another Rust type
module _ {A B : Type 0} {Fit : Instance → InterfaceType → Type 0} (f : B → A) {R : Reading A} where
  pub as_faulted : IsFaulted Fit R → IsFaulted Fit (read_as f R)
  as_faulted law = record { faults = law.faults }

  pub as_priced : {price : Tree → ℕ} → IsPriced Fit R price → IsPriced Fit (read_as f R) price
  as_priced law = record { reach = law.reach }

  pub as_told : {Lifts : A → Tree → Type 0} → IsOfTrees Fit R Lifts → IsOfTrees Fit (read_as f R) (λ v. Lifts (f v))
  as_told law = record { reads = λ w at type before after v. law.reads w at type before after (f v); steps = law.steps }

  pub boxed_faulted : IsFaulted Fit R → IsFaulted Fit (boxed_reading f R)
  boxed_faulted law = record { faults = law.faults }

  pub boxed_priced : {price : Tree → ℕ} → IsPriced Fit R price → IsPriced Fit (boxed_reading f R) price
  boxed_priced law = record { reach = law.reach }

  pub boxed_told : {Lifts : A → Tree → Type 0} → IsOfTrees Fit R Lifts → IsOfTrees Fit (boxed_reading f R) (λ v. Lifts (f v))
  boxed_told law = record { reads = λ w at type before after v. law.reads w at type before after (f v); steps = law.steps }

-- ---- cases

-- case i of these is case d of a variant, whose payload stands here
module _ (m : Memory) (enc : Encoding) (e : ℕ) where
  abbrev CaseIn : Spot → Cases → ℕ → ℕ → Tree → Type 0
  CaseIn (stored a) cs i d t = CaseStored (Inside m) false enc m cs i d a t
  CaseIn (flat_in ws j) cs i d t = CaseFlat (Inside m) false enc m ws cs i d j e t

  abbrev CaseFaulty : Spot → Cases → ℕ → Kind → At → Type 0
  CaseFaulty (stored a) cs i k x = CaseFault enc m cs i a k x
  CaseFaulty (flat_in ws j) cs i k x = CaseFlatFault enc m ws cs i j k x

  bare_in : (at : Spot) (name : Name) (cs : Cases) (d : ℕ) → CaseIn at (bare name cs) 0 d (case d)
  bare_in (stored a) name cs d = refl
  bare_in (flat_in ws j) name cs d = (refl, λ h. untrue h)

  payload_there : (at : Spot) (name : Name) (s : Shape) (cs : Cases) (d : ℕ) (u : Tree) → Represents m enc at s u → CaseIn at (payload name s cs) 0 d (case_of d u)
  payload_there (stored a) name s cs d u h = (u, refl, h)
  payload_there (flat_in ws j) name s cs d u h = (u, refl, h, λ g. untrue g)

  behind_first : (at : Spot) (o : Option Shape) (cs : Cases) (d : ℕ) (t : Tree) → CaseIn at cs 0 d t → CaseIn at (case_for o cs) 1 d t
  behind_first (stored a) None cs d t h = h
  behind_first (stored a) (Some s) cs d t h = h
  behind_first (flat_in ws j) None cs d t h = h
  behind_first (flat_in ws j) (Some s) cs d t h = h

  fault_here : (at : Spot) (name : Name) (s : Shape) (cs : Cases) (k : Kind) (x : At) → Faulty m enc at s k x → CaseFaulty at (payload name s cs) 0 k x
  fault_here (stored a) name s cs k x f = f
  fault_here (flat_in ws j) name s cs k x f = f

  fault_behind : (at : Spot) (o : Option Shape) (cs : Cases) (k : Kind) (x : At) → CaseFaulty at cs 0 k x → CaseFaulty at (case_for o cs) 1 k x
  fault_behind (stored a) None cs k x f = f
  fault_behind (stored a) (Some s) cs k x f = f
  fault_behind (flat_in ws j) None cs k x f = f
  fault_behind (flat_in ws j) (Some s) cs k x f = f

-- the end of a variant's words
abbrev variant_end : Spot → Cases → ℕ
variant_end (stored a) cs = 0
variant_end (flat_in ws i) cs = i + 1 + cases_flat cs

module _ (m : Memory) (enc : Encoding) (k : VariantKind) (cs : Cases) where
  variant_represents : (at : Spot) (d : ℕ) (t : Tree) → HasRoom m at (variant k cs) → tag_in m at cs ≡ d → CaseIn m enc (variant_end at cs) (payload_spot m at cs) cs d d t → Represents m enc at (variant k cs) t
  variant_represents (stored a) d t room is h = (room, subst (λ i. CaseStored (Inside m) false enc m cs i i (a + payload_offset m.wide cs) t) (sym is) h)
  variant_represents (flat_in ws i) d t room is h = (subst (λ j. CaseFlat (Inside m) false enc m ws cs j j (i + 1) (i + 1 + cases_flat cs) t) (sym is) h, λ g. untrue g)

  represented_case : (at : Spot) (t : Tree) → Represents m enc at (variant k cs) t → CaseIn m enc (variant_end at cs) (payload_spot m at cs) cs (tag_in m at cs) (tag_in m at cs) t
  represented_case (stored a) t h = h.1
  represented_case (flat_in ws i) t h = h.0

  fault_of_case : (at : Spot) (d : ℕ) (l : Kind) (x : At) → tag_in m at cs ≡ d → CaseFaulty m enc (variant_end at cs) (payload_spot m at cs) cs d l x → Faulty m enc at (variant k cs) l x
  fault_of_case (stored a) d l x is f = inr (subst (λ i. CaseFault enc m cs i (a + payload_offset m.wide cs) l x) (sym is) f)
  fault_of_case (flat_in ws i) d l x is f = inr (subst (λ j. CaseFlatFault enc m ws cs j (i + 1) l x) (sym is) f)

  no_such_case : (at : Spot) (d n : ℕ) (l : Kind) (x : At) → tag_in m at cs ≡ d → IsFault (no_case (tag_in m at cs)) (at_of at) l x → case_count cs ≤ tag_in m at cs → Faulty m enc at (variant k cs) l x
  no_such_case (stored a) d n l x is f many = inl (f, many)
  no_such_case (flat_in ws i) d n l x is f many = inl (f, many)

-- the handles of case i of these, whose payload stands there
abbrev case_leaves_in : Memory → Spot → Cases → ℕ → List Leaf
case_leaves_in m (stored a) cs i = case_reach_leaves m cs i a
case_leaves_in m (flat_in ws j) cs i = case_flat_leaves m ws cs i j

module _ (w : Setting) where
  -- these are the steps of the handles of case i of these
  abbrev CaseSteps : Spot → Cases → ℕ → List (List Part) → Type 0
  CaseSteps p cs i ps = AreLiftedBy w.types (case_leaves_in w.memory p cs i) ps

  variant_steps : (at : Spot) (k : VariantKind) (cs : Cases) (ps : List (List Part)) → CaseSteps (payload_spot w.memory at cs) cs (tag_in w.memory at cs) ps → AreSteps w at (variant k cs) ps
  unfolding reach_leaves flat_leaves
  variant_steps (stored a) k cs ps h = h
  variant_steps (flat_in ws i) k cs ps h = h

  bare_steps : (p : Spot) (name : Name) (cs : Cases) → CaseSteps p (bare name cs) 0 []
  unfolding reach_leaves flat_leaves
  bare_steps (stored a) name cs = tt
  bare_steps (flat_in ws i) name cs = tt

  payload_steps : (p : Spot) (name : Name) (s : Shape) (cs : Cases) (ps : List (List Part)) → AreSteps w p s ps → CaseSteps p (payload name s cs) 0 ps
  unfolding reach_leaves flat_leaves
  payload_steps (stored a) name s cs ps h = h
  payload_steps (flat_in ws i) name s cs ps h = h

  steps_behind : (p : Spot) (o : Option Shape) (cs : Cases) (n : ℕ) (ps : List (List Part)) → CaseSteps p cs n ps → CaseSteps p (case_for o cs) (suc n) ps
  unfolding reach_leaves flat_leaves
  steps_behind (stored a) None cs n ps h = h
  steps_behind (stored a) (Some s) cs n ps h = h
  steps_behind (flat_in ws i) None cs n ps h = h
  steps_behind (flat_in ws i) (Some s) cs n ps h = h

  no_case_left : (p : Spot) (n : ℕ) → CaseSteps p no_cases n []
  unfolding reach_leaves flat_leaves
  no_case_left (stored a) n = tt
  no_case_left (flat_in ws i) n = tt

  -- where there is no such case
  no_steps : (p : Spot) (o v : Option Shape) (n : ℕ) → CaseSteps p (case_for o (case_for v no_cases)) (suc (suc n)) []
  no_steps p o v n = steps_behind p o (case_for v no_cases) (suc n) [] (steps_behind p v no_cases n [] (no_case_left p n))

-- ---- options

option_lifts : {A : Type 0} (R : Reading A) (Lifts : A → Tree → Type 0) (w : Setting) (at : Spot) (u : Shape) (before after : LedgerState)
    → ((p : Spot) (x : A) → R.reads w p u before x after → (t : Tree) × Represents w.memory w.encoding p u t × Lifts x t)
    → (v : Option A) → OptionReads R w at (option_of u) before v after → (t : Tree) × Represents w.memory w.encoding at (option_of u) t × OptionMeans Lifts v t
option_lifts R Lifts w at u before after law None (room, is, same) =
    let m = w.memory in
    let cs : Cases = bare [] (payload [] u no_cases) in
    (case 0, variant_represents m w.encoding of_option cs at 0 (case 0) room is (bare_in m w.encoding (variant_end at cs) (payload_spot m at cs) [] (payload [] u no_cases) 0), refl)
option_lifts R Lifts w at u before after law (Some x) (room, is, h) =
    let m = w.memory in
    let cs : Cases = bare [] (payload [] u no_cases) in
    let (t, rep, lifts) = law (payload_spot m at cs) x h in (
      case_of 1 t,
      variant_represents m w.encoding of_option cs at 1 (case_of 1 t) room is
          (behind_first m w.encoding (variant_end at cs) (payload_spot m at cs) None (payload [] u no_cases) 1 (case_of 1 t) (payload_there m w.encoding (variant_end at cs) (payload_spot m at cs) [] u no_cases 1 t rep)),
      (t, refl, lifts),
    )

-- the charges, by the number of the case
option_price : {A : Type 0} (R : Reading A) (price : Tree → ℕ) (w : Setting) (p : Spot) (u : Shape) (e d n : ℕ) (t : Tree) → ((t : Tree) → Represents w.memory w.encoding p u t → R.reach w p u ≡ price t)
    → CaseIn w.memory w.encoding e p (bare [] (payload [] u no_cases)) n d t → (if n == 0 then 0 else if n == 1 then R.reach w p u else 0) ≡ option_cost price t
option_price R price w (stored a) u e d zero t law h = sym (ap (option_cost price) h)
option_price R price w (stored a) u e d (suc zero) t law (y, is, h) = law y h ∙ sym (ap (option_cost price) is)
option_price R price w (stored a) u e d (suc (suc n)) t law h = absurd h
option_price R price w (flat_in ws i) u e d zero t law h = sym (ap (option_cost price) h.0)
option_price R price w (flat_in ws i) u e d (suc zero) t law (y, is, h, z) = law y h ∙ sym (ap (option_cost price) is)
option_price R price w (flat_in ws i) u e d (suc (suc n)) t law h = absurd h

option_faulty : {A : Type 0} (R : Reading A) (w : Setting) (at : Spot) (u : Shape) (k : Kind) (x : At) → ((p : Spot) → R.faults w p u k x → Faulty w.memory w.encoding p u k x)
    → CasesFault (nothing_reading {A = Unit {0}}) R w at (option_of u) k x → Faulty w.memory w.encoding at (option_of u) k x
option_faulty R w at u k x law (inl (f, many)) = no_such_case w.memory w.encoding of_option (bare [] (payload [] u no_cases)) at _ 0 k x refl f many
option_faulty R w at u k x law (inr (inl f)) = absurd f.1
option_faulty R w at u k x law (inr (inr (is, f))) =
    let m = w.memory in
    let cs : Cases = bare [] (payload [] u no_cases) in
    let p : Spot = payload_spot m at cs in
    fault_of_case m w.encoding of_option cs at 1 k x is
    (fault_behind m w.encoding (variant_end at cs) p None (payload [] u no_cases) k x (fault_here m w.encoding (variant_end at cs) p [] u no_cases k x (law p f)))

-- a number past 1
past_one : {X : Type 0} (n : ℕ) (x y z : X) → cond (suc (suc n) == 0) x (cond (suc (suc n) == 1) y z) ≡ z
past_one n x y z =
    cond-false (suc (suc n) == 0) x (cond (suc (suc n) == 1) y z) (ne_eqb (suc (suc n)) 0 (suc-ne-zero (suc n)))
    ∙ cond-false (suc (suc n) == 1) y z (ne_eqb (suc (suc n)) 1 (λ e. suc-ne-zero n (suc_inj e)))

-- the steps, by the number of the case
option_walked : {A : Type 0} (R : Reading A) (w : Setting) (p : Spot) (u : Shape) (n : ℕ) → AreSteps w p u (R.steps w p u)
    → CaseSteps w p (bare [] (payload [] u no_cases)) n (if n == 0 then [] else if n == 1 then R.steps w p u else [])
option_walked R w p u zero h = bare_steps w p [] (payload [] u no_cases)
option_walked R w p u (suc zero) h = steps_behind w p None (payload [] u no_cases) 0 (R.steps w p u) (payload_steps w p [] u no_cases (R.steps w p u) h)
option_walked R w p u (suc (suc n)) h = subst (λ ps. CaseSteps w p (bare [] (payload [] u no_cases)) (suc (suc n)) ps) (sym (past_one n [] (R.steps w p u) [])) (no_steps w p None (Some u) n)

module _ {A : Type 0} {Fit : Instance → InterfaceType → Type 0} {R : Reading A} where
  module _ (law : IsFaulted Fit R) where
    faults_of_option : (w : Setting) (at : Spot) (type : InterfaceType) (k : Kind) (x : At) → IsOptionOf Fit w.types type
        → (option_reading R).faults w at (shape_of w.types.types type) k x → Faulty w.memory w.encoding at (shape_of w.types.types type) k x
    faults_of_option w at (ty.Option i) k x (some, d, f) h =
        subst (λ (s : Shape). Faulty w.memory w.encoding at s k x) (sym d.shape)
        (option_faulty R w at (shape_of w.types.types some) k x (λ p. law.faults w p some k x f) (subst (λ (s : Shape). (option_reading R).faults w at s k x) d.shape h))
    faults_of_option w at _ k x f h = absurd f

    pub option_faulted : IsFaulted (IsOptionOf Fit) (option_reading R)
    option_faulted = record { faults = faults_of_option }

  module _ {price : Tree → ℕ} (law : IsPriced Fit R price) where
    option_reached : (w : Setting) (at : Spot) (type : InterfaceType) (t : Tree) → IsOptionOf Fit w.types type → Represents w.memory w.encoding at (shape_of w.types.types type) t
        → cases_reach (nothing_reading {A = Unit {0}}) R w at (shape_of w.types.types type) ≡ option_cost price t
    option_reached w at (ty.Option i) t (some, d, f) rep =
        let u : Shape = shape_of w.types.types some in
        let cs : Cases = bare [] (payload [] u no_cases) in
        subst (λ (s : Shape). cases_reach (nothing_reading {A = Unit {0}}) R w at s ≡ option_cost price t) (sym d.shape)
        (option_price R price w (payload_spot w.memory at cs) u (variant_end at cs) _ (tag_in w.memory at cs) t (λ y. law.reach w _ some y f)
        (represented_case w.memory w.encoding of_option cs at t (subst (λ (s : Shape). Represents w.memory w.encoding at s t) d.shape rep)))
    option_reached w at _ t f rep = absurd f

    pub option_priced : IsPriced (IsOptionOf Fit) (option_reading R) (option_cost price)
    option_priced = record { reach = option_reached }

  module _ {Lifts : A → Tree → Type 0} (law : IsOfTrees Fit R Lifts) where
    option_reads : (w : Setting) (at : Spot) (type : InterfaceType) (before after : LedgerState) (v : Option A) → IsOptionOf Fit w.types type → OptionReads R w at (shape_of w.types.types type) before v after
        → (t : Tree) × Represents w.memory w.encoding at (shape_of w.types.types type) t × OptionMeans Lifts v t
    option_reads w at (ty.Option i) before after v (some, d, f) h =
        let u : Shape = shape_of w.types.types some in
        subst (λ (s : Shape). (t : Tree) × Represents w.memory w.encoding at s t × OptionMeans Lifts v t) (sym d.shape)
        (option_lifts R Lifts w at u before after (λ p x. law.reads w p some before after x f) v (subst (λ (s : Shape). OptionReads R w at s before v after) d.shape h))
    option_reads w at _ before after v f h = absurd f

    steps_of_option : (w : Setting) (at : Spot) (type : InterfaceType) → IsOptionOf Fit w.types type
        → AreSteps w at (shape_of w.types.types type) (cases_steps (nothing_reading {A = Unit {0}}) R w at (shape_of w.types.types type))
    steps_of_option w at (ty.Option i) (some, d, f) =
        let u : Shape = shape_of w.types.types some in
        let cs : Cases = bare [] (payload [] u no_cases) in
        subst (λ (s : Shape). AreSteps w at s (cases_steps (nothing_reading {A = Unit {0}}) R w at s)) (sym d.shape)
        (variant_steps w at of_option cs _ (option_walked R w (payload_spot w.memory at cs) u (tag_in w.memory at cs) (law.steps w (payload_spot w.memory at cs) some f)))
    steps_of_option w at _ f = absurd f

    pub option_told : IsOfTrees (IsOptionOf Fit) (option_reading R) (OptionMeans Lifts)
    option_told = record { reads = option_reads; steps = steps_of_option }

-- ---- results

-- the cases of a result from one on: a payload, or none where its type is the unit
abbrev cases_from : Setting → Option InterfaceType → Cases → Cases
cases_from w type cs = case_for (payload_in (all_shapes w.types.types) type) cs

module _ (w : Setting) (ok error : Option InterfaceType) where
  abbrev bad : Cases
  bad = cases_from w error no_cases

  abbrev both_cases : Cases
  both_cases = cases_from w ok bad

  abbrev good : Option Shape
  good = payload_in (all_shapes w.types.types) ok

module _ {A : Type 0} {Fit : Instance → InterfaceType → Type 0} {R : Reading A} where
  payload_lifts : {Lifts : A → Tree → Type 0} → IsOfTrees Fit R Lifts → (w : Setting) (cs : Cases) (e d : ℕ) (p : Spot) (unit : Bool) (type : Option InterfaceType) (before after : LedgerState) (x : A)
      → IsPayloadOf unit Fit w.types type → (payload_reading unit R).reads w p (payload_shape (cases_from w type cs) 0) before x after
      → (t : Tree) × CaseIn w.memory w.encoding e p (cases_from w type cs) 0 d t × CaseMeans unit Lifts d x t
  payload_lifts law w cs e d p true None before after x f h = (case d, bare_in w.memory w.encoding e p [] cs d, refl)
  payload_lifts law w cs e d p true (Some type) before after x f h = absurd f
  payload_lifts law w cs e d p false None before after x f h = absurd f
  payload_lifts law w cs e d p false (Some type) before after x f h =
      let (t, rep, lifts) = law.reads w p type before after x f h in
      (case_of d t, payload_there w.memory w.encoding e p [] (shape_of w.types.types type) cs d t rep, (t, refl, lifts))

  payload_walked : {Lifts : A → Tree → Type 0} → IsOfTrees Fit R Lifts → (w : Setting) (cs : Cases) (p : Spot) (unit : Bool) (type : Option InterfaceType) → IsPayloadOf unit Fit w.types type
      → CaseSteps w p (cases_from w type cs) 0 ((payload_reading unit R).steps w p (payload_shape (cases_from w type cs) 0))
  payload_walked law w cs p true None f = bare_steps w p [] cs
  payload_walked law w cs p true (Some type) f = absurd f
  payload_walked law w cs p false None f = absurd f
  payload_walked law w cs p false (Some type) f = payload_steps w p [] (shape_of w.types.types type) cs _ (law.steps w p type f)

  payload_faulty : IsFaulted Fit R → (w : Setting) (cs : Cases) (e : ℕ) (p : Spot) (unit : Bool) (type : Option InterfaceType) (k : Kind) (x : At) → IsPayloadOf unit Fit w.types type
      → (payload_reading unit R).faults w p (payload_shape (cases_from w type cs) 0) k x → CaseFaulty w.memory w.encoding e p (cases_from w type cs) 0 k x
  payload_faulty law w cs e p true type k x f h = absurd h
  payload_faulty law w cs e p false None k x f h = absurd f
  payload_faulty law w cs e p false (Some type) k x f h = fault_here w.memory w.encoding e p [] (shape_of w.types.types type) cs k x (law.faults w p type k x f h)

  -- the charges of the first case, and of the second
  module _ {price : Tree → ℕ} (law : IsPriced Fit R price) (w : Setting) (cs : Cases) (e : ℕ) (other : Tree → ℕ) where
    first_priced : (unit : Bool) (type : Option InterfaceType) (p : Spot) (t : Tree) → IsPayloadOf unit Fit w.types type → CaseIn w.memory w.encoding e p (cases_from w type cs) 0 0 t
        → (payload_reading unit R).reach w p (payload_shape (cases_from w type cs) 0) ≡ result_cost price other t
    first_priced true None (stored a) t f h = sym (ap (result_cost price other) h)
    first_priced true None (flat_in ws i) t f h = sym (ap (result_cost price other) h.0)
    first_priced true (Some type) p t f h = absurd f
    first_priced false None p t f h = absurd f
    first_priced false (Some type) (stored a) t f (u, is, h) = law.reach w (stored a) type u f h ∙ sym (ap (result_cost price other) is)
    first_priced false (Some type) (flat_in ws i) t f (u, is, h, z) = law.reach w (flat_in ws i) type u f h ∙ sym (ap (result_cost price other) is)

    second_priced : (unit : Bool) (type : Option InterfaceType) (p : Spot) (t : Tree) → IsPayloadOf unit Fit w.types type → CaseIn w.memory w.encoding e p (cases_from w type cs) 0 1 t
        → (payload_reading unit R).reach w p (payload_shape (cases_from w type cs) 0) ≡ result_cost other price t
    second_priced true None (stored a) t f h = sym (ap (result_cost other price) h)
    second_priced true None (flat_in ws i) t f h = sym (ap (result_cost other price) h.0)
    second_priced true (Some type) p t f h = absurd f
    second_priced false None p t f h = absurd f
    second_priced false (Some type) (stored a) t f (u, is, h) = law.reach w (stored a) type u f h ∙ sym (ap (result_cost other price) is)
    second_priced false (Some type) (flat_in ws i) t f (u, is, h, z) = law.reach w (flat_in ws i) type u f h ∙ sym (ap (result_cost other price) is)

-- past the first case stands the second
module _ (m : Memory) (enc : Encoding) (e : ℕ) where
  past_first : (p : Spot) (o : Option Shape) (cs : Cases) (n d : ℕ) (t : Tree) → CaseIn m enc e p (case_for o cs) (suc n) d t → CaseIn m enc e p cs n d t
  past_first (stored a) None cs n d t h = h
  past_first (stored a) (Some s) cs n d t h = h
  past_first (flat_in ws j) None cs n d t h = h
  past_first (flat_in ws j) (Some s) cs n d t h = h

  -- and no other
  past_last : {A : Type 0} (p : Spot) (o : Option Shape) (n d : ℕ) (t : Tree) → CaseIn m enc e p (case_for o no_cases) (suc n) d t → A
  past_last (stored a) None n d t h = absurd h
  past_last (stored a) (Some s) n d t h = absurd h
  past_last (flat_in ws j) None n d t h = absurd h
  past_last (flat_in ws j) (Some s) n d t h = absurd h

pub second_shape : (o : Option Shape) (cs : Cases) → payload_shape (case_for o cs) 1 ≡ payload_shape cs 0
second_shape None cs = refl
second_shape (Some s) cs = refl

pub two_cases : (o v : Option Shape) → case_count (case_for o (case_for v no_cases)) ≡ 2
two_cases None None = refl
two_cases None (Some s) = refl
two_cases (Some s) None = refl
two_cases (Some s) (Some u) = refl

module _ {A B : Type 0} (unit unit2 : Bool) {Fit Fit2 : Instance → InterfaceType → Type 0} {R : Reading A} {S : Reading B} where
  module _ (law : IsFaulted Fit R) (law2 : IsFaulted Fit2 S) where
    result_faulty : (w : Setting) (ok error : Option InterfaceType) → IsPayloadOf unit Fit w.types ok → IsPayloadOf unit2 Fit2 w.types error → (at : Spot) (k : Kind) (x : At)
        → (result_reading unit R unit2 S).faults w at (variant of_result (both_cases w ok error)) k x → Faulty w.memory w.encoding at (variant of_result (both_cases w ok error)) k x
    result_faulty w ok error f g at k x (inl (h, many)) =
        no_such_case w.memory w.encoding of_result (both_cases w ok error) at _ 0 k x refl h (subst (λ n. n ≤ tag_in w.memory at (both_cases w ok error)) (sym (two_cases (good w ok error) _)) many)
    result_faulty w ok error f g at k x (inr (inl (is, h))) =
        let cs : Cases = both_cases w ok error in
        let p : Spot = payload_spot w.memory at cs in
        fault_of_case w.memory w.encoding of_result cs at 0 k x is (payload_faulty law w (bad w ok error) (variant_end at cs) p unit ok k x f h)
    result_faulty w ok error f g at k x (inr (inr (is, h))) =
        let cs : Cases = both_cases w ok error in
        let p : Spot = payload_spot w.memory at cs in
        fault_of_case w.memory w.encoding of_result cs at 1 k x is (fault_behind w.memory w.encoding (variant_end at cs) p (good w ok error) (bad w ok error) k x
        (payload_faulty law2 w no_cases (variant_end at cs) p unit2 error k x g (subst (λ (s : Shape). (payload_reading unit2 S).faults w p s k x) (second_shape (good w ok error) (bad w ok error)) h)))

    result_faults : (w : Setting) (at : Spot) (type : InterfaceType) (k : Kind) (x : At) → IsResultOf unit Fit unit2 Fit2 w.types type
        → (result_reading unit R unit2 S).faults w at (shape_of w.types.types type) k x → Faulty w.memory w.encoding at (shape_of w.types.types type) k x
    result_faults w at (ty.Result i) k x (ok, error, d, f, g) h =
        subst (λ (s : Shape). Faulty w.memory w.encoding at s k x) (sym d.shape) (result_faulty w ok error f g at k x (subst (λ (s : Shape). (result_reading unit R unit2 S).faults w at s k x) d.shape h))
    result_faults w at _ k x f h = absurd f

    pub result_faulted : IsFaulted (IsResultOf unit Fit unit2 Fit2) (result_reading unit R unit2 S)
    result_faulted = record { faults = result_faults }

  module _ {price price2 : Tree → ℕ} (law : IsPriced Fit R price) (law2 : IsPriced Fit2 S price2) where
    result_price : (w : Setting) (ok error : Option InterfaceType) → IsPayloadOf unit Fit w.types ok → IsPayloadOf unit2 Fit2 w.types error → (p : Spot) (e n : ℕ) (t : Tree) → CaseIn w.memory w.encoding e p (both_cases w ok error) n n t
        → (if n == 0 then (payload_reading unit R).reach w p (payload_shape (both_cases w ok error) 0) else if n == 1 then (payload_reading unit2 S).reach w p (payload_shape (both_cases w ok error) 1) else 0) ≡ result_cost price price2 t
    result_price w ok error f g p e zero t h = first_priced law w (bad w ok error) e price2 unit ok p t f h
    result_price w ok error f g p e (suc zero) t h = ap (λ (s : Shape). (payload_reading unit2 S).reach w p s) (second_shape (good w ok error) (bad w ok error))
        ∙ second_priced law2 w no_cases e price unit2 error p t g (past_first w.memory w.encoding e p (good w ok error) (bad w ok error) 0 1 t h)
    result_price w ok error f g p e (suc (suc n)) t h =
        past_last w.memory w.encoding e p _ n _ t (past_first w.memory w.encoding e p (good w ok error) (bad w ok error) (suc n) (suc (suc n)) t h)

    result_reached : (w : Setting) (at : Spot) (type : InterfaceType) (t : Tree) → IsResultOf unit Fit unit2 Fit2 w.types type → Represents w.memory w.encoding at (shape_of w.types.types type) t
        → (result_reading unit R unit2 S).reach w at (shape_of w.types.types type) ≡ result_cost price price2 t
    result_reached w at (ty.Result i) t (ok, error, d, f, g) rep =
        let cs : Cases = both_cases w ok error in
        subst (λ (s : Shape). (result_reading unit R unit2 S).reach w at s ≡ result_cost price price2 t) (sym d.shape)
        (result_price w ok error f g (payload_spot w.memory at cs) (variant_end at cs) (tag_in w.memory at cs) t
        (represented_case w.memory w.encoding of_result cs at t (subst (λ (s : Shape). Represents w.memory w.encoding at s t) d.shape rep)))
    result_reached w at _ t f rep = absurd f

    pub result_priced : IsPriced (IsResultOf unit Fit unit2 Fit2) (result_reading unit R unit2 S) (result_cost price price2)
    result_priced = record { reach = result_reached }

  module _ {Lifts : A → Tree → Type 0} {Lifts2 : B → Tree → Type 0} (law : IsOfTrees Fit R Lifts) (law2 : IsOfTrees Fit2 S Lifts2) where
    result_lifts : (w : Setting) (ok error : Option InterfaceType) → IsPayloadOf unit Fit w.types ok → IsPayloadOf unit2 Fit2 w.types error → (at : Spot) (before after : LedgerState) (v : Result A B)
        → ResultReads (payload_reading unit R) (payload_reading unit2 S) w at (variant of_result (both_cases w ok error)) before v after
        → (t : Tree) × Represents w.memory w.encoding at (variant of_result (both_cases w ok error)) t × ResultMeans unit Lifts unit2 Lifts2 v t
    result_lifts w ok error f g at before after (Ok x) (room, is, h) =
        let cs : Cases = both_cases w ok error in
        let p : Spot = payload_spot w.memory at cs in
        let (t, there, lifts) = payload_lifts law w (bad w ok error) (variant_end at cs) 0 p unit ok before after x f h in
        (t, variant_represents w.memory w.encoding of_result cs at 0 t room is there, lifts)
    result_lifts w ok error f g at before after (Err y) (room, is, h) =
        let cs : Cases = both_cases w ok error in
        let p : Spot = payload_spot w.memory at cs in
        let (t, there, lifts) = payload_lifts law2 w no_cases (variant_end at cs) 1 p unit2 error before after y g
        (subst (λ (s : Shape). (payload_reading unit2 S).reads w p s before y after) (second_shape (good w ok error) (bad w ok error)) h) in
        (t, variant_represents w.memory w.encoding of_result cs at 1 t room is (behind_first w.memory w.encoding (variant_end at cs) p (good w ok error) (bad w ok error) 1 t there), lifts)

    result_reads : (w : Setting) (at : Spot) (type : InterfaceType) (before after : LedgerState) (v : Result A B) → IsResultOf unit Fit unit2 Fit2 w.types type
        → (result_reading unit R unit2 S).reads w at (shape_of w.types.types type) before v after
        → (t : Tree) × Represents w.memory w.encoding at (shape_of w.types.types type) t × ResultMeans unit Lifts unit2 Lifts2 v t
    result_reads w at (ty.Result i) before after v (ok, error, d, f, g) h =
        subst (λ (s : Shape). (t : Tree) × Represents w.memory w.encoding at s t × ResultMeans unit Lifts unit2 Lifts2 v t) (sym d.shape)
        (result_lifts w ok error f g at before after v (subst (λ (s : Shape). (result_reading unit R unit2 S).reads w at s before v after) d.shape h))
    result_reads w at _ before after v f h = absurd f

    result_walked : (w : Setting) (ok error : Option InterfaceType) → IsPayloadOf unit Fit w.types ok → IsPayloadOf unit2 Fit2 w.types error → (p : Spot) (n : ℕ)
        → CaseSteps w p (both_cases w ok error) n (if n == 0 then (payload_reading unit R).steps w p (payload_shape (both_cases w ok error) 0) else if n == 1 then (payload_reading unit2 S).steps w p (payload_shape (both_cases w ok error) 1) else [])
    result_walked w ok error f g p zero = payload_walked law w (bad w ok error) p unit ok f
    result_walked w ok error f g p (suc zero) =
        subst (λ (s : Shape). CaseSteps w p (both_cases w ok error) 1 ((payload_reading unit2 S).steps w p s)) (sym (second_shape (good w ok error) (bad w ok error)))
        (steps_behind w p (good w ok error) (bad w ok error) 0 _ (payload_walked law2 w no_cases p unit2 error g))
    result_walked w ok error f g p (suc (suc n)) =
        subst (λ ps. CaseSteps w p (both_cases w ok error) (suc (suc n)) ps) (sym (past_one n _ _ [])) (no_steps w p (good w ok error) (payload_in (all_shapes w.types.types) error) n)

    result_steps : (w : Setting) (at : Spot) (type : InterfaceType) → IsResultOf unit Fit unit2 Fit2 w.types type → AreSteps w at (shape_of w.types.types type) ((result_reading unit R unit2 S).steps w at (shape_of w.types.types type))
    result_steps w at (ty.Result i) (ok, error, d, f, g) =
        let cs : Cases = both_cases w ok error in
        subst (λ (s : Shape). AreSteps w at s ((result_reading unit R unit2 S).steps w at s)) (sym d.shape)
        (variant_steps w at of_result cs _ (result_walked w ok error f g (payload_spot w.memory at cs) (tag_in w.memory at cs)))
    result_steps w at _ f = absurd f

    pub result_told : IsOfTrees (IsResultOf unit Fit unit2 Fit2) (result_reading unit R unit2 S) (ResultMeans unit Lifts unit2 Lifts2)
    result_told = record { reads = result_reads; steps = result_steps }
