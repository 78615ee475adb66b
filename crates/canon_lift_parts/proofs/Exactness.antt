-- A value is lifted exactly where a tree of its type can be.
use Rattle.std.proofs.Common.{◌≡◌, ◌≤◌, ◌<◌, ◌+◌, ◌∙◌, ◌⊎◌, Err, List, Ok, Option, Result, Some, ap, arith, false, inl, inr, refl, subst, true, ℕ}
use Rattle.canon_context.proofs.Told.{blamed_by}
use Rattle.canon_context.specs.Told.{LiftBlames, place_of}
use Rattle.canon_context.specs.declared.fault.At.{At as Place}
use Rattle.canon_context.specs.declared.fault.Fault.{Fault}
use Rattle.canon_context.specs.declared.fault.Fault.TheVariants as fault
use Rattle.canon_resources.proofs.Leaves.{leaves_excluded, leaves_same}
use Rattle.canon_resources.specs.Parts.{LeavesStop, LeavesTake}
use Rattle.canon_ledger.specs.Ledger.{LedgerState}
use Rattle.canon_ledger.specs.declared.fault.ResourceFault.{ResourceFault}
use Rattle.canon_model.proofs.Faults.{fault_excludes}
use Rattle.canon_model.proofs.Handles.{reached_leaves}
use Rattle.canon_model.proofs.Unique.{one_tree}
use Rattle.canon_model.specs.Leaves.{leaves}
use Rattle.canon_model.specs.Reach as reach
use Rattle.canon_model.specs.Reach.{Kind}
use Rattle.canon_model.specs.Shape.{Shape}
use Rattle.canon_model.specs.Tree.{Tree}
use Rattle.canon_types.specs.Instance.{Instance}
use Rattle.canon_types.specs.Table.{shape_of}
use Rattle.canon_types.specs.declared.types.InterfaceType.{InterfaceType}
use Rattle.canon_reading.specs.Laws.{IsLifted, LiftsExactly}
use Rattle.canon_reading.specs.OfTrees.{IsFaulted, IsOfTrees, IsPriced}
use Rattle.canon_reading.specs.Reading.{AreTaken, Lifts, NamedBy, Reading, Refused, Setting}
use Rattle.canon_context.specs.Faults.{stop_of}
use Rattle.canon_reading.specs.Spots.{Faulty, Represents, Spot, flat_in, stored, leaves_in}
use Rattle.canon_reading.specs.Ways.{AreLiftedBy}

-- ---- of one spot

one_there : (w : Setting) (at : Spot) (s : Shape) (t u : Tree) → Represents w.memory w.encoding at s t → Represents w.memory w.encoding at s u → t ≡ u
one_there w (stored a) s t u h g = one_tree.memory false w.encoding w.memory a s t u h g
one_there w (flat_in ws i) s t u h g = one_tree.flat false w.encoding w.memory ws i s t u h g

leaves_there : (w : Setting) (at : Spot) (s : Shape) (t : Tree) → Represents w.memory w.encoding at s t → leaves_in w.memory at s ≡ leaves s t
leaves_there w (stored a) s t h = reached_leaves.memory false w.encoding w.memory a s t h
leaves_there w (flat_in ws i) s t h = reached_leaves.flat false w.encoding w.memory ws i s t h

faultless : (w : Setting) (at : Spot) (s : Shape) (t : Tree) (k : Kind) (x : reach.At) → Represents w.memory w.encoding at s t → Faulty w.memory w.encoding at s k x → ⊥
faultless w (stored a) s t k x h f = fault_excludes.memory false w.encoding w.memory a s t k x f h
faultless w (flat_in ws i) s t k x h f = fault_excludes.flat false w.encoding w.memory ws i s t k x f h

unnamed : (at : Spot) (F : Kind → reach.At → Type 0) → ((k : Kind) (x : reach.At) → F k x → ⊥) → (k : Kind) (x : Place) → NamedBy at F k x → ⊥
unnamed (stored a) F none k x h = none k (place_of x) h
unnamed (flat_in ws i) F none k x (y, is, h) = none k y h

-- what is left where no place has a fault and the fuel is enough
abbrev pub Remains : Fault → Type 0
Remains e = (e ≡ fault.OutOfMemory) ⊎ ((r : ResourceFault) × (stop_of e ≡ Some r))

remaining : (e : Fault) → LiftBlames (λ k x. ⊥) ⊥ e → Remains e
remaining fault.OutOfMemory h = inl refl
remaining (fault.Resource r) h = inr (r, h)
remaining _ h = absurd h

module _ {A : Type 0} {Fit : Instance → InterfaceType → Type 0} {R : Reading A} {Means : A → Tree → Type 0} {price : Tree → ℕ}
    (faulted : IsFaulted Fit R) (priced : IsPriced Fit R price) (told : IsOfTrees Fit R Means) (taken : AreTaken R)
    (w : Setting) (at : Spot) (type : InterfaceType) (f : Fit w.types type) (before after : LedgerState) (fuel left : ℕ) where
  abbrev s : Shape
  s = shape_of w.types.types type

  -- the steps of what stands there
  steps_there : (t : Tree) → Represents w.memory w.encoding at s t → AreLiftedBy w.types (leaves s t) (R.steps w at s)
  steps_there t rep = subst (λ ls. AreLiftedBy w.types ls (R.steps w at s)) (leaves_there w at s t rep) (told.steps w at type f)

  only_there : (v : A) → Lifts R w at s before fuel (Ok v) after left
      → (t : Tree) × Represents w.memory w.encoding at s t × Means v t × (fuel ≡ left + price t) × AreLiftedBy w.types (leaves s t) (R.steps w at s) × ((hs : List ℕ) × LeavesTake before (R.steps w at s) hs after)
  only_there v (read, spent) =
      let (t, rep, means) = told.reads w at type before after v f read in
      let (hs, took) = taken w at s before after v read in
      (t, rep, means, spent ∙ ap (λ n. left + n) (priced.reach w at type t f rep), steps_there t rep, (hs, took))

  module _ (end : LedgerState) (t : Tree) (hs : List ℕ) (rep : Represents w.memory w.encoding at s t) (enough : price t ≤ fuel) (takes : LeavesTake before (R.steps w at s) hs end) where
    lifted_there : (v : A) → Lifts R w at s before fuel (Ok v) after left → IsLifted R Means price t end fuel (Ok v) after left
    lifted_there v lifts =
        let (u, rep2, means, spent, steps, (ks, took)) = only_there v lifts in
        let same : u ≡ t = one_there w at s u t rep2 rep in (
          subst (λ x. Means v x) same means,
          subst (λ x. fuel ≡ left + price x) same spent,
          (leaves_same before after end (R.steps w at s) ks hs took takes).1,
        )

    accepted : (r : ResourceFault) → LeavesStop (Some r) before (R.steps w at s) after → ⊥
    accepted r stops = leaves_excluded r before after end (R.steps w at s) hs stops takes

    memory_alone : (e : Fault) → Refused R w at s before fuel e after left → Remains e → (e ≡ fault.OutOfMemory) × (R.allocates ≡ true)
    memory_alone e refused (inl is) = (is, refused.memory is)
    memory_alone e refused (inr (r, is)) = absurd (accepted r (subst (λ (o : Option ResourceFault). LeavesStop o before (R.steps w at s) after) is refused.stops))

    refused_there : (e : Fault) → Refused R w at s before fuel e after left → (e ≡ fault.OutOfMemory) × (R.allocates ≡ true)
    refused_there e refused = memory_alone e refused (remaining e
        (blamed_by (NamedBy at (R.faults w at s)) (λ k x. ⊥) (fuel < R.reach w at s) ⊥
        (unnamed at (R.faults w at s) (λ k x h. faultless w at s t k x rep (faulted.faults w at type k x f h)))
        (λ low. omega (arith, low, enough, priced.reach w at type t f rep)) e refused.cause))

    always_there : (r : Result A Fault) → Lifts R w at s before fuel r after left → IsLifted R Means price t end fuel r after left
    always_there (Ok v) lifts = lifted_there v lifts
    always_there (Err e) refused = refused_there e refused

pub lifts_exactly_there : {A : Type 0} {Fit : Instance → InterfaceType → Type 0} {R : Reading A} {Means : A → Tree → Type 0} {price : Tree → ℕ}
    → IsFaulted Fit R → IsPriced Fit R price → IsOfTrees Fit R Means → AreTaken R → LiftsExactly Fit R Means price
lifts_exactly_there faulted priced told taken = record {
  only = λ w at type before after fuel left v f lifts. only_there faulted priced told taken w at type f before after fuel left v lifts;
  always = λ w at type before after end fuel left r t hs f rep enough takes lifts. always_there faulted priced told taken w at type f before after fuel left end t hs rep enough takes r lifts;
}
