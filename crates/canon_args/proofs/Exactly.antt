-- What is lifted from words, in a row or by a pointer, is what they and memory represent.
use Rattle.std.proofs.Common.{Err, List, Ok, Option, Result, ap, arith, inl, inr, length, nat_le, refl, subst, sym, true, ⊎_elim, ℕ, ◌+◌, ◌<◌, ◌∙◌, ◌≡◌, ◌≤◌, ◌⊎◌}
use Rattle.std.specs.Prelude.{false, slice_index}
use Rattle.std.proofs.lemmas.Bool.{cases_lt, cond-false, cond-true, le-leb, lt-leb}
use Rattle.canon_args.specs.Areas.{good_area}
use Rattle.canon_args.specs.Exactly.{IsAlwaysPassed, IsOnlyPassed}
use Rattle.canon_args.specs.Returned.{IsGoodArea, area_reading, passed_count, reading_by}
use Rattle.canon_context.proofs.Told.{blamed_by}
use Rattle.canon_context.specs.Told.{LiftBlames, ToldAt}
use Rattle.canon_context.specs.declared.fault.Fault.{Fault}
use Rattle.canon_context.specs.declared.fault.Fault.TheVariants as fault
use Rattle.canon_resources.proofs.Leaves.{leaves_excluded}
use Rattle.canon_resources.specs.Parts.{LeavesStop, LeavesTake, Part}
use Rattle.canon_ledger.specs.Ledger.{LedgerState}
use Rattle.canon_ledger.specs.declared.fault.ResourceFault.{ResourceFault}
use Rattle.canon_lift_parts.proofs.Exactness.{Remains, lifts_exactly_there}
use Rattle.canon_reading.specs.Laws.{IsLifted, LiftsExactly}
use Rattle.canon_reading.specs.OfTrees.{IsFaulted, IsOfTrees, IsPriced}
use Rattle.canon_reading.specs.Reading.{AreTaken, Lifts, Reading, Refused, Setting}
use Rattle.canon_reading.specs.Spots.{Represents, Spot, flat_in, stored}
use Rattle.canon_reading.specs.Ways.{AreLiftedBy}
use Rattle.canon_model.proofs.Faults.{fault_excludes}
use Rattle.canon_model.specs.Flat.{RepValues}
use Rattle.canon_model.specs.Layout.{align, flat, members_flat}
use Rattle.canon_model.specs.Leaves.{leaves, members_leaves}
use Rattle.canon_model.specs.Memory.{ptr}
use Rattle.canon_model.specs.Reach as reach
use Rattle.canon_model.specs.Reach.{Kind}
use Rattle.canon_model.specs.Shape.{Members, Shape, of_places, product}
use Rattle.canon_model.specs.Tree.{Tree, Trees, parts}
use Rattle.canon_types.specs.Instance.{Instance}
use Rattle.canon_types.specs.Table.{shape_of}
use Rattle.canon_types.specs.declared.types.InterfaceType.{InterfaceType}
use Rattle.canon_context.specs.declared.fault.At.{At as Place}

remaining : (e : Fault) → LiftBlames (λ k x. ⊥) ⊥ e → Remains e
remaining fault.OutOfMemory h = inl refl
remaining (fault.Resource r) h = inr (r, h)
remaining _ h = absurd h

module _ {A : Type 0} {Fit : Instance → InterfaceType → Type 0} {R : Reading A} {Means : A → Tree → Type 0} {price : Tree → ℕ}
    (faulted : IsFaulted Fit R) (priced : IsPriced Fit R price) (told : IsOfTrees Fit R Means) (taken : AreTaken R)
    (most : ℕ) (w : Setting) (type : InterfaceType) (ms : Members) (words : List ℕ) (fits : Fit w.types type) (shape : shape_of w.types.types type ≡ product of_places ms) where
  abbrev s : Shape
  s = product of_places ms

  abbrev p : Spot
  p = flat_in words 0

  abbrev tuple_area : ℕ
  tuple_area = ptr w.memory (slice_index words 0)

  law : LiftsExactly Fit R Means price
  law = lifts_exactly_there faulted priced told taken

  -- ---- in a row, or by a pointer

  in_row : members_flat ms ≤ most → nat_le (flat s) most ≡ true
  unfolding flat
  in_row near = le-leb (members_flat ms) most near

  by_pointer : most < members_flat ms → nat_le (flat s) most ≡ false
  unfolding flat
  by_pointer far = lt-leb (members_flat ms) most far

  -- ---- at one spot, over the shape of the members

  only_at : (at : Spot) (before after : LedgerState) (fuel left : ℕ) (v : A) → Lifts R w at s before fuel (Ok v) after left
      → (t : Tree) × Represents w.memory w.encoding at s t × Means v t × (fuel ≡ left + price t) × AreLiftedBy w.types (leaves s t) (R.steps w at s) × ((hs : List ℕ) × LeavesTake before (R.steps w at s) hs after)
  only_at at before after fuel left v h = subst
      (λ (z : Shape). (t : Tree) × Represents w.memory w.encoding at z t × Means v t × (fuel ≡ left + price t) × AreLiftedBy w.types (leaves z t) (R.steps w at z) × ((hs : List ℕ) × LeavesTake before (R.steps w at z) hs after))
      shape (law.only w at type before after fuel left v fits (subst (λ (z : Shape). Lifts R w at z before fuel (Ok v) after left) (sym shape) h))

  always_at : (at : Spot) (before after end : LedgerState) (fuel left : ℕ) (r : Result A Fault) (t : Tree) (hs : List ℕ) → Represents w.memory w.encoding at s t → price t ≤ fuel → LeavesTake before (R.steps w at s) hs end
      → Lifts R w at s before fuel r after left → IsLifted R Means price t end fuel r after left
  always_at at before after end fuel left r t hs rep few took h =
      law.always w at type before after end fuel left r t hs fits (subst (λ (z : Shape). Represents w.memory w.encoding at z t) (sym shape) rep) few
      (subst (λ (z : Shape). LeavesTake before (R.steps w at z) hs end) (sym shape) took) (subst (λ (z : Shape). Lifts R w at z before fuel r after left) (sym shape) h)

  faultless_at : (a : ℕ) (t : Tree) (k : Kind) (x : reach.At) → Represents w.memory w.encoding (stored a) s t → R.faults w (stored a) s k x → ⊥
  faultless_at a t k x rep h = fault_excludes.memory false w.encoding w.memory a s t k x
      (subst (λ (z : Shape). reach.StoredFault w.encoding w.memory z a k x) shape (faulted.faults w (stored a) type k x fits (subst (λ (z : Shape). R.faults w (stored a) z k x) (sym shape) h))) rep

  price_at : (a : ℕ) (t : Tree) → Represents w.memory w.encoding (stored a) s t → R.reach w (stored a) s ≡ price t
  price_at a t rep = subst (λ (z : Shape). R.reach w (stored a) z ≡ price t) shape (priced.reach w (stored a) type t fits (subst (λ (z : Shape). Represents w.memory w.encoding (stored a) z t) (sym shape) rep))

  -- ---- only what is represented

  abbrev Passed : LedgerState → LedgerState → ℕ → ℕ → A → List (List Part) → Type 0
  Passed before after fuel left v steps = (ts : Trees) × RepValues most false w.encoding w.memory words ms ts × Means v (parts ts) × (fuel ≡ left + price (parts ts))
      × AreLiftedBy w.types (members_leaves ms ts) steps × ((hs : List ℕ) × LeavesTake before steps hs after)

  module _ (before after : LedgerState) (fuel left : ℕ) (v : A) where
    row_only : members_flat ms ≤ most → length words ≡ members_flat ms → Lifts R w p s before fuel (Ok v) after left → Passed before after fuel left v (R.steps w p s)
    unfolding leaves
    row_only near count h =
        let (t, rep, means, spent, lifted, took) = only_at p before after fuel left v h in
        let (ts, e, there) = rep in (
          ts,
          record { near = λ _. (count, there); far = λ far. absurd (omega (arith, near, far)) },
          subst (λ u. Means v u) e means,
          subst (λ u. fuel ≡ left + price u) e spent,
          subst (λ u. AreLiftedBy w.types (leaves s u) (R.steps w p s)) e lifted,
          took,
        )

    area_only : most < members_flat ms → length words ≡ 1 → Lifts (area_reading R) w p s before fuel (Ok v) after left → Passed before after fuel left v ((area_reading R).steps w p s)
    unfolding align leaves
    area_only far count ((good, read), spent) =
        let stepped : (area_reading R).steps w p s ≡ R.steps w (stored tuple_area) s = cond-true _ _ _ (good_area w p s good) in
        let reached : (area_reading R).reach w p s ≡ R.reach w (stored tuple_area) s = cond-true _ _ _ (good_area w p s good) in
        let (t, rep, means, paid, lifted, took) = only_at (stored tuple_area) before after fuel left v (read, spent ∙ ap (λ n. left + n) reached) in
        let (inside, (ts, e, there)) = rep in (
          ts,
          record { near = λ near. absurd (omega (arith, near, far)); far = λ _. (count, record { aligned = good.0; stored = (inside, (ts, refl, there)); narrow = λ strict. cc }) },
          subst (λ u. Means v u) e means,
          subst (λ u. fuel ≡ left + price u) e paid,
          subst (λ steps. AreLiftedBy w.types (members_leaves ms ts) steps) (sym stepped) (subst (λ u. AreLiftedBy w.types (leaves s u) (R.steps w (stored tuple_area) s)) e lifted),
          subst (λ steps. (hs : List ℕ) × LeavesTake before steps hs after) (sym stepped) took,
        )

    passed_only : length words ≡ passed_count most ms → Lifts (reading_by (nat_le (flat s) most) R) w p s before fuel (Ok v) after left → Passed before after fuel left v ((reading_by (nat_le (flat s) most) R).steps w p s)
    passed_only count h = ⊎_elim
        (λ far. subst (λ b. Passed before after fuel left v ((reading_by b R).steps w p s)) (sym (by_pointer far))
        (area_only far (count ∙ cond-false _ _ _ (lt-leb (members_flat ms) most far)) (subst (λ b. Lifts (reading_by b R) w p s before fuel (Ok v) after left) (by_pointer far) h)))
        (λ near. subst (λ b. Passed before after fuel left v ((reading_by b R).steps w p s)) (sym (in_row near))
        (row_only near (count ∙ cond-true _ _ _ (le-leb (members_flat ms) most near)) (subst (λ b. Lifts (reading_by b R) w p s before fuel (Ok v) after left) (in_row near) h)))
        (cases_lt most (members_flat ms))

  pub only_passed : length words ≡ passed_count most ms → IsOnlyPassed R Means price most w ms words
  only_passed count before after fuel left v h =
      let (ts, rep, means, spent, lifted, took) = passed_only before after fuel left v count h in
      record { trees = ts; represented = rep; means = means; spent = spent; steps = lifted; taken = took }

  -- ---- and always there

  module _ (before after end : LedgerState) (fuel left : ℕ) (ts : Trees) (hs : List ℕ) (rep : RepValues most false w.encoding w.memory words ms ts) (few : price (parts ts) ≤ fuel) where
    area_there : most < members_flat ms → Represents w.memory w.encoding (stored tuple_area) s (parts ts)
    area_there far = (rep.far far).1.stored

    good_there : most < members_flat ms → IsGoodArea w p s
    unfolding align
    good_there far = ((rep.far far).1.aligned, (rep.far far).1.stored.0)

    area_faultless : most < members_flat ms → (k : Kind) (x : reach.At) → (area_reading R).faults w p s k x → ⊥
    area_faultless far k x (inl (inl (is, wrong))) = wrong (good_there far).0
    area_faultless far k x (inl (inr (is, aligned, outside))) = outside (good_there far).1
    area_faultless far k x (inr (good, h)) = faultless_at tuple_area (parts ts) k x (area_there far) h

    untold : most < members_flat ms → (k : Kind) (x : Place) → ToldAt ((area_reading R).faults w p s) k x → ⊥
    untold far k x (y, is, h) = area_faultless far k y h

    area_within : most < members_flat ms → fuel < (area_reading R).reach w p s → ⊥
    area_within far low =
        let reached : (area_reading R).reach w p s ≡ R.reach w (stored tuple_area) s = cond-true _ _ _ (good_area w p s (good_there far)) in
        omega (arith, low, reached, few, price_at tuple_area (parts ts) (area_there far))

    -- nothing but memory is wanting
    area_stopped : (e : Fault) → LeavesTake before ((area_reading R).steps w p s) hs end → Refused (area_reading R) w p s before fuel e after left → Remains e → (e ≡ fault.OutOfMemory) × (R.allocates ≡ true)
    area_stopped e took refused (inl is) = (is, refused.memory is)
    area_stopped e took refused (inr (r, is)) =
        absurd (leaves_excluded r before after end ((area_reading R).steps w p s) hs (subst (λ (o : Option ResourceFault). LeavesStop o before ((area_reading R).steps w p s) after) is refused.stops) took)

    area_always : (r : Result A Fault) → most < members_flat ms → LeavesTake before ((area_reading R).steps w p s) hs end → Lifts (area_reading R) w p s before fuel r after left
        → IsLifted R Means price (parts ts) end fuel r after left
    area_always (Ok v) far took ((good, read), spent) =
        let stepped : (area_reading R).steps w p s ≡ R.steps w (stored tuple_area) s = cond-true _ _ _ (good_area w p s good) in
        let reached : (area_reading R).reach w p s ≡ R.reach w (stored tuple_area) s = cond-true _ _ _ (good_area w p s good) in
        always_at (stored tuple_area) before after end fuel left (Ok v) (parts ts) hs (area_there far) few (subst (λ steps. LeavesTake before steps hs end) stepped took) (read, spent ∙ ap (λ n. left + n) reached)
    area_always (Err e) far took refused = area_stopped e took refused (remaining e
        (blamed_by (ToldAt ((area_reading R).faults w p s)) (λ k x. ⊥) (fuel < (area_reading R).reach w p s) ⊥ (untold far) (area_within far) e refused.cause))

    row_always : (r : Result A Fault) → members_flat ms ≤ most → LeavesTake before (R.steps w p s) hs end → Lifts R w p s before fuel r after left → IsLifted R Means price (parts ts) end fuel r after left
    row_always r near took h = always_at p before after end fuel left r (parts ts) hs (ts, refl, (rep.near near).1) few took h

    passed_always : (r : Result A Fault) → LeavesTake before ((reading_by (nat_le (flat s) most) R).steps w p s) hs end → Lifts (reading_by (nat_le (flat s) most) R) w p s before fuel r after left
        → IsLifted R Means price (parts ts) end fuel r after left
    passed_always r took h = ⊎_elim
        (λ far. area_always r far (subst (λ b. LeavesTake before ((reading_by b R).steps w p s) hs end) (by_pointer far) took) (subst (λ b. Lifts (reading_by b R) w p s before fuel r after left) (by_pointer far) h))
        (λ near. row_always r near (subst (λ b. LeavesTake before ((reading_by b R).steps w p s) hs end) (in_row near) took) (subst (λ b. Lifts (reading_by b R) w p s before fuel r after left) (in_row near) h))
        (cases_lt most (members_flat ms))

  pub always_passed : IsAlwaysPassed R Means price most w ms words
  always_passed before after end fuel left r ts hs rep few took h = passed_always before after end fuel left ts hs rep few r took h
