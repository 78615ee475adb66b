-- Values of one type in a row, lifted one after another.
use Rattle.std.proofs.Common.{◌≡◌, ◌<◌, ◌+◌, ◌-◌, ◌*◌, ◌++◌, ◌∙◌, ◌≤◌, Err, List, None, Ok, Result, Vec, [], ◌∷◌, ap, append_assoc, arith, length, length-append}
use Rattle.std.proofs.Common.{mul-le-mul_right, refl, subst, suc, suc-mul, sym, zero, ℕ}
use Rattle.std.proofs.Math.Nat.{add-mul, one-mul}
use Rattle.std.specs.declared.alloc.Global.{Global}
use Rattle.canon_context.specs.Core.{Parts, component_types}
use Rattle.canon_context.specs.declared.fault.At.{At as Place}
use Rattle.canon_context.specs.declared.fault.Fault.{Fault}
use Rattle.canon_context.specs.declared.fault.Fault.TheVariants as fault
use Rattle.canon_resources.specs.Parts.{LeavesStop, Part}
use Rattle.canon_ledger.specs.Ledger.{LedgerState}
use Rattle.canon_lowering.specs.Storing.{narrow}
use Rattle.canon_model.specs.Layout.{flat, size}
use Rattle.canon_model.specs.Memory.{Memory}
use Rattle.canon_model.specs.Reach as reach
use Rattle.canon_model.specs.Reach.{Kind}
use Rattle.canon_model.specs.Shape.{Shape}
use Rattle.canon_types.specs.Instance.{Instance}
use Rattle.canon_types.specs.Table.{Knows, shape_of}
use Rattle.canon_types.specs.declared.types.InterfaceType.{InterfaceType}
use Rattle.canon_reading.specs.Items.{vec_reading}
use Rattle.canon_lift.specs.Ranges.{HasItems, IsListFrom}
use Rattle.canon_reading.specs.Reading.{AreTaken, Lifts, NamedBy, Reading, Refused, Setting, setting_in}
use Rattle.canon_context.specs.Faults.{stop_of}
use Rattle.canon_reading.specs.Readings.{EachFault, EachReads, IsGoodList, each_reach, each_steps, fixed_element, fixed_reading, item_spot, read_as}
use Rattle.canon_reading.specs.Spots.{Spot, behind, flat_in, stored}
use Rattle.canon_reading.specs.Taken.{each_counted}
use Rattle.canon_lift.specs.declared.wasm_list.WasmList.{WasmList}
use Rattle.canon_lift_parts.proofs.Refusals.{lift_named_by, refused_by, lift_stops_after, stops_first, stops_second}
use Rattle.canon_lift_parts.proofs.Settings.{same_setting, same_shape}

-- ---- where items stand

module _ (m : Memory) (s : Shape) where
  item_zero : (at : Spot) → item_spot m s at 0 ≡ at
  item_zero (stored a) = ap stored (omega arith)
  item_zero (flat_in ws i) = ap (λ j. flat_in ws j) (omega arith)

  pub item_next : (at : Spot) (i : ℕ) → item_spot m s (behind m s at) i ≡ item_spot m s at (suc i)
  item_next (stored a) i = ap stored (omega (arith, suc-mul i (size m.wide s)))
  item_next (flat_in ws j) i = ap (λ l. flat_in ws l) (omega (arith, suc-mul i (flat s)))

  -- items are named as the row is
  item_named : (F : Kind → reach.At → Type 0) (at : Spot) (i : ℕ) (k : Kind) (x : Place) → NamedBy (item_spot m s at i) F k x → NamedBy at F k x
  item_named F (stored a) i k x h = h
  item_named F (flat_in ws j) i k x h = h

module _ {A : Type 0} (R : Reading A) (w : Setting) (s : Shape) where
  -- one more at the end
  each_more : (at : Spot) (before mid after : LedgerState) (xs : List A) (x : A) → EachReads R w s at before xs mid → R.reads w (item_spot w.memory s at (length xs)) s mid x after
      → EachReads R w s at before (xs ++ x ∷ []) after
  each_more at before mid after [] x same h =
      (after, subst (λ (l : LedgerState). R.reads w at s l x after) same (subst (λ p. R.reads w p s mid x after) (item_zero w.memory s at) h), refl)
  each_more at before mid after (y ∷ ys) x (l, first, rest) h =
      (l, first, each_more (behind w.memory s at) l mid after ys x rest (subst (λ p. R.reads w p s mid x after) (sym (item_next w.memory s at (length ys))) h))

  -- so many, and those behind them
  reach_split : (k j : ℕ) (at : Spot) → each_reach R w s at (k + j) ≡ each_reach R w s at k + each_reach R w s (item_spot w.memory s at k) j
  reach_split zero j at =
      let all : 0 + j ≡ j = omega arith in
      omega (arith, ap (λ i. each_reach R w s at i) all, ap (λ p. each_reach R w s p j) (item_zero w.memory s at))
  reach_split (suc k) j at =
      let all : suc k + j ≡ suc (k + j) = omega arith in
      omega (arith, ap (λ i. each_reach R w s at i) all, reach_split k j (behind w.memory s at), ap (λ p. each_reach R w s p j) (item_next w.memory s at k))

  steps_split : (k j : ℕ) (at : Spot) → each_steps R w s at (k + j) ≡ each_steps R w s at k ++ each_steps R w s (item_spot w.memory s at k) j
  steps_split zero j at =
      let all : 0 + j ≡ j = omega arith in
      ap (λ i. each_steps R w s at i) all ∙ ap (λ p. each_steps R w s p j) (sym (item_zero w.memory s at))
  steps_split (suc k) j at =
      let all : suc k + j ≡ suc (k + j) = omega arith in
      ap (λ i. each_steps R w s at i) all
      ∙ ap (λ ps. R.steps w at s ++ ps) (steps_split k j (behind w.memory s at) ∙ ap (λ p. each_steps R w s (behind w.memory s at) k ++ each_steps R w s p j) (item_next w.memory s at k))
      ∙ sym (append_assoc (R.steps w at s) (each_steps R w s (behind w.memory s at) k) (each_steps R w s (item_spot w.memory s at (suc k)) j))

  reach_more : (k : ℕ) (at : Spot) → each_reach R w s at (k + 1) ≡ each_reach R w s at k + R.reach w (item_spot w.memory s at k) s
  reach_more k at = omega (arith, reach_split k 1 at)

  -- what is left behind item k of n
  behind_reach : (k n : ℕ) (at : Spot) → k < n
      → each_reach R w s at n ≡ each_reach R w s at k + (R.reach w (item_spot w.memory s at k) s + each_reach R w s (behind w.memory s (item_spot w.memory s at k)) (n - suc k))
  behind_reach k n at few =
      let whole : n ≡ k + suc (n - suc k) = omega (arith, few) in
      ap (λ i. each_reach R w s at i) whole ∙ reach_split k (suc (n - suc k)) at

  behind_steps : (k n : ℕ) (at : Spot) → k < n
      → each_steps R w s at n ≡ each_steps R w s at k ++ (R.steps w (item_spot w.memory s at k) s ++ each_steps R w s (behind w.memory s (item_spot w.memory s at k)) (n - suc k))
  behind_steps k n at few =
      let whole : n ≡ k + suc (n - suc k) = omega (arith, few) in
      ap (λ i. each_steps R w s at i) whole ∙ steps_split k (suc (n - suc k)) at

  -- the first k items were lifted
  pub record IsSoFar (at : Spot) (before mid : LedgerState) (xs : List A) (k fuel now : ℕ) : Type 0 where
    pub count : length xs ≡ k
    pub each : EachReads R w s at before xs mid
    pub spent : fuel ≡ now + each_reach R w s at k

  module _ {at : Spot} {before mid : LedgerState} {xs : List A} {k fuel now : ℕ} (h : IsSoFar at before mid xs k fuel now) (after : LedgerState) (left : ℕ) where
    -- one more was
    pub one_more : (x : A) → Lifts R w (item_spot w.memory s at k) s mid now (Ok x) after left → IsSoFar at before after (xs ++ x ∷ []) (k + 1) fuel left
    one_more x (read, spent) = record {
      count = length-append xs (x ∷ []) ∙ ap (λ n. n + 1) h.count;
      each = each_more at before mid after xs x h.each (subst (λ n. R.reads w (item_spot w.memory s at n) s mid x after) (sym h.count) read);
      spent = omega (arith, h.spent, spent, reach_more k at);
    }

    module _ (taken : AreTaken R) (n : ℕ) (few : k < n) where
      -- it was not
      pub item_refused : (e : Fault) → Lifts R w (item_spot w.memory s at k) s mid now (Err e) after left → Refused (vec_reading n R) w at s before fuel e after left
      item_refused e r =
          refused_by R (vec_reading n R) w (item_spot w.memory s at k) at s s mid before after now fuel left e
          (λ l x f. item_named w.memory s (EachFault R w s at n) at k l x
          (lift_named_by (item_spot w.memory s at k) (R.faults w (item_spot w.memory s at k) s) (EachFault R w s at n) (λ j y g. (k, few, g)) l x f))
          (λ low. omega (arith, low, h.spent, behind_reach k n at few))
          (λ is. refl)
          (λ stops. subst (λ (ps : List (List Part)). LeavesStop (stop_of e) before ps after) (sym (behind_steps k n at few))
          (stops_second (stop_of e) before mid after _ _ (each_counted R taken w s at k before mid xs h.count h.each) (stops_first (stop_of e) mid after _ _ stops)))
          (omega (arith, h.spent)) r

      -- there was no room for it
      pub item_lost : (x : A) → Lifts R w (item_spot w.memory s at k) s mid now (Ok x) after left → Refused (vec_reading n R) w at s before fuel fault.OutOfMemory after left
      item_lost x (read, spent) = record {
        cause = tt;
        memory = λ is. refl;
        stops = subst (λ (ps : List (List Part)). LeavesStop None before ps after) (sym (behind_steps k n at few))
            (stops_second None before mid after _ _ (each_counted R taken w s at k before mid xs h.count h.each)
            (stops_first None mid after _ _ (lift_stops_after mid after _ None refl (taken w (item_spot w.memory s at k) s mid after x read))));
        falls = omega (arith, h.spent, spent);
      }

  -- all were, or none yet
  pub all_lifted : {at : Spot} {before after : LedgerState} {k fuel left : ℕ} (v : Vec A Global) → IsSoFar at before after v.items k fuel left → (n : ℕ) → k ≡ n
      → Lifts (vec_reading n R) w at s before fuel (Ok v) after left
  all_lifted {at} {before} {after} {k} {fuel} {left} v h n all = ((h.count ∙ all, h.each), h.spent ∙ ap (λ j. left + each_reach R w s at j) all)

  pub none_lifted : (at : Spot) (before : LedgerState) (xs : List A) (fuel : ℕ) → xs ≡ [] → IsSoFar at before before xs 0 fuel fuel
  none_lifted at before xs fuel none = record {
    count = ap length none;
    each = subst (λ ys. EachReads R w s at before ys before) (sym none) refl;
    spent = omega arith;
  }

-- ---- as a list of fixed length

pub fixed_refused : {A B : Type 0} (n : ℕ) (R : Reading A) (f : B → List A) (w : Setting) (at : Spot) (s u : Shape) (before after : LedgerState) (fuel left : ℕ) (e : Fault) → u ≡ fixed_element s
    → Refused (vec_reading n R) w at u before fuel e after left → Refused (read_as f (fixed_reading n R)) w at s before fuel e after left
fixed_refused n R f w at s u before after fuel left e is r =
    let h = subst (λ (z : Shape). Refused (vec_reading n R) w at z before fuel e after left) is r in
    record { cause = h.cause; memory = h.memory; stops = h.stops; falls = h.falls }

-- item k of so many ends where they end, or before
pub lift_row_room : (p k count step size n : ℕ) → k < count → step ≡ size → p + count * size ≤ n → p + k * step + size ≤ n
lift_row_room p k count step size n few is room =
    let all : (k + 1) * size ≤ count * size = mul-le-mul_right size (omega (arith, few)) in
    let one : (k + 1) * size ≡ k * size + size = add-mul k 1 size ∙ ap (λ j. k * size + j) (one-mul size) in
    let here : k * step ≡ k * size = ap (λ j. k * j) is in
    omega (arith, all, one, here, room)

-- ---- items in memory and in words

-- what lifting item k answered, where only the ledger changed
pub item_lifts : {D G A : Type 0} (R : Reading A) (core now : Parts D G) (o o2 : ℕ) (type : InterfaceType) (row at : Spot) (k : ℕ) (before after : LedgerState) (fuel left : ℕ) (r : Result A Fault)
    → now ≡ record core { ledger = now.ledger } → o2 ≡ o → at ≡ item_spot (narrow core.memory) (shape_of (component_types core) type) row k
    → Lifts R (setting_in now o2) at (shape_of (component_types now) type) before fuel r after left
    → Lifts R (setting_in core o) (item_spot (narrow core.memory) (shape_of (component_types core) type) row k) (shape_of (component_types core) type) before fuel r after left
item_lifts R core now o o2 type row at k before after fuel left r same eo place h =
    let s = shape_of (component_types core) type in
    subst (λ (x : Spot). Lifts R (setting_in core o) x s before fuel r after left) place
    (subst (λ (z : Shape). Lifts R (setting_in core o) at z before fuel r after left) (same_shape core now same type)
    (subst (λ (v : Setting). Lifts R v at (shape_of (component_types now) type) before fuel r after left) (same_setting core now same o o2 eo) h))

-- ---- a row that was made of its parts

module _ {A : Type 0} (w : Setting) (element : InterfaceType) (p n : ℕ) (v : WasmList A) (is : IsListFrom w element p n v) where
  pub row_items : (Fit : Instance → InterfaceType → Type 0) → Knows w.types.types element → Fit w.types element → IsGoodList w.memory (shape_of w.types.types element) p n → HasItems Fit w v
  row_items Fit known fits good = record {
    known = subst (λ t. Knows w.types.types t) (sym is.element_is) known;
    fits = subst (λ t. Fit w.types t) (sym is.element_is) fits;
    good = subst (λ t. IsGoodList w.memory (shape_of w.types.types t) v.pointer v.count) (sym is.element_is)
        (subst (λ k. IsGoodList w.memory (shape_of w.types.types element) k v.count) (sym is.pointer) (subst (λ k. IsGoodList w.memory (shape_of w.types.types element) p k) (sym is.count) good));
  }

  pub lift_row_refused : (R : Reading A) (before after : LedgerState) (fuel left : ℕ) (e : Fault)
      → Refused (vec_reading v.count R) w (stored v.pointer) (shape_of w.types.types v.element) before fuel e after left
      → Refused (vec_reading n R) w (stored p) (shape_of w.types.types element) before fuel e after left
  lift_row_refused R before after fuel left e r =
      subst (λ k. Refused (vec_reading k R) w (stored p) (shape_of w.types.types element) before fuel e after left) is.count
      (subst (λ k. Refused (vec_reading v.count R) w (stored k) (shape_of w.types.types element) before fuel e after left) is.pointer
      (subst (λ t. Refused (vec_reading v.count R) w (stored v.pointer) (shape_of w.types.types t) before fuel e after left) is.element_is r))
