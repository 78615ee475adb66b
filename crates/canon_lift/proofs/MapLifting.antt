-- Maps and vectors, from the items of their lists.
use Rattle.std.proofs.Common.{◌≡◌, ◌+◌, ◌*◌, ◌%◌, ◌==◌, ◌∙◌, Bool, Err, List, Ok, Result, ap, arith, eq-eqb, if◌then◌else◌, inr, le-leb, refl, subst, sym, Vec, ℕ}
use Rattle.std.proofs.lemmas.Bool.{and_from, cond-true}
use Rattle.std.specs.HashMap.{HashMap}
use Rattle.std.specs.declared.alloc.Global.{Global}
use Rattle.canon_context.specs.Core.{Parts, component_types}
use Rattle.canon_context.specs.declared.fault.Fault.{Fault}
use Rattle.canon_resources.specs.Parts.{LeavesStop, Part}
use Rattle.canon_ledger.specs.Ledger.{LedgerState}
use Rattle.canon_model.specs.Layout.{align, size}
use Rattle.canon_model.specs.Reach.{is_inside}
use Rattle.canon_model.specs.Shape.{Shape}
use Rattle.canon_types.specs.Depth.{element_shape}
use Rattle.canon_types.specs.Instance.{Instance}
use Rattle.canon_types.specs.Table.{shape_of}
use Rattle.canon_types.specs.declared.types.InterfaceType.{InterfaceType}
use Rattle.canon_reading.specs.Items.{vec_reading}
use Rattle.canon_reading.specs.MapsOfTrees.{map_reading, pair_reading, pairs_reading}
use Rattle.canon_lift.specs.Ranges.{IsListThere, list_range_reach}
use Rattle.canon_reading.specs.Reading.{Lifts, Reading, Setting, setting_in}
use Rattle.canon_context.specs.Faults.{stop_of}
use Rattle.canon_reading.specs.Readings.{IsGoodList, each_reach, each_steps, list_reading, read_as}
use Rattle.canon_reading.specs.Spots.{HasRoom, Spot, length_in, pointer_in, stored}
use Rattle.canon_lift.specs.declared.wasm_list.WasmList.{WasmList}
use Rattle.canon_lift_parts.proofs.Refusals.{named_in, refused_by}

-- the charges and the handles of a list that lies in memory
module _ {A : Type 0} (bytes : ℕ) (P : Reading A) (w : Setting) (at : Spot) (s : Shape) (good : IsGoodList w.memory (element_shape s) (pointer_in w.memory at) (length_in w.memory at)) where
  abbrev e : Shape
  e = element_shape s

  abbrev p : ℕ
  p = pointer_in w.memory at

  abbrev n : ℕ
  n = length_in w.memory at

  pub reach_is : (list_reading bytes P).reach w at s ≡ n * bytes + each_reach P w e (stored p) n
  reach_is =
      let all : ℕ = each_reach P w e (stored p) n in
      let outer = cond-true (is_inside w.memory p (n * size w.memory.wide e)) (n * bytes + (if p % align w.memory.wide e == 0 then all else 0)) 0 (le-leb _ _ good.1) in
      outer ∙ ap (λ k. n * bytes + k) (cond-true (p % align w.memory.wide e == 0) all 0 (eq-eqb _ _ good.0))

  pub steps_are : (list_reading bytes P).steps w at s ≡ each_steps P w e (stored p) n
  steps_are = cond-true _ _ _ (and_from _ _ (le-leb _ _ good.1) (eq-eqb _ _ good.0))

module _ {K V Z : Type 0} (eq : K → K → Bool) (bytes : ℕ) (R : Reading K) (S : Reading V) (w : Setting) (at : Spot) (s : Shape) (before after : LedgerState) (fuel mid left : ℕ) where
  map_of_pairs : (r : Result (HashMap K V Z) Fault) → HasRoom w.memory at s → IsGoodList w.memory (element_shape s) (pointer_in w.memory at) (length_in w.memory at) → fuel ≡ mid + length_in w.memory at * bytes
      → Lifts (pairs_reading {Z = Z} eq (length_in w.memory at) R S) w (stored (pointer_in w.memory at)) (element_shape s) before mid r after left → Lifts (map_reading {Z = Z} eq bytes R S) w at s before fuel r after left
  map_of_pairs (Ok m) room good spent ((pairs, count, each, filled), cost) =
      ((pairs, (room, good, count, each), filled), omega (arith, spent, cost, reach_is bytes (pair_reading R S) w at s good))
  map_of_pairs (Err e) room good spent h =
      let items = pairs_reading {Z = Z} eq (length_in w.memory at) R S in
      let whole = map_reading {Z = Z} eq bytes R S in
      refused_by items whole w (stored (pointer_in w.memory at)) at (element_shape s) s before before after mid fuel left e
      (named_in at (pointer_in w.memory at) (items.faults w (stored (pointer_in w.memory at)) (element_shape s)) (whole.faults w at s) (λ k x f. inr (good, f)))
      (λ low. omega (arith, low, spent, reach_is bytes (pair_reading R S) w at s good)) (λ all. refl)
      (λ stops. subst (λ (ps : List (List Part)). LeavesStop (stop_of e) before ps after) (sym (steps_are bytes (pair_reading R S) w at s good)) stops) (omega (arith, spent)) h

  pub map_lifts : (r : Result (HashMap K V Z) Fault) (e : Shape) (p n : ℕ) → e ≡ element_shape s → p ≡ pointer_in w.memory at → n ≡ length_in w.memory at → HasRoom w.memory at s → IsGoodList w.memory e p n → fuel ≡ mid + n * bytes
      → Lifts (pairs_reading {Z = Z} eq n R S) w (stored p) e before mid r after left → Lifts (map_reading {Z = Z} eq bytes R S) w at s before fuel r after left
  map_lifts r e p n es ep en room good spent h =
      let m = w.memory in
      map_of_pairs r room
      (subst (λ (z : Shape). IsGoodList m z (pointer_in m at) (length_in m at)) es (subst (λ k. IsGoodList m e k (length_in m at)) ep (subst (λ k. IsGoodList m e p k) en good)))
      (subst (λ k. fuel ≡ mid + k * bytes) en spent)
      (subst (λ (z : Shape). Lifts (pairs_reading {Z = Z} eq (length_in m at) R S) w (stored (pointer_in m at)) z before mid r after left) es
      (subst (λ k. Lifts (pairs_reading {Z = Z} eq (length_in m at) R S) w (stored k) e before mid r after left) ep
      (subst (λ k. Lifts (pairs_reading {Z = Z} eq k R S) w (stored p) e before mid r after left) en h)))

-- ---- a vector, from the list that stays in memory

module _ {D G A : Type 0} (bytes : ℕ) (R : Reading A) (Fit : Instance → InterfaceType → Type 0) (core : Parts D G) (o : ℕ) (at : Spot) (s : Shape) (v : WasmList A) (there : IsListThere Fit (setting_in core o) at s v) where
  abbrev w : Setting
  w = setting_in core o

  its_good : IsGoodList w.memory (element_shape s) (pointer_in w.memory at) (length_in w.memory at)
  its_good = subst (λ (z : Shape). IsGoodList w.memory z (pointer_in w.memory at) (length_in w.memory at)) there.shape
      (subst (λ k. IsGoodList w.memory (shape_of w.types.types v.element) k (length_in w.memory at)) there.pointer (subst (λ k. IsGoodList w.memory (shape_of w.types.types v.element) v.pointer k) there.count there.items.good))

  module _ (after : LedgerState) (fuel mid left : ℕ) (room : HasRoom w.memory at s) (spent : fuel ≡ mid + list_range_reach bytes w at s) where
    charged : fuel ≡ mid + length_in w.memory at * bytes
    charged = omega (arith, spent, cond-true (is_inside w.memory (pointer_in w.memory at) (length_in w.memory at * size w.memory.wide (element_shape s))) (length_in w.memory at * bytes) 0 (le-leb _ _ its_good.1))

    of_items_read : (r : Result (Vec A Global) Fault) → Lifts (vec_reading (length_in w.memory at) R) w (stored (pointer_in w.memory at)) (element_shape s) core.ledger mid r after left
        → Lifts (read_as (λ x. x.items) (list_reading bytes R)) w at s core.ledger fuel r after left
    of_items_read (Ok x) ((count, each), cost) = ((room, its_good, count, each), omega (arith, charged, cost, reach_is bytes R w at s its_good))
    of_items_read (Err e) h =
        let items : Reading (Vec A Global) = vec_reading (length_in w.memory at) R in
        let whole : Reading (Vec A Global) = read_as (λ x. x.items) (list_reading bytes R) in
        refused_by items whole w (stored (pointer_in w.memory at)) at (element_shape s) s core.ledger core.ledger after mid fuel left e
        (named_in at (pointer_in w.memory at) (items.faults w (stored (pointer_in w.memory at)) (element_shape s)) (whole.faults w at s) (λ k x f. inr (its_good, f)))
        (λ low. omega (arith, low, charged, reach_is bytes R w at s its_good)) (λ all. refl)
        (λ stops. subst (λ (ps : List (List Part)). LeavesStop (stop_of e) core.ledger ps after) (sym (steps_are bytes R w at s its_good)) stops) (omega (arith, charged)) h

    pub vec_lifts : (now : Parts D G) (o2 : ℕ) (r : Result (Vec A Global) Fault) → now ≡ record core { ledger = now.ledger } → now.ledger ≡ core.ledger → o2 ≡ o
        → Lifts (vec_reading v.count R) (setting_in now o2) (stored v.pointer) (shape_of (component_types now) v.element) now.ledger mid r after left
        → Lifts (read_as (λ x. x.items) (list_reading bytes R)) w at s core.ledger fuel r after left
    vec_lifts now o2 r same kept eo h =
        of_items_read r
        (subst (λ (z : Shape). Lifts (vec_reading (length_in w.memory at) R) w (stored (pointer_in w.memory at)) z core.ledger mid r after left) there.shape
        (subst (λ k. Lifts (vec_reading (length_in w.memory at) R) w (stored k) (shape_of w.types.types v.element) core.ledger mid r after left) there.pointer
        (subst (λ k. Lifts (vec_reading k R) w (stored v.pointer) (shape_of w.types.types v.element) core.ledger mid r after left) there.count
        (subst (λ (l : LedgerState). Lifts (vec_reading v.count R) w (stored v.pointer) (shape_of w.types.types v.element) l mid r after left) kept
        (subst (λ n. Lifts (vec_reading v.count R) (setting_in core n) (stored v.pointer) (shape_of (component_types core) v.element) now.ledger mid r after left) eo
        (subst (λ (z : Parts D G). Lifts (vec_reading v.count R) (setting_in z o2) (stored v.pointer) (shape_of (component_types z) v.element) now.ledger mid r after left) same h))))))
