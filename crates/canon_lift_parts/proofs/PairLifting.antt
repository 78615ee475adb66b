-- The pair of a key and a value in memory.
use Rattle.std.proofs.Common.{◌≡◌, ◌≤◌, ◌+◌, ◌*◌, ◌%◌, ◌++◌, ◌∙◌, Bool, Err, List, None, Result, Some, [], ◌∷◌, ap, arith, false, length, refl, subst, sym, ℕ}
use Rattle.std.proofs.Math.Nat.{zero-mod}
use Rattle.std.proofs.lemmas.Nat.Gcd.{dvd_of_mod-eq-zero}
use Rattle.std.proofs.lemmas.Map.{update_all_push}
use Rattle.std.specs.HashMap.{HashMap, Updates, get}
use Rattle.canon_context.specs.Core.{Parts, component_types}
use Rattle.canon_context.specs.declared.fault.Fault.{Fault}
use Rattle.canon_ledger.specs.Ledger.{LedgerState}
use Rattle.canon_lowering.specs.Storing.{narrow}
use Rattle.canon_lowering.proofs.Copying.{begins-same}
use Rattle.canon_model.proofs.Layouts.{members_end-le-size}
use Rattle.canon_model.specs.Layout.{align, begins, ends, members_align, members_end, size}
use Rattle.canon_model.specs.Shape.{Shape, member, no_members, of_places, tuple}
use Rattle.canon_types.specs.Table.{TypeTable, members_of, shape_of}
use Rattle.canon_types.specs.declared.types.InterfaceType.{InterfaceType}
use Rattle.canon_typed.specs.Maps.{IsFilledWith}
use Rattle.canon_reading.specs.Items.{vec_reading}
use Rattle.canon_reading.specs.MapsOfTrees.{of_key, of_none, of_value, pair_reading, pair_taken, pairs_reading, value_reading, itself}
use Rattle.canon_reading.specs.Reading.{AreTaken, Lifts, Reading, Refused, Setting, setting_in}
use Rattle.canon_reading.specs.Readings.{item_spot, none_reading}
use Rattle.canon_reading.specs.Spots.{Spot, stored, stored_from}
use Rattle.canon_lift_parts.proofs.MemberSteps.{first_aligned, lift_first_inside, member_refused, others_refused, rest_aligned, rest_inside}
use Rattle.canon_lift_parts.proofs.Settings.{same_setting, same_shape}

starts-at-zero : (s : Shape) → begins false 0 s ≡ 0
starts-at-zero s = begins-same false 0 s (dvd_of_mod-eq-zero (align false s) (zero-mod _))

-- ---- where they stand

module _ (t : TypeTable) (key value : InterfaceType) (memory : List ℕ) (at : ℕ) where
  abbrev s : Shape
  s = shape_of t key

  abbrev u : Shape
  u = shape_of t value

  abbrev lift_pair : Shape
  lift_pair = tuple (s ∷ u ∷ [])

  module _ (aligned : at % align false lift_pair ≡ 0) (inside : at + size false lift_pair ≤ length memory) where
    both_aligned : at % members_align false (members_of t (key ∷ value ∷ [])) ≡ 0
    unfolding align
    both_aligned = aligned

    both_inside : at + members_end false 0 (members_of t (key ∷ value ∷ [])) ≤ length memory
    both_inside = omega (arith, inside, members_end-le-size false of_places (members_of t (key ∷ value ∷ [])))

    pub key_aligned : at % align false s ≡ 0
    key_aligned =
        let one = first_aligned t (key ∷ value ∷ []) (value ∷ []) key refl at 0 memory both_inside both_aligned in
        let here : at + begins false 0 s ≡ at = omega (arith, starts-at-zero s) in
        subst (λ n. n % align false s ≡ 0) here one

    pub key_inside : at + size false s ≤ length memory
    key_inside = omega (arith, lift_first_inside t (key ∷ value ∷ []) (value ∷ []) key refl at 0 memory both_inside both_aligned, starts-at-zero s)

    module _ (offset : ℕ) (is : offset ≡ begins false (ends false 0 s) u) where
      pub value_aligned : (at + offset) % align false u ≡ 0
      value_aligned = subst (λ n. (at + n) % align false u ≡ 0) (sym is)
          (first_aligned t (value ∷ []) [] value refl at (ends false 0 s) memory (rest_inside t (key ∷ value ∷ []) (value ∷ []) key refl at 0 memory both_inside both_aligned)
          (rest_aligned t (key ∷ value ∷ []) (value ∷ []) key refl at 0 memory both_inside both_aligned))

      pub value_inside : at + offset + size false u ≤ length memory
      value_inside = omega (
        arith,
        is,
        lift_first_inside t (value ∷ []) [] value refl at (ends false 0 s) memory (rest_inside t (key ∷ value ∷ []) (value ∷ []) key refl at 0 memory both_inside both_aligned)
            (rest_aligned t (key ∷ value ∷ []) (value ∷ []) key refl at 0 memory both_inside both_aligned),
      )

-- ---- what comes of them

module _ {D G K V : Type 0} (R : Reading K) (S : Reading V) (core : Parts D G) (o : ℕ) (key value : InterfaceType) (at : ℕ) where
  abbrev w : Setting
  w = setting_in core o

  abbrev ks : Shape
  ks = shape_of (component_types core) key

  abbrev vs : Shape
  vs = shape_of (component_types core) value

  abbrev lift_both : Shape
  lift_both = tuple (ks ∷ vs ∷ [])

  key_place : stored at ≡ stored (at + begins false 0 ks)
  key_place =
      let here : at ≡ at + begins false 0 ks = omega (arith, starts-at-zero ks) in
      ap stored here

  pub key_refused : (before after : LedgerState) (fuel left : ℕ) (e : Fault) → Refused R w (stored at) ks before fuel e after left → Refused (pair_reading R S) w (stored at) lift_both before fuel e after left
  key_refused before after fuel left e r =
      let h = member_refused of_key itself R (value_reading {K = K} S) w (stored_from at 0) [] ks (member [] vs no_members) lift_both before fuel e after left
      (subst (λ p. Refused R w p ks before fuel e after left) key_place r) in
      record { cause = h.cause; memory = h.memory; stops = h.stops; falls = h.falls }

  -- the value, where only the ledger changed
  module _ (now : Parts D G) (same : now ≡ record core { ledger = now.ledger }) (o2 : ℕ) (eo : o2 ≡ o) (offset : ℕ) (is : offset ≡ begins false (ends false 0 ks) vs) (before after : LedgerState)
      (fuel mid left : ℕ) (x : K) (taken : AreTaken R)
      (read : R.reads w (stored at) ks before x now.ledger) (spent : fuel ≡ mid + R.reach w (stored at) ks) where
    value_lifts : (r : Result V Fault) → Lifts S (setting_in now o2) (stored (at + offset)) (shape_of (component_types now) value) now.ledger mid r after left
        → Lifts S w (stored (at + begins false (ends false 0 ks) vs)) vs now.ledger mid r after left
    value_lifts r h =
        subst (λ n. Lifts S w (stored (at + n)) vs now.ledger mid r after left) is
        (subst (λ (z : Shape). Lifts S w (stored (at + offset)) z now.ledger mid r after left) (same_shape core now same value)
        (subst (λ (v : Setting). Lifts S v (stored (at + offset)) (shape_of (component_types now) value) now.ledger mid r after left) (same_setting core now same o o2 eo) h))

    pub lift_value_refused : (e : Fault) → Lifts S (setting_in now o2) (stored (at + offset)) (shape_of (component_types now) value) now.ledger mid (Err e) after left
        → Refused (pair_reading R S) w (stored at) lift_both before fuel e after left
    lift_value_refused e r =
        let second = member_refused (of_value {K = K}) of_none S (none_reading {A = Unit {0}}) w (stored_from at (ends false 0 ks)) [] vs no_members lift_both now.ledger mid e after left (value_lifts (Err e) r) in
        let h = others_refused of_key itself R (value_reading {K = K} S) w (stored_from at 0) [] ks (member [] vs no_members) lift_both before fuel taken x now.ledger mid
        (subst (λ p. R.reads w p ks before x now.ledger) key_place read) (subst (λ p. fuel ≡ mid + R.reach w p ks) key_place spent) e after left lift_both second in
        record { cause = h.cause; memory = h.memory; stops = h.stops; falls = h.falls }

-- ---- pairs in a row

module _ {D G K V : Type 0} (R : Reading K) (S : Reading V) (core : Parts D G) (o : ℕ) (key value : InterfaceType) where
  abbrev pair_in : Parts D G → Shape
  pair_in z = tuple (shape_of (component_types z) key ∷ shape_of (component_types z) value ∷ [])

  -- what lifting a pair answered, where only the ledger changed
  pub pair_item : (now : Parts D G) (o2 p k step at : ℕ) (before after : LedgerState) (fuel left : ℕ) (r : Result (K × V) Fault) → now ≡ record core { ledger = now.ledger } → o2 ≡ o → step ≡ size false (pair_in core) → at ≡ p + k * step
      → Lifts (pair_reading R S) (setting_in now o2) (stored at) (pair_in now) before fuel r after left
      → Lifts (pair_reading R S) (setting_in core o) (item_spot (narrow core.memory) (pair_in core) (stored p) k) (pair_in core) before fuel r after left
  pair_item now o2 p k step at before after fuel left r same eo es place h =
      let there : stored at ≡ item_spot (narrow core.memory) (pair_in core) (stored p) k = ap stored (place ∙ ap (λ n. p + k * n) es) in
      subst (λ x. Lifts (pair_reading R S) (setting_in core o) x (pair_in core) before fuel r after left) there
      (subst (λ n. Lifts (pair_reading R S) (setting_in core n) (stored at) (pair_in core) before fuel r after left) eo
      (subst (λ (z : Parts D G). Lifts (pair_reading R S) (setting_in z o2) (stored at) (pair_in z) before fuel r after left) same h))

-- as pairs that a map was filled with
pub pairs_refused : {K V Z : Type 0} (eq : K → K → Bool) (n : ℕ) (R : Reading K) (S : Reading V) (w : Setting) (at : Spot) (s : Shape) (before after : LedgerState) (fuel left : ℕ) (e : Fault)
    → Refused (vec_reading n (pair_reading R S)) w at s before fuel e after left → Refused (pairs_reading {Z = Z} eq n R S) w at s before fuel e after left
pairs_refused eq n R S w at s before after fuel left e r = record { cause = r.cause; memory = r.memory; stops = r.stops; falls = r.falls }

pub pair_law : {K V : Type 0} (R : Reading K) (S : Reading V) → AreTaken R → AreTaken S → AreTaken (pair_reading R S)
pair_law R S law law2 = pair_taken R S law law2

pub filled_more : {K V Z : Type 0} (eq : K → K → Bool) (pairs : List (K × V)) (old new : HashMap K V Z) (p : K × V) → IsFilledWith eq pairs old → Updates eq old new p.0 (Some p.1) → IsFilledWith eq (pairs ++ p ∷ []) new
filled_more eq pairs old new p h updates k = updates.0 k ∙ update_all_push eq (λ q. None) (get eq old) pairs p k (h k)
