-- Options and results, from their payloads.
use Rattle.std.proofs.Common.{◌≡◌, ◌≤◌, ◌<◌, ◌+◌, ◌%◌, ◌==◌, ◌∙◌, Bool, Err, List, None, Ok, Result, Some, ap, arith, false, if◌then◌else◌, inl, inr, length, refl, subst, sym, ℕ}
use Rattle.canon_abi.specs.Sizes.{tag_bytes}
use Rattle.canon_abi.specs.declared.abi.VariantInfo.{VariantInfo}
use Rattle.canon_context.specs.Core.{Parts}
use Rattle.canon_context.specs.declared.fault.At.{At as Place}
use Rattle.canon_context.specs.declared.fault.Fault.{Fault}
use Rattle.canon_resources.specs.Parts.{LeavesStop, Part}
use Rattle.canon_ledger.specs.Ledger.{LedgerState}
use Rattle.canon_lowering.specs.Storing.{narrow}
use Rattle.canon_model.specs.Layout.{align, payload_shape, size}
use Rattle.canon_model.specs.Memory.{num}
use Rattle.canon_model.specs.Reach as reach
use Rattle.canon_model.specs.Reach.{Kind}
use Rattle.canon_model.specs.Shape.{Shape, case_count}
use Rattle.canon_types.specs.Depth.{variant_cases}
use Rattle.canon_reading.specs.Reading.{Lifts, NamedBy, Reading, Refused, Setting, setting_in}
use Rattle.canon_context.specs.Faults.{stop_of}
use Rattle.canon_reading.specs.Readings.{CaseReads, CasesFault, cases_reach, cases_reading, OptionReads, ResultReads, nothing_reading, option_reading, payload_reading, result_reading}
use Rattle.canon_reading.specs.Spots.{HasRoom, Spot, flat_in, payload_spot, stored, tag_in}
use Rattle.canon_lift_parts.proofs.CaseLifting.{IsOfCases, or_left, or_right, payload_aligned, payload_inside, place_is, tag_is}
use Rattle.canon_lift_parts.proofs.Refusals.{lift_named_by, refused_by}

-- what is known of a value of cases at a spot: its discriminant, and where the payload stands
pub record HasCase (w : Setting) (at next : Spot) (s : Shape) (n : ℕ) : Type 0 where
  pub room : HasRoom w.memory at s
  pub tag : tag_in w.memory at (variant_cases s) ≡ n
  pub there : next ≡ payload_spot w.memory at (variant_cases s)

-- what was made of a payload
abbrev pub made : {A C : Type 0} → (A → C) → Result A Fault → Result C Fault
made f (Ok v) = Ok (f v)
made f (Err e) = Err e

-- which of two it is
first_of : {A : Type 0} (n : ℕ) (x y z : A) → n ≡ 0 → (if n == 0 then x else if n == 1 then y else z) ≡ x
first_of n x y z h = subst (λ k. (if k == 0 then x else if k == 1 then y else z) ≡ x) (sym h) refl

second_of : {A : Type 0} (n : ℕ) (x y z : A) → n ≡ 1 → (if n == 0 then x else if n == 1 then y else z) ≡ y
second_of n x y z h = subst (λ k. (if k == 0 then x else if k == 1 then y else z) ≡ y) (sym h) refl

-- a fault of the payload's spot, where it is one of the whole
payload_named : (w : Setting) (s : Shape) (at : Spot) (F G : Kind → reach.At → Type 0) → ((k : Kind) (x : reach.At) → F k x → G k x) → (k : Kind) (x : Place)
    → NamedBy (payload_spot w.memory at (variant_cases s)) F k x → NamedBy at G k x
payload_named w s (stored a) F G f k x h = lift_named_by (stored a) F G f k x h
payload_named w s (flat_in ws i) F G f k x h = lift_named_by (flat_in ws i) F G f k x h

module _ {A B C : Type 0} (R : Reading A) (S : Reading B) (Reads : Setting → Spot → Shape → LedgerState → C → LedgerState → Type 0)
    (w : Setting) (at : Spot) (s : Shape) (before after : LedgerState) (fuel left : ℕ) where
  abbrev tag : ℕ
  tag = tag_in w.memory at (variant_cases s)

  abbrev spot : Spot
  spot = payload_spot w.memory at (variant_cases s)

  abbrev whole : Reading C
  whole = cases_reading R S Reads

  first_reach : tag ≡ 0 → cases_reach R S w at s ≡ R.reach w spot (payload_shape (variant_cases s) 0)
  first_reach h = first_of tag _ _ _ h

  second_reach : tag ≡ 1 → cases_reach R S w at s ≡ S.reach w spot (payload_shape (variant_cases s) 1)
  second_reach h = second_of tag _ _ _ h

  first_refused : tag ≡ 0 → (e : Fault) → Refused R w spot (payload_shape (variant_cases s) 0) before fuel e after left → Refused whole w at s before fuel e after left
  first_refused h e r =
      refused_by R whole w spot at (payload_shape (variant_cases s) 0) s before before after fuel fuel left e
      (payload_named w s at (R.faults w spot (payload_shape (variant_cases s) 0)) (CasesFault R S w at s) (λ k x f. inr (inl (h, f))))
      (λ low. omega (arith, low, first_reach h)) (λ all. or_left R.allocates S.allocates all)
      (λ stops. subst (λ (ps : List (List Part)). LeavesStop (stop_of e) before ps after) (sym (first_of tag _ _ _ h)) stops) (omega arith) r

  second_refused : tag ≡ 1 → (e : Fault) → Refused S w spot (payload_shape (variant_cases s) 1) before fuel e after left → Refused whole w at s before fuel e after left
  second_refused h e r =
      refused_by S whole w spot at (payload_shape (variant_cases s) 1) s before before after fuel fuel left e
      (payload_named w s at (S.faults w spot (payload_shape (variant_cases s) 1)) (CasesFault R S w at s) (λ k x f. inr (inr (h, f))))
      (λ low. omega (arith, low, second_reach h)) (λ all. or_right R.allocates S.allocates all)
      (λ stops. subst (λ (ps : List (List Part)). LeavesStop (stop_of e) before ps after) (sym (second_of tag _ _ _ h)) stops) (omega arith) r

  -- lifting of a payload tells of the whole, by the discriminant
  first_by : (f : A → C) → ((v : A) → CaseReads 0 R w at s before v after → Reads w at s before (f v) after) → HasRoom w.memory at s → tag ≡ 0 → (r : Result A Fault)
      → Lifts R w spot (payload_shape (variant_cases s) 0) before fuel r after left → Lifts whole w at s before fuel (made f r) after left
  first_by f reads room h (Ok v) (read, spent) = (reads v (room, h, read), omega (arith, spent, first_reach h))
  first_by f reads room h (Err e) r = first_refused h e r

  second_by : (f : B → C) → ((v : B) → CaseReads 1 S w at s before v after → Reads w at s before (f v) after) → HasRoom w.memory at s → tag ≡ 1 → (r : Result B Fault)
      → Lifts S w spot (payload_shape (variant_cases s) 1) before fuel r after left → Lifts whole w at s before fuel (made f r) after left
  second_by f reads room h (Ok v) (read, spent) = (reads v (room, h, read), omega (arith, spent, second_reach h))
  second_by f reads room h (Err e) r = second_refused h e r

-- the same, at the spot and of the shape that lifting knows the payload by
module _ {w : Setting} {at next : Spot} {s : Shape} {n : ℕ} (h : HasCase w at next s n) {A : Type 0} (R : Reading A) (one : Shape) (d : ℕ) (same : one ≡ payload_shape (variant_cases s) d) where
  placed : (before after : LedgerState) (fuel left : ℕ) (r : Result A Fault) → Lifts R w next one before fuel r after left
      → Lifts R w (payload_spot w.memory at (variant_cases s)) (payload_shape (variant_cases s) d) before fuel r after left
  placed before after fuel left r lifts =
      subst (λ (p : Spot). Lifts R w p (payload_shape (variant_cases s) d) before fuel r after left) h.there
      (subst (λ (z : Shape). Lifts R w next z before fuel r after left) same lifts)

module _ {w : Setting} {at next : Spot} {s : Shape} {n : ℕ} (h : HasCase w at next s n) (before : LedgerState) (fuel : ℕ) where
  pub none_lifts : {A : Type 0} (R : Reading A) → n ≡ 0 → Lifts (option_reading R) w at s before fuel (Ok None) before fuel
  none_lifts R is = ((h.room, h.tag ∙ is, refl), omega (arith, first_reach {A = Unit {0}} nothing_reading R (OptionReads R) w at s before before fuel fuel (h.tag ∙ is)))

  module _ (one : Shape) (after : LedgerState) (left : ℕ) where
    pub some_lifts : {A : Type 0} (R : Reading A) → n ≡ 1 → one ≡ payload_shape (variant_cases s) 1 → (r : Result A Fault)
        → Lifts R w next one before fuel r after left → Lifts (option_reading R) w at s before fuel (made (λ v. Some v) r) after left
    some_lifts R is same r lifts =
        second_by {A = Unit {0}} nothing_reading R (OptionReads R) w at s before after fuel left (λ v. Some v) (λ v read. read) h.room (h.tag ∙ is) r
        (placed h R one 1 same before after fuel left r lifts)

    module _ {A B : Type 0} (unit : Bool) (R : Reading A) (unit2 : Bool) (S : Reading B) where
      abbrev lift_first : Reading A
      lift_first = payload_reading unit R

      abbrev second : Reading B
      second = payload_reading unit2 S

      pub ok_lifts : n ≡ 0 → one ≡ payload_shape (variant_cases s) 0 → (r : Result A Fault)
          → Lifts lift_first w next one before fuel r after left → Lifts (result_reading unit R unit2 S) w at s before fuel (made (λ v. Ok v) r) after left
      ok_lifts is same r lifts =
          first_by lift_first second (ResultReads lift_first second) w at s before after fuel left (λ v. Ok v) (λ v read. read) h.room (h.tag ∙ is) r
          (placed h lift_first one 0 same before after fuel left r lifts)

      pub error_lifts : n ≡ 1 → one ≡ payload_shape (variant_cases s) 1 → (r : Result B Fault)
          → Lifts second w next one before fuel r after left → Lifts (result_reading unit R unit2 S) w at s before fuel (made (λ v. Err v) r) after left
      error_lifts is same r lifts =
          second_by lift_first second (ResultReads lift_first second) w at s before after fuel left (λ v. Err v) (λ v read. read) h.room (h.tag ∙ is) r
          (placed h second one 1 same before after fuel left r lifts)

-- ---- cases in memory

module _ {D G : Type 0} (core : Parts D G) {s : Shape} {info : VariantInfo} {at : ℕ} (h : IsOfCases s info core.memory at) (offset : ℕ) (off : offset ≡ info.payload_offset32) where
  pub stored_case : (o : ℕ) (bytes : List ℕ) (n : ℕ) → bytes ≡ core.memory → n ≡ num (narrow bytes) at (tag_bytes info.size) → HasCase (setting_in core o) (stored at) (stored (at + offset)) s n
  stored_case o bytes n same is = record {
    room = h.inside;
    tag = tag_is s info core.memory at h bytes n same is;
    there = place_is s info core.memory at h offset off;
  }

  -- payload d, of its shape
  module _ (d : ℕ) (one : Shape) (payload : one ≡ payload_shape (variant_cases s) d) (few : d < case_count (variant_cases s)) where
    pub one_aligned : (at + offset) % align false one ≡ 0
    one_aligned = subst (λ (z : Shape). (at + offset) % align false z ≡ 0) (sym payload) (payload_aligned s info core.memory at h offset off d few)

    pub lift_one_inside : at + offset + size false one ≤ length core.memory
    lift_one_inside = omega (arith, payload_inside s info core.memory at h offset off d few, ap (size false) payload)
