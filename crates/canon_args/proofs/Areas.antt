-- What a word points to.
use Rattle.std.proofs.Common.{Bool, Err, List, Ok, Result, ap, arith, inl, inr, refl, subst, sym, true, ℕ, ◌%◌, ◌<◌, ◌≡◌, ◌≤◌}
use Rattle.std.specs.Prelude.{Some, SomeIff, None, Option, is_some, false}
use Rattle.std.proofs.lemmas.Bool.{cond-true}
use Rattle.canon_context.specs.declared.fault.At.TheVariants as at
use Rattle.canon_context.specs.declared.fault.Fault.{Fault}
use Rattle.canon_context.specs.declared.fault.Fault.TheVariants as fault
use Rattle.canon_resources.specs.Parts.{LeavesStop, Part}
use Rattle.canon_ledger.specs.Ledger.{LedgerState}
use Rattle.canon_lift_parts.proofs.Refusals.{named_in, lift_refused_before, refused_by}
use Rattle.canon_reading.specs.Reading.{Lifts, Reading, Refused, Setting}
use Rattle.canon_context.specs.Faults.{stop_of}
use Rattle.canon_reading.specs.Spots.{flat_in, pointer_in, stored}
use Rattle.canon_model.specs.Layout.{align, flat, members_flat, size}
use Rattle.canon_model.specs.Memory.{Inside}
use Rattle.canon_model.specs.Reach as reach
use Rattle.canon_model.specs.Shape.{Members, Shape, of_places, product}
use Rattle.canon_args.specs.Areas.{good_area}
use Rattle.canon_args.specs.Returned.{IsGoodArea, area_reading, reading_by}

module _ {A : Type 0} (R : Reading A) (w : Setting) (ws : List ℕ) (s : Shape) (l : LedgerState) (fuel p : ℕ) (is : p ≡ pointer_in w.memory (flat_in ws 0)) where
  pub area_misaligned : ¬ (p % align w.memory.wide s ≡ 0) → Refused (area_reading R) w (flat_in ws 0) s l fuel (fault.PointerMisaligned (at.Word 0)) l fuel
  area_misaligned wrong = lift_refused_before (area_reading R) w (flat_in ws 0) s l l fuel fuel (fault.PointerMisaligned (at.Word 0))
      (reach.word 0, inl refl, inl (inl (record { kind_is = refl; at_is = refl }, subst (λ n. ¬ (n % align w.memory.wide s ≡ 0)) is wrong))) (λ e. cc) refl refl (omega arith)

  pub area_outside : p % align w.memory.wide s ≡ 0 → ¬ Inside w.memory p (size w.memory.wide s) → Refused (area_reading R) w (flat_in ws 0) s l fuel (fault.PointerOutOfBounds (at.Word 0)) l fuel
  area_outside aligned wrong = lift_refused_before (area_reading R) w (flat_in ws 0) s l l fuel fuel (fault.PointerOutOfBounds (at.Word 0))
      (reach.word 0, inl refl, inl (inr (record { kind_is = refl; at_is = refl }, subst (λ n. n % align w.memory.wide s ≡ 0) is aligned, subst (λ n. ¬ Inside w.memory n (size w.memory.wide s)) is wrong))) (λ e. cc) refl refl (omega arith)

  -- it is good
  module _ (aligned : p % align w.memory.wide s ≡ 0) (inside : Inside w.memory p (size w.memory.wide s)) where
    good : IsGoodArea w (flat_in ws 0) s
    good = (subst (λ n. n % align w.memory.wide s ≡ 0) is aligned, subst (λ n. Inside w.memory n (size w.memory.wide s)) is inside)

    reached : (area_reading R).reach w (flat_in ws 0) s ≡ R.reach w (stored (pointer_in w.memory (flat_in ws 0))) s
    reached = cond-true _ _ _ (good_area w (flat_in ws 0) s good)

    stepped : (area_reading R).steps w (flat_in ws 0) s ≡ R.steps w (stored (pointer_in w.memory (flat_in ws 0))) s
    stepped = cond-true _ _ _ (good_area w (flat_in ws 0) s good)

    at_pointer : (r : Result A Fault) (m : LedgerState) (left : ℕ) → Lifts R w (stored (pointer_in w.memory (flat_in ws 0))) s l fuel r m left → Lifts (area_reading R) w (flat_in ws 0) s l fuel r m left
    at_pointer (Ok v) m left (read, spent) = ((good, read), omega (arith, spent, reached))
    at_pointer (Err e) m left h =
        let q = stored (pointer_in w.memory (flat_in ws 0)) in
        refused_by R (area_reading R) w q (flat_in ws 0) s s l l m fuel fuel left e
        (named_in (flat_in ws 0) (pointer_in w.memory (flat_in ws 0)) (R.faults w q s) ((area_reading R).faults w (flat_in ws 0) s) (λ k x f. inr (good, f))) (λ less. omega (arith, less, reached)) (λ some. some)
        (λ stops. subst (λ (steps : List (List Part)). LeavesStop (stop_of e) l steps m) (sym stepped) stops) (omega arith) h

    pub area_lifts : (r : Result A Fault) (m : LedgerState) (left : ℕ) → Lifts R w (stored p) s l fuel r m left → Lifts (area_reading R) w (flat_in ws 0) s l fuel r m left
    area_lifts r m left h = at_pointer r m left (subst (λ n. Lifts R w (stored n) s l fuel r m left) is h)

-- in a row or not
pub lifts_by : {A : Type 0} (R : Reading A) (w : Setting) (ws : List ℕ) (s : Shape) (l : LedgerState) (fuel : ℕ) (r : Result A Fault) (m : LedgerState) (left : ℕ) (a b : Bool) → a ≡ b
    → Lifts (reading_by b R) w (flat_in ws 0) s l fuel r m left → Lifts (reading_by a R) w (flat_in ws 0) s l fuel r m left
lifts_by R w ws s l fuel r m left a b e h = subst (λ x. Lifts (reading_by x R) w (flat_in ws 0) s l fuel r m left) (sym e) h

-- how many words, by whether there are few
pub few_words : (s : Shape) (ms : Members) (told : Option ℕ) (most : ℕ) → s ≡ product of_places ms → SomeIff told ((flat s ≤ most) × (flat s ≤ 16)) (flat s) → is_some told ≡ true → members_flat ms ≤ most
unfolding flat
few_words s ms (Some n) most is h e = let same : flat s ≡ members_flat ms = ap flat is in omega (arith, same, h.0.0)
few_words s ms None most is h e = cc

pub many_words : (s : Shape) (ms : Members) (told : Option ℕ) (most : ℕ) → s ≡ product of_places ms → most ≤ 16 → SomeIff told ((flat s ≤ most) × (flat s ≤ 16)) (flat s) → is_some told ≡ false → most < members_flat ms
unfolding flat
many_words s ms (Some n) most is e h f = cc
many_words s ms None most is e h f =
    let same : flat s ≡ members_flat ms = ap flat is in
    let many : ¬ (flat s ≤ most) = λ few. h (few, omega (arith, few, e)) in
    omega (arith, same, many)
