-- What became of a call, by how far the guest followed what is recorded of it.
use Rattle.std.proofs.Common.{Bool, Err, List, None, Ok, Option, Result, Some, ap, arith, false, inl, inr, length, refl, subst, sym, take, true, ℕ, ◌&&◌, ◌<◌, ◌∙◌, ◌≡◌, ◌≢◌, ◌≤◌, ◌⊎◌}
use Rattle.std.proofs.lemmas.Bool.{eq-eqb, eqb-true, false≢true, leb-false, leb-true, ne_eqb}
use Rattle.std.specs.Prelude.{if◌then◌else◌, nat_eq, nat_le}
use Rattle.canon_memory.specs.declared.event.Event.{Event}
use Rattle.canon_val.specs.declared.val.Val.{Val}
use Rattle.canon_func.specs.Call.{OnAnswered}
use Rattle.canon_func.specs.declared.error.Error.{Error}
use Rattle.canon_func.specs.declared.error.Error.TheVariants as error
use Rattle.canon_context.specs.declared.fault.Fault.TheVariants as fault
use Rattle.canon_replay_guest.specs.Following.{Follows, IsBefore, IsPassedCount, Leaves, Overruns, TrapsInCall}
use Rattle.canon_replay_guest.specs.Passing.{AreAlike}
use Rattle.canon_replay_guest.specs.Replaying.{Replaying, call_events}
use Rattle.canon_replay_guest.specs.declared.stop.Stop.{Stop}
use Rattle.canon_replay_guest.specs.declared.stop.Stop.TheVariants as stop
use Rattle.canon_recording.proofs.Rows.{take_all}
use Rattle.canon_replay.specs.Calls.{AnswersOtherwise, Departs, IsNotEntered, IsNotShort, LeavesAt, MadeCall, WasMadeAgain}
use Rattle.canon_replay.specs.Outcomes.{has_passed, is_going, is_unlawful, outcome_at, place_in_call}
use Rattle.canon_replay.specs.Stores.{ReplayStore, guest_in_store}
use Rattle.canon_replay.specs.declared.outcome.Outcome.TheVariants as outcome
use Rattle.canon_replay.proofs.Places.{IsPlaceIn, leaves_there, place_after, place_before, place_there, take_there}

-- ---- outcomes

second_not : {A : Type 0} (b c : Bool) (x y : A) → c ≡ false → (if b && c then x else y) ≡ y
second_not true c x y e = rw e refl
second_not false c x y e = refl

differs_at : (k : ℕ) (h : Replaying) → is_unlawful h.stop ≡ false → outcome_at k h ≡ outcome.Differs k (place_in_call k h)
differs_at k h e = second_not (nat_eq h.call k) (is_unlawful h.stop) (outcome.Unlawful k (place_in_call k h)) (outcome.Differs k (place_in_call k h)) e

unlawful_at : (k : ℕ) (h : Replaying) → h.call ≡ k → h.stop ≡ Some stop.Unlawful → outcome_at k h ≡ outcome.Unlawful k (place_in_call k h)
unlawful_at k h c s = rw (eq-eqb h.call k c) rw s refl

elsewhere : (k : ℕ) (h : Replaying) → k < h.call → outcome_at k h ≡ outcome.Differs k (place_in_call k h)
elsewhere k h lt = rw (ne_eqb h.call k (λ e. omega (arith, lt, e))) refl

-- ---- a call that isn't as it was recorded

module _ (k : ℕ) (call : MadeCall) (before after : ReplayStore) (result : Result (Unit {0}) Error) (results : List Val) (events : List Event) where
  -- the length of the memory that is left
  abbrev len : ℕ
  len = length after.core.memory

  abbrev g : Replaying
  g = guest_in_store before

  abbrev h : Replaying
  h = guest_in_store after

  module _ (is : call.events ≡ call_events g.recorded k) (same : h.recorded ≡ g.recorded) where
    events_h : call_events h.recorded k ≡ call.events
    events_h = ap (λ (r : List (List Event)). call_events r k) same ∙ sym is

    -- the place, by the recorded events of the call
    there : h.call ≡ k → IsPlaceIn (length call.events) h.at (place_in_call k h)
    there c = go (place_there k h c)
      where
        go : IsPlaceIn (length (call_events h.recorded k)) h.at (place_in_call k h)
            → IsPlaceIn (length call.events) h.at (place_in_call k h)
        go (inl (p, lt)) = inl (p, subst (λ (es : List Event). h.at < length es) events_h lt)
        go (inr (p, le)) = inr (p ∙ ap length events_h, subst (λ (es : List Event). length es ≤ h.at) events_h le)

    -- the place is one of the call, or behind it
    within_there : h.call ≡ k → place_in_call k h ≤ length call.events
    within_there c = by (there c)
      where
        by : IsPlaceIn (length call.events) h.at (place_in_call k h) → place_in_call k h ≤ length call.events
        by (inl (p, lt)) = omega (arith, p, lt)
        by (inr (p, le)) = omega (arith, p)

    within_followed : Follows k g h events → place_in_call k h ≤ length call.events
    within_followed f = by f.passes
      where
        by : IsPassedCount k h f.count → place_in_call k h ≤ length call.events
        by (inl (c, n)) = within_there c
        by (inr (c, n)) = omega (arith, place_before k h c)

    -- what was followed is the recorded events up to the place
    pub followed_to : Follows k g h events → AreAlike events (take (place_in_call k h) call.events)
    followed_to f = by f.passes
      where
        alike : AreAlike events (take f.count call.events)
        alike = subst (λ (es : List Event). AreAlike events (take f.count es)) (sym is) f.alike

        at_place : f.count ≡ h.at → IsPlaceIn (length call.events) h.at (place_in_call k h) → AreAlike events (take (place_in_call k h) call.events)
        at_place c (inl (p, lt)) = subst (λ (i : ℕ). AreAlike events (take i call.events)) (c ∙ sym p) alike
        at_place c (inr (p, le)) = subst (AreAlike events) (ap (λ (i : ℕ). take i call.events) c ∙ take_there call.events h.at le ∙ ap (λ (i : ℕ). take i call.events) (sym p)) alike

        by : IsPassedCount k h f.count → AreAlike events (take (place_in_call k h) call.events)
        by (inl (c, n)) = at_place n (there c)
        by (inr (c, n)) = subst (λ (i : ℕ). AreAlike events (take i call.events)) (n ∙ sym (place_before k h c)) alike

    -- where the guest left it, at the place
    left_at_place : (why : Stop) → h.call ≡ k → Leaves why (call_events g.recorded k) h.at g.live len events → LeavesAt why (place_in_call k h) call before after events
    left_at_place why c l = by (there c)
      where
        l2 : Leaves why call.events h.at g.live len events
        l2 = subst (λ (es : List Event). Leaves why es h.at g.live len events) (sym is) l

        by : IsPlaceIn (length call.events) h.at (place_in_call k h) → Leaves why call.events (place_in_call k h) g.live len events
        by (inl (p, lt)) = subst (λ (i : ℕ). Leaves why call.events i g.live len events) (sym p) l2
        by (inr (p, le)) = subst (λ (i : ℕ). Leaves why call.events i g.live len events) (sym p) (leaves_there why call.events h.at g.live len events le l2)

    module _ (made : WasMadeAgain call before after result results events) (answered : IsNotShort result) where
      stops : (why : Stop) → why ≢ stop.Unfit → h.stop ≡ Some why → h.call ≡ k → Leaves why (call_events g.recorded k) h.at g.live len events → Departs k call before (outcome_at k h)
      stops stop.Differs other s c l = subst (Departs k call before) (sym (differs_at k h (ap is_unlawful s))) (refl, (within_there c, inr (after, result, results, events, made, answered, inl (left_at_place stop.Differs c l))))
      stops stop.Unfit other s c l = absurd (other refl)
      stops stop.Unlawful other s c l = subst (Departs k call before) (sym (unlawful_at k h c s)) (refl, (after, result, results, events, made, answered, left_at_place stop.Unlawful c l))

      overruns : k < h.call → Leaves stop.Differs (call_events g.recorded k) (length (call_events g.recorded k)) g.live len events → Departs k call before (outcome_at k h)
      overruns lt l = subst (Departs k call before) (sym (elsewhere k h lt)) (refl, (within, inr (after, result, results, events, made, answered, inl there_left)))
        where
          within : place_in_call k h ≤ length call.events
          within = omega (arith, place_after k h lt, ap length events_h)

          there_left : Leaves stop.Differs call.events (place_in_call k h) g.live len events
          there_left = subst (λ (i : ℕ). Leaves stop.Differs call.events i g.live len events) (sym (place_after k h lt ∙ ap length events_h))
              (subst (λ (es : List Event). Leaves stop.Differs es (length es) g.live len events) (sym is) l)

      pub departs : h.stop ≢ Some stop.Unfit → (Follows k g h events → AnswersOtherwise (place_in_call k h) call before results result)
          → Follows k g h events ⊎ TrapsInCall k g h len events ⊎ Overruns k g h len events → Departs k call before (outcome_at k h)
      departs fit otherwise (inl f) = subst (Departs k call before) (sym (differs_at k h (ap is_unlawful f.going)))
          (refl, (within_followed f, inr (after, result, results, events, made, answered, inr (followed_to f, otherwise f))))
      departs fit otherwise (inr (inl (why, s, c, l))) = stops why (λ unfit. fit (s ∙ ap (λ (w : Stop). Some w) unfit)) s c l
      departs fit otherwise (inr (inr (lt, l))) = overruns lt l

    -- ---- after Ok

    both_so : (b c : Bool) → b && c ≡ true → (b ≡ true) × (c ≡ true)
    both_so true c e = (refl, e)
    both_so false c e = absurd (false≢true e)

    going : (s : Option Stop) → is_going s ≡ true → s ≡ None
    going None e = refl
    going (Some why) e = absurd (false≢true e)

    -- all recorded events were passed
    pub all_passed : has_passed k h ≡ true → (h.stop ≡ None) × (h.call ≡ k) × (length call.events ≤ h.at)
    all_passed e =
        let (first, others) = both_so (is_going h.stop) (nat_eq h.call k && nat_le (length (call_events h.recorded k)) h.at) e in
        let (second, third) = both_so (nat_eq h.call k) (nat_le (length (call_events h.recorded k)) h.at) others in
        (going h.stop first, eqb-true h.call k second, subst (λ (es : List Event). length es ≤ h.at) events_h (leb-true (length (call_events h.recorded k)) h.at third))

    pub all_alike : has_passed k h ≡ true → Follows k g h events ⊎ TrapsInCall k g h len events ⊎ Overruns k g h len events → AreAlike events call.events
    all_alike e (inl f) =
        let (stands, c, le) = all_passed e in
        subst (AreAlike events) (at_end (there c)) (followed_to f)
      where
        at_end : IsPlaceIn (length call.events) h.at (place_in_call k h) → take (place_in_call k h) call.events ≡ call.events
        at_end (inl (p, lt)) = absurd (omega (arith, lt, (all_passed e).2))
        at_end (inr (p, le)) = take_all call.events (place_in_call k h) (omega (arith, p))
    all_alike e (inr (inl (why, s, c, l))) = absurd (some_stop (sym s ∙ (all_passed e).0))
      where
        some_stop : ¬ (Some why ≡ None)
        some_stop x = cc
    all_alike e (inr (inr (lt, l))) = absurd (omega (arith, lt, (all_passed e).1))

    -- not all were, of a guest that goes on
    pub not_all : 0 < length call.events → has_passed k h ≡ false → Follows k g h events → place_in_call k h < length call.events
    not_all some e f = by f.passes
      where
        short : h.call ≡ k → h.at < length call.events
        short c = leb-false (length call.events) h.at (subst (λ (es : List Event). nat_le (length es) h.at ≡ false) events_h (tested e))
          where
            tested : has_passed k h ≡ false → nat_le (length (call_events h.recorded k)) h.at ≡ false
            tested x = sym (rw f.going rw (eq-eqb h.call k c) refl) ∙ x

        at_place : h.call ≡ k → IsPlaceIn (length call.events) h.at (place_in_call k h) → place_in_call k h < length call.events
        at_place c (inl (p, lt)) = omega (arith, p, lt)
        at_place c (inr (p, le)) = absurd (omega (arith, short c, le))

        by : IsPassedCount k h f.count → place_in_call k h < length call.events
        by (inl (c, n)) = at_place c (there c)
        by (inr (c, n)) = omega (arith, place_before k h c, some)

-- ---- a call that was refused before the guest was entered

pub not_entered : (k : ℕ) (call : MadeCall) (before : ReplayStore) → (guest_in_store before).stop ≡ None → IsBefore k (guest_in_store before) → IsNotEntered call before → Departs k call before (outcome_at k (guest_in_store before))
not_entered k call before going at refused = subst (Departs k call before) (sym (differs_at k (guest_in_store before) (ap is_unlawful going))) (refl, (omega (arith, place at), inl (place at, refused)))
  where
    place_at : (guest_in_store before).call ≡ k → (guest_in_store before).at ≡ 0 → place_in_call k (guest_in_store before) ≡ 0
    place_at c z = by (place_there k (guest_in_store before) c)
      where
        by : IsPlaceIn (length (call_events (guest_in_store before).recorded k)) (guest_in_store before).at (place_in_call k (guest_in_store before)) → place_in_call k (guest_in_store before) ≡ 0
        by (inl (p, lt)) = p ∙ z
        by (inr (p, le)) = omega (arith, p, le, z)

    place : IsBefore k (guest_in_store before) → place_in_call k (guest_in_store before) ≡ 0
    place (inl (c, z)) = place_at c z
    place (inr (c, past)) = place_before k (guest_in_store before) c

-- what is so for every answer but out of memory
pub unless_short : (r : Result (Unit {0}) Error) (P : Type 0) → r ≢ Err (error.Fault fault.OutOfMemory) → OnAnswered r P → P
unless_short (Ok x) P other h = h
unless_short (Err (error.Fault fault.OutOfMemory)) P other h = absurd (other refl)
unless_short (Err e) P other h = h
