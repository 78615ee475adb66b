-- What became of one call, by what calling its function did.
use Rattle.std.proofs.Common.{Bool, Err, List, None, Ok, Option, Result, Some, [], ap, arith, drop, false, inl, inr, length, refl, subst, subst₂, sym, take, true, ℕ, ◌++◌, ◌<◌, ◌^◌, ◌∙◌, ◌∷◌, ◌≡◌, ◌≢◌, ◌≤◌, ◌⊎◌}
use Rattle.std.proofs.Math.Seq.{take-append_seam}
use Rattle.std.specs.Prelude.{Vec, IfOk, IfSome, IsNone, IsSome, not, slice_get, ◌&&◌, ◌==◌}
use Rattle.canon_types.specs.Table.{types_of}
use Rattle.canon_memory.specs.Guest.{Recorded, of_guest}
use Rattle.canon_memory.specs.declared.event.Event.{Event}
use Rattle.canon_replay_guest.specs.Fitting.{CanReplayFrom}
use Rattle.canon_replay_guest.specs.Following.{Follows, Overruns, TrapsInCall}
use Rattle.canon_replay_guest.specs.Replaying.{Replaying, call_events}
use Rattle.canon_replay_guest.specs.declared.stop.Stop.TheVariants as stop
use Rattle.canon_replay_guest.proofs.Fitting.{never_unfit}
use Rattle.canon_replay_guest.proofs.Following.{moves_follow}
use Rattle.canon_context.specs.Core.{Parts, component_types, guest_of}
use Rattle.canon_context.specs.declared.component.Component.{Component}
use Rattle.canon_context.specs.declared.fault.Fault.TheVariants as fault
use Rattle.canon_val.specs.declared.val.Val.{Val}
use Rattle.canon_func.specs.Call.{call_refusal, entry_refusal, refused_by}
use Rattle.canon_func.specs.Stores.{Callee, Named, callee_of, type_in, type_of}
use Rattle.canon_model.specs.Shape.{member_count}
use Rattle.canon_types.specs.Refusal.{first_error}
use Rattle.canon_func.specs.declared.error.Error.{Error}
use Rattle.canon_func.specs.declared.error.Error.TheVariants as error
use Rattle.canon_recording_parts.specs.declared.error.ReplayError.{ReplayError}
use Rattle.canon_recording.specs.Recordings.{served_asks}
use Rattle.canon_recording.specs.declared.recording.Served.{Served}
use Rattle.std.specs.declared.alloc.Global.{Global}
use Rattle.canon_replay.specs.Calls.{AnswersOtherwise, Departs, EndsOk, HaveOneImage, HaveOtherImages, IsNotShort, IsResultTuple, IsReady, MadeCall, MakesAgain, WasMadeAgain, made_again, results_shape_in}
use Rattle.canon_replay.specs.Made.{CallsAgain}
use Rattle.canon_replay.specs.Outcomes.{has_passed, outcome_at, place_in_call}
use Rattle.canon_replay.specs.Stores.{JournaledReplays, ReplayStore, guest_in_store, named_export}
use Rattle.canon_replay.specs.declared.again.Again.{Again}
use Rattle.canon_replay.specs.declared.outcome.Outcome.{Outcome}
use Rattle.canon_replay.proofs.Departing.{all_alike, all_passed, departs, not_all, not_entered, unless_short}
use Rattle.canon_replay.proofs.Places.{recorded_same}

-- slots that were written, all of them
pub results_written : (items new : List Val) (n : ℕ) → n ≡ length new → take n (new ++ drop (length new) items) ≡ new
results_written items new n is = ap (λ k. take k (new ++ drop (length new) items)) is ∙ take-append_seam new (drop (length new) items)

-- where the first of some reasons doesn't refuse, the others decide
behind_first : (b : Bool) (first : Error) (tests : List (Bool × Error)) → first_error ((b, first) ∷ tests) ≡ None → first_error tests ≡ None
behind_first true first tests h = cc
behind_first false first tests h = h

-- a call that isn't refused with some parameters and slots isn't refused for being async or for the store
entered_by : (callee : Callee) (params slots : ℕ) (trapped : Bool) (o : Option Error) → o ≡ call_refusal callee params slots trapped → o ≡ None → entry_refusal callee trapped ≡ None
entered_by callee params slots trapped o is none =
    behind_first (not ((params == member_count callee.params) && (slots == member_count callee.results))) error.WrongCount
    ((callee.async_, error.AsyncLifted) ∷ (trapped, error.CannotEnterComponent) ∷ []) (sym is ∙ none)

-- Ok isn't out of memory
pub ok_answered : IsNotShort (Ok tt)
ok_answered s = cc

-- nor is another error
pub err_answered : (e : Error) → ¬ (e ≡ error.Fault fault.OutOfMemory) → IsNotShort (Err e)
err_answered e other s = other (cc)

module _ (k : ℕ) (a : Again) (before after : ReplayStore) (ready : IsReady k before) (lt : k < length (guest_in_store before).recorded) where
  abbrev g : Replaying
  g = guest_in_store before

  abbrev h : Replaying
  h = guest_in_store after

  abbrev call : MadeCall
  call = made_again g.recorded k a

  -- what the guest did, by its moves
  follows : (events : List Event) → JournaledReplays (guest_of before.core) events (guest_of after.core) → Follows k g h events ⊎ TrapsInCall k g h (length after.core.memory) events ⊎ Overruns k g h (length after.core.memory) events
  follows events m = moves_follow k (of_guest (guest_of before.core)) (of_guest (guest_of after.core)) events ready.going lt ready.before m.moves

  -- it never traps as unfit, and goes on with steps to make
  fits : (events : List Event) → JournaledReplays (guest_of before.core) events (guest_of after.core) → (h.stop ≢ Some stop.Unfit) × (h.stop ≡ None → CanReplayFrom h (length after.core.memory) × (length after.core.memory ≤ 2 ^ 32))
  fits events m = never_unfit (of_guest (guest_of before.core)) (of_guest (guest_of after.core)) events ready.going ready.small ready.can m.moves

  same_in : (events : List Event) → JournaledReplays (guest_of before.core) events (guest_of after.core) → h.recorded ≡ g.recorded
  same_in events m = recorded_same (of_guest (guest_of before.core)) (of_guest (guest_of after.core)) events m.moves

  module _ (slots : ℕ) (results : List Val) where
    entered : CallsAgain (named_export before a.export) a.params.items slots before after (Ok tt) results → entry_refusal (callee_of before (named_export before a.export)) before.trapped ≡ None
    entered calls = entered_by (callee_of before (named_export before a.export)) (length a.params.items) slots before.trapped None calls.refused refl

    pub after_ok : (o : Option Outcome) → 0 < length (call_events g.recorded k) → CallsAgain (named_export before a.export) a.params.items slots before after (Ok tt) results
        → after.core.component ≡ before.core.component → EndsOk k (named_export before a.export) after results a.results.items o → MakesAgain k call before after o
    after_ok None some calls same (passed, one) =
        let adding = calls.call refl in
        let moves = adding.moves in
        let alike = all_alike k call before after (Ok tt) results adding.events refl (same_in adding.events moves) passed (follows adding.events moves) in
        let (going, at, past) = all_passed k call before after (Ok tt) results adding.events refl (same_in adding.events moves) passed in (
          record {
            results = results;
            events = adding.events;
            made = record { entered = entered calls; is = adding.so; moves = moves };
            alike = alike;
            kept = record { same_core = calls.same; turns_kept = calls.turns_kept; asks = ap served_asks (ap (λ (v : Vec Served Global). v.items) calls.plan); recorded = same_in adding.events moves; trapped = calls.runs };
            same = subst (λ (c : Component). HaveOneImage (results_shape_in c.types.types (type_in c (slice_get c.exports.items a.export))) results a.results.items) same one;
          },
          record {
            going = going;
            before = inr (omega (arith, at), past_now at (same_in adding.events moves) past);
            can = ((fits adding.events moves).1 going).0;
            small = ((fits adding.events moves).1 going).1;
            untrapped = calls.runs ∙ ready.untrapped;
          },
        )
      where
        past_now : h.call ≡ k → h.recorded ≡ g.recorded → length (call_events g.recorded k) ≤ h.at → length (call_events h.recorded h.call) ≤ h.at
        past_now c r le = subst (λ (n : ℕ). length (call_events h.recorded n) ≤ h.at) (sym c) (subst (λ (rs : List (List Event)). length (call_events rs k) ≤ h.at) (sym r) le)
    after_ok (Some o) some calls same (is, why) =
        let adding = calls.call refl in
        let moves = adding.moves in
        let kept = same_in adding.events moves in
        let made : WasMadeAgain call before after (Ok tt) results adding.events = record { entered = entered calls; is = adding.so; moves = moves } in
        subst (Departs k call before) (sym is)
        (departs k call before after (Ok tt) results adding.events refl kept made ok_answered (fits adding.events moves).0 (λ f. otherwise adding.events kept f why) (follows adding.events moves))
      where
        otherwise : (events : List Event) → h.recorded ≡ g.recorded → Follows k g h events
            → (has_passed k h ≡ false) ⊎ (HaveOtherImages (results_shape_in (component_types after.core) (type_of after (named_export before a.export))) results a.results.items × IsResultTuple after.core.component a.export)
            → AnswersOtherwise (place_in_call k h) call before results (Ok tt)
        otherwise events kept f (inl lacks) = inl (not_all k call before after (Ok tt) results events refl kept some lacks f)
        otherwise events kept f (inr (other, tuple)) = inr (
          subst (λ (c : Component). HaveOtherImages (results_shape_in c.types.types (type_in c (slice_get c.exports.items a.export))) results a.results.items) same other,
          subst (λ (c : Component). IsResultTuple c a.export) same tuple,
        )

    pub after_err : (e : Error) → ¬ (e ≡ error.Fault fault.OutOfMemory) → IfSome (type_of before (named_export before a.export)) (λ t. slots ≡ length (types_of (component_types before.core) t.results))
        → CallsAgain (named_export before a.export) a.params.items slots before after (Err e) results → Departs k call before (outcome_at k h)
    after_err e other slots_are calls = by (refused_by (Err e)) refl
      where
        was_entered : refused_by (Err e) ≡ None → Departs k call before (outcome_at k h)
        was_entered none =
            let adding = calls.call (subst IsNone (sym none) refl) in
            let moved = adding.moves in
            let moves = unless_short (Err e) (JournaledReplays (guest_of before.core) adding.events (guest_of after.core)) answered moved in
            let made : WasMadeAgain call before after (Err e) results adding.events = record { entered = not_refused; is = adding.so; moves = moved } in
            departs k call before after (Err e) results adding.events refl (same_in adding.events moves) made answered (fits adding.events moves).0 (λ f. tt) (follows adding.events moves)
          where
            answered : IsNotShort (Err e)
            answered = err_answered e other

            not_refused : entry_refusal (callee_of before (named_export before a.export)) before.trapped ≡ None
            not_refused = entered_by (callee_of before (named_export before a.export)) (length a.params.items) slots before.trapped (refused_by (Err e)) calls.refused none

        refused : (r : Error) → refused_by (Err e) ≡ Some r → Departs k call before (outcome_at k h)
        refused r is = subst (λ (s : ReplayStore). Departs k call before (outcome_at k (guest_in_store s))) (sym stands)
            (not_entered k call before ready.going ready.before (slots, slots_are, subst IsSome (sym is ∙ calls.refused) refl))
          where
            stands : after ≡ before
            stands = subst (λ o. IfSome o (λ x. after ≡ before)) is calls.unchanged

        by : (o : Option Error) → refused_by (Err e) ≡ o → Departs k call before (outcome_at k h)
        by None is = was_entered is
        by (Some r) is = refused r is

  -- ---- as the code has it

  -- what is recorded stays, unless memory was short
  pub recorded_stays : (f : Named) (params : List Val) (slots : ℕ) (result : Result (Unit {0}) Error) (results : List Val) → CallsAgain f params slots before after result results
      → result ≢ Err (error.Fault fault.OutOfMemory) → h.recorded ≡ g.recorded
  recorded_stays f params slots result results calls answered = by (refused_by result) refl
    where
      by : (o : Option Error) → refused_by result ≡ o → h.recorded ≡ g.recorded
      by None is =
          let adding = calls.call (subst IsNone (sym is) refl) in
          same_in adding.events (unless_short result (JournaledReplays (guest_of before.core) adding.events (guest_of after.core)) answered adding.moves)
      by (Some r) is = ap (λ (s : ReplayStore). (guest_in_store s).recorded) (subst (λ o. IfSome o (λ x. after ≡ before)) is calls.unchanged)

  module _ (f : Named) (params : List Val) (slots : ℕ) (results : List Val) (final : ReplayStore) (named : f ≡ named_export before a.export) (passed : params ≡ a.params.items) (stays : final ≡ after) where
    pub made_ok : (r : Result (Option Outcome) ReplayError) → 0 < length (call_events g.recorded k) → CallsAgain f params slots before after (Ok tt) results
        → IfOk r (λ o. EndsOk k f after results a.results.items o) → IfOk r (λ o. MakesAgain k call before final o)
    made_ok (Ok o) some calls ends = subst (λ (s : ReplayStore). MakesAgain k call before s o) (sym stays)
        (after_ok slots results o some (subst₂ (λ (x : Named) (ps : List Val). CallsAgain x ps slots before after (Ok tt) results) named passed calls)
        (ap (λ (parts : Parts (Unit {0}) (Recorded Replaying)). parts.component) calls.same) (subst (λ (x : Named). EndsOk k x after results a.results.items o) named ends))
    made_ok (Err e) some calls ends = tt

    pub made_err : (e : Error) (o : Outcome) → ¬ (e ≡ error.Fault fault.OutOfMemory) → IfSome (type_of before f) (λ t. slots ≡ length (types_of (component_types before.core) t.results))
        → CallsAgain f params slots before after (Err e) results
        → o ≡ outcome_at k h → MakesAgain k call before final (Some o)
    made_err e o other slots_are calls is = subst (Departs k call before) (sym is)
        (after_err slots results e other (subst (λ (x : Named). IfSome (type_of before x) (λ t. slots ≡ length (types_of (component_types before.core) t.results))) named slots_are)
        (subst₂ (λ (x : Named) (ps : List Val). CallsAgain x ps slots before after (Err e) results) named passed calls))
