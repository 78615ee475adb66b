-- A whole recording: what stands before its first call, and what its calls come to.
use Rattle.std.proofs.Common.{All, Err, List, Ok, Result, ap, arith, drop, inl, length, map, subst, subst₂, sym, ℕ, ◌<◌, ◌^◌, ◌∙◌, ◌≡◌}
use Rattle.std.specs.Prelude.{IfErr, IfOk}
use Rattle.canon_memory.specs.declared.event.Event.{Event}
use Rattle.canon_replay_guest.specs.Fitting.{CanReplayAll}
use Rattle.canon_replay_guest.specs.Replaying.{Replaying}
use Rattle.canon_context.specs.declared.component.Component.{Component}
use Rattle.canon_recording_parts.specs.declared.error.ReplayError.{ReplayError}
use Rattle.canon_recording_parts.specs.declared.error.ReplayError.TheVariants as error
use Rattle.canon_recording.proofs.Rows.{map_length}
use Rattle.canon_recording.specs.Fits.{FitsComponent}
use Rattle.canon_recording.specs.Recordings.{RecordedCall, ServedAsk}
use Rattle.canon_replay.specs.Calls.{HasEvents, IsReady, IsReplayed, MadeCall, ReplaysFrom, all_made, asks_of_calls, made_call_of, events_of_call, told_again, told_call}
use Rattle.canon_replay.specs.Stores.{IsNewStore, ReplayStore, guest_in_store}
use Rattle.canon_replay.specs.declared.again.Again.{Again}
use Rattle.canon_replay.specs.declared.outcome.Outcome.{Outcome}
use Rattle.canon_replay.proofs.Running.{runs_can}
use Rattle.canon_replay.proofs.Rows.{all_made_are, events_fit, known_again, as_many_made}

-- memory was short
pub short_is : (c : Component) (calls : List RecordedCall) (fuel turns : ℕ) (e : ReplayError) → e ≡ error.OutOfMemory → IsReplayed c calls fuel turns (Err e)
short_is c calls fuel turns e short = subst (λ (x : ReplayError). IsReplayed c calls fuel turns (Err x)) (sym short) tt

module _ (c : Component) (calls : List RecordedCall) (fuel turns : ℕ) (events : List (List Event)) (asks : List ServedAsk) (agains : List Again) (store : ReplayStore)
    (are : (events ≡ map events_of_call calls) × (asks ≡ asks_of_calls calls) × (map told_again agains ≡ map told_call calls)) (new : IsNewStore c events asks fuel turns store) where
  recorded_are : (guest_in_store store).recorded ≡ map events_of_call calls
  recorded_are = ap (λ (g : Replaying). g.recorded) new.guest ∙ are.0

  pub ready_first : FitsComponent c calls → IsReady 0 store
  ready_first fits = record {
    going = ap (λ (g : Replaying). g.stop) new.guest;
    before = inl (ap (λ (g : Replaying). g.call) new.guest, ap (λ (g : Replaying). g.at) new.guest);
    can = inl (ap (λ (g : Replaying). g.at) new.guest, can_all);
    small = omega (arith, no_memory);
    untrapped = new.untrapped;
  }
    where
      no_memory : length store.core.memory ≡ 0
      no_memory = ap length new.memory

      from_first : drop (guest_in_store store).call (guest_in_store store).recorded ≡ map events_of_call calls
      from_first = ap (λ (k : ℕ). drop k (guest_in_store store).recorded) (ap (λ (g : Replaying). g.call) new.guest) ∙ recorded_are

      can_all : CanReplayAll (length store.core.memory) (drop (guest_in_store store).call (guest_in_store store).recorded)
      can_all = subst₂ CanReplayAll (sym no_memory) (sym from_first) (runs_can c 0 calls fits.runs)

  pub count_first : length agains ≡ length (guest_in_store store).recorded
  count_first = as_many_made agains calls are.2 ∙ sym (ap length recorded_are ∙ map_length events_of_call calls)

  pub replayed_is : (o : Outcome) → ReplaysFrom 0 (all_made (guest_in_store store).recorded 0 agains) store o
      → (s : ReplayStore) × IsNewStore c (map events_of_call calls) (asks_of_calls calls) fuel turns s × ReplaysFrom 0 (map made_call_of calls) s o
  replayed_is o h = (store, new_of_calls, subst (λ (cs : List MadeCall). ReplaysFrom 0 cs store o) (all_made_are (guest_in_store store).recorded 0 agains calls are.2 recorded_are) h)
    where
      new_of_calls : IsNewStore c (map events_of_call calls) (asks_of_calls calls) fuel turns store
      new_of_calls = subst (λ (es : List (List Event)). IsNewStore c es (asks_of_calls calls) fuel turns store) are.0 (subst (λ (xs : List ServedAsk). IsNewStore c events xs fuel turns store) are.1 new)

  module _ (fits : FitsComponent c calls) where
    pub known_first : All (λ (a : Again). a.export < length store.core.component.exports.items) agains
    known_first = subst (λ (k : Component). All (λ (a : Again). a.export < length k.exports.items) agains) (sym new.component) (known_again agains calls c are.2 fits.are)

    pub few_first : length agains < 2 ^ 32
    few_first = omega (arith, as_many_made agains calls are.2, fits.few)

    pub events_first : All HasEvents (guest_in_store store).recorded
    events_first = subst (All HasEvents) (sym recorded_are) (events_fit c 0 calls fits.are fits.runs)

  -- `replay` answers what making the calls again does
  pub replays_is : (r : Result Outcome ReplayError) → IfOk r (λ o. ReplaysFrom 0 (all_made (guest_in_store store).recorded 0 agains) store o) → IfErr r (λ e. e ≡ error.OutOfMemory) → IsReplayed c calls fuel turns r
  replays_is (Ok o) h short = replayed_is o h
  replays_is (Err e) h short = short_is c calls fuel turns e short
