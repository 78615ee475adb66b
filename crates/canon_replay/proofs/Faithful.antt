-- Recordings of calls that `Func::call` made, and that asked for no import, are replayed without a difference.
use Rattle.std.proofs.Common.{All, List, None, Ok, Option, Some, [], ap, arith, drop, false, inl, inr, length, map, refl, subst, subst₂, sym, ℕ, ◌+◌, ◌∙◌, ◌∷◌, ◌≡◌}
use Rattle.std.proofs.lemmas.List.Elements.{All-head, All-tail}
use Rattle.std.specs.Prelude.{slice_get}
use Rattle.canon_memory.specs.declared.event.Event.{Event}
use Rattle.canon_memory.specs.declared.event.Event.TheVariants as event
use Rattle.canon_memory.specs.Guest.{GuestIn, Seen}
use Rattle.canon_context.specs.Component.{IsComponent}
use Rattle.canon_context.specs.Core.{Parts, guest_of, moment_of}
use Rattle.canon_context.specs.declared.component.Component.{Component}
use Rattle.canon_plan.specs.NoHandle.{HaveNoHandle}
use Rattle.canon_val.specs.declared.val.Val.{Val}
use Rattle.canon_host.specs.HostSide.{Giving, LoggedEntry, host_side}
use Rattle.canon_func.specs.Call.{LivesUntil, call_refusal}
use Rattle.canon_func.specs.Runs.{Each, OnStart, asks_in, posts}
use Rattle.canon_func.specs.Stores.{Callee, callee_of}
use Rattle.canon_model.specs.Flat.{AreWords}
use Rattle.canon_memory.specs.Guest.{Recorded}
use Rattle.canon_recording_parts.specs.Events.{IsWritten}
use Rattle.canon_recording.specs.Fits.{AreRuns, IsRecordable, IsRecordedCallOf, callee_of_call}
use Rattle.canon_recording.specs.Recordings.{RecordedCall, exports_of, imports_of}
use Rattle.canon_replay_guest.specs.Replaying.{Replaying}
use Rattle.canon_replay.specs.Calls.{CallDiffers, CallReplayed, MadeCall, ReplaysFrom, asks_of_calls, made_call_of, events_of_call}
use Rattle.canon_replay.specs.Faithful.{AskForNothing, HaveLawfulAnswers, IsNoDifference, OnResume, RecordedAreSame, RecordedNeverDiffer, IsFaithfulCall, AreFaithful, logged_view}
use Rattle.canon_replay.specs.Stores.{IsNewStore, JournaledReplays, ReplayStore, asks_in_store, guest_in_store}
use Rattle.canon_replay.specs.declared.outcome.Outcome.{Outcome}
use Rattle.canon_replay.specs.declared.outcome.Outcome.TheVariants as outcome
use Rattle.canon_replay.proofs.Answered.{plain_imports}
use Rattle.canon_replay.proofs.AskedFollowing.{each_answers}
use Rattle.canon_replay.proofs.AskedRuns.{AskedRun, kept_otherwise, quiet_asked}
use Rattle.canon_replay.proofs.Behind.{IsNoAsk, IsNoTrap, recorded_end}
use Rattle.canon_replay.proofs.Departing.{unless_short}
use Rattle.canon_replay.proofs.Lawfully.{asks_live, asks_unanswered}
use Rattle.canon_replay.proofs.Literals.{as_many}
use Rattle.canon_replay.proofs.MadeAgain.{answered_asks, differs_nowhere}
use Rattle.canon_replay.proofs.Running.{runs_can}
use Rattle.canon_replay.proofs.Runs.{QuietRun, no_ask_among, quiet_run}
use Rattle.canon_replay.proofs.Steady.{IsBeforeCall, before_next, lawful_is_given}
use Rattle.canon_replay_guest.specs.Fitting.{CanReplayAll}

-- ---- the recorded call, in the component

pub written_calm : (imports : ℕ) (events : List Event) → All (IsWritten imports) events → Each IsNoTrap events
written_calm imports [] all = tt
written_calm imports (event.Start f ws m ∷ events) all = (tt, written_calm imports events (All-tail (IsWritten imports) (event.Start f ws m) events all))
written_calm imports (event.Ask i ws m ∷ events) all = (tt, written_calm imports events (All-tail (IsWritten imports) (event.Ask i ws m) events all))
written_calm imports (event.Resume ws m ∷ events) all = (tt, written_calm imports events (All-tail (IsWritten imports) (event.Resume ws m) events all))
written_calm imports (event.Return ws m ∷ events) all = (tt, written_calm imports events (All-tail (IsWritten imports) (event.Return ws m) events all))
written_calm imports (event.Realloc o os al ns a ∷ events) all = (tt, written_calm imports events (All-tail (IsWritten imports) (event.Realloc o os al ns a) events all))
written_calm imports (event.Post f ws ∷ events) all = (tt, written_calm imports events (All-tail (IsWritten imports) (event.Post f ws) events all))
written_calm imports (event.Dtor f rep ∷ events) all = (tt, written_calm imports events (All-tail (IsWritten imports) (event.Dtor f rep) events all))
written_calm imports (event.Trap told at ∷ events) all = absurd (All-head (IsWritten imports) (event.Trap told at) events all)

module _ {T G I P : Type 0} (seen : G → Seen) (moves : GuestIn G → List Event → GuestIn G → Type 0) (leaves : List ℕ → List ℕ → Type 0)
    (plan : I → P) (gives : P → Giving T) (log : I → Option (List LoggedEntry)) (refusals : I → ℕ) (c : Component) (fuel turns : ℕ) (call : RecordedCall) (w : IsFaithfulCall seen moves leaves plan gives log refusals c fuel turns call) where
  abbrev its_callee : Callee
  its_callee = callee_of w.before w.func

  its_callee_is : its_callee ≡ callee_of_call c call
  its_callee_is = w.callee

  pub recorded_entered : call_refusal (callee_of_call c call) (length call.params) w.slots w.before.trapped ≡ None
  recorded_entered = subst₂ (λ (x : Callee) (n : ℕ). call_refusal x n w.slots w.before.trapped ≡ None) its_callee_is (as_many w.params call.params w.params_are) w.entered

  recorded_run : HaveNoHandle (callee_of_call c call).results → asks_in call.events ≡ 0 → QuietRun (callee_of_call c call) fuel w.params w.results call.events
  recorded_run plain quiet =
      subst (λ (x : Callee). QuietRun x fuel w.params w.results call.events) its_callee_is (subst (λ (k : ℕ). QuietRun its_callee k w.params w.results call.events) w.fuel_is
      (subst (QuietRun its_callee w.before.core.fuel w.params w.results) w.events
      (quiet_run (LivesUntil {U = Unit {0}} seen moves (guest_of w.before.core) (guest_of w.after.core) (Ok tt)) leaves (gives (plan w.before.imports)) its_callee w.before.core.fuel w.before.turns w.params w.results
      (moment_of seen w.before.core) (moment_of seen w.after.core) (host_side w.before.core (log w.before.imports) (refusals w.before.imports)) (host_side w.after.core (log w.after.imports) (refusals w.after.imports)) w.calls.events w.calls.so
      (subst (λ (x : Callee). HaveNoHandle x.results) (sym its_callee_is) plain) (subst (Each (OnStart (λ words memory. AreWords words))) (sym w.events) w.words)
      (subst (Each IsNoAsk) (sym w.events) (no_ask_among call.events quiet)))))

posts_resume_nothing : (P : List ℕ → List ℕ → Type 0) (post : Option ℕ) (returned : List ℕ) → Each (OnResume P) (posts post returned)
posts_resume_nothing P None returned = tt
posts_resume_nothing P (Some f) returned = (tt, tt)

-- a run that asked for no import isn't resumed
never_resumed : (P : List ℕ → List ℕ → Type 0) (callee : Callee) (fuel : ℕ) (params results : List Val) (events : List Event) → QuietRun callee fuel params results events → Each (OnResume P) events
never_resumed P callee fuel params results events q = subst (Each (OnResume P)) (sym q.is)
    (each_answers (OnResume P) (λ o os al ns a. tt) q.answers (event.Start callee.func q.words q.memory ∷ recorded_end callee.post q.returned q.after) (tt, (tt, posts_resume_nothing P callee.post q.returned)))

-- ---- all calls

module _ {T G I P : Type 0} (seen : G → Seen) (moves : GuestIn G → List Event → GuestIn G → Type 0) (leaves : List ℕ → List ℕ → Type 0)
    (plan : I → P) (gives : P → Giving T) (log : I → Option (List LoggedEntry)) (refusals : I → ℕ) (c : Component) (fuel turns : ℕ) (sound : IsComponent c) (recordable : IsRecordable c) where
  -- The store is of the component, has the fuel, and no call was refused.
  pub record IsGoing (store : ReplayStore) : Type 0 where
    pub component : store.core.component ≡ c
    pub fuel_is : store.core.fuel ≡ fuel
    pub untrapped : store.trapped ≡ false

  pub goes_on : (call : MadeCall) (before after : ReplayStore) → IsGoing before → CallReplayed call before after → IsGoing after
  goes_on call before after going r = record {
    component = ap (λ (parts : Parts (Unit {0}) (Recorded Replaying)). parts.component) r.kept.same_core ∙ going.component;
    fuel_is = ap (λ (parts : Parts (Unit {0}) (Recorded Replaying)). parts.fuel) r.kept.same_core ∙ going.fuel_is;
    untrapped = r.kept.trapped ∙ going.untrapped;
  }

  call_same : (call : RecordedCall) (before : ReplayStore) → IsGoing before → IsFaithfulCall seen moves leaves plan gives log refusals c fuel turns call → asks_in call.events ≡ 0 → IsRecordedCallOf (exports_of c) (imports_of c) call
      → (place : ℕ) → ¬ CallDiffers place (made_call_of call) before
  call_same call before going w quiet fits = differs_nowhere c call before going.component going.untrapped (gives (plan w.before.imports)).answers [] []
      (record { run = asked.0; logged = ap (map logged_view) asked.1; fit = w.words; resumed = never_resumed _ (callee_of_call c call) before.core.fuel w.params w.results call.events run }) plain
      (plain_imports c recordable (slice_get c.exports.items call.export)) (written_calm (imports_of c).count call.events fits.asks) (drop (length (answered_asks before)) (asks_in_store before)) refl
      w.slots w.before.trapped sound fits.its.known (recorded_entered seen moves leaves plan gives log refusals c fuel turns call w)
    where
      plain : HaveNoHandle (callee_of_call c call).params × HaveNoHandle (callee_of_call c call).results
      plain = recordable.exports call.export fits.its.known

      run : QuietRun (callee_of_call c call) before.core.fuel w.params w.results call.events
      run = subst (λ (k : ℕ). QuietRun (callee_of_call c call) k w.params w.results call.events) (sym going.fuel_is) (recorded_run seen moves leaves plan gives log refusals c fuel turns call w plain.1 quiet)

      asked : (r : AskedRun (gives (plan w.before.imports)).answers (callee_of_call c call) before.core.fuel before.turns call.params call.results [] call.events) × (r.gained ≡ [])
      asked =
          let made = quiet_asked (gives (plan w.before.imports)).answers (callee_of_call c call) before.core.fuel before.turns w.params w.results [] call.events quiet run in
          let kept = kept_otherwise (gives (plan w.before.imports)).answers (callee_of_call c call) before.core.fuel before.turns w.params w.results call.params call.results [] call.events plain w.params_are w.results_are made.0 in
          (kept.0, kept.1 ∙ made.1)

  never_differ_from : (k : ℕ) (calls : List RecordedCall) (store : ReplayStore) (o : Outcome) → IsGoing store → All (IsRecordedCallOf (exports_of c) (imports_of c)) calls → AreFaithful seen moves leaves plan gives log refusals c fuel turns calls
      → AskForNothing calls → ReplaysFrom k (map made_call_of calls) store o → IsNoDifference o
  never_differ_from k [] store o going fits were quiet h = subst IsNoDifference (sym h) tt
  never_differ_from k (call ∷ calls) store o going fits were quiet (inl (next, replayed, others)) =
      never_differ_from (k + 1) calls next o (goes_on (made_call_of call) store next going replayed) (All-tail (IsRecordedCallOf (exports_of c) (imports_of c)) call calls fits) were.1 quiet.1 others
  never_differ_from k (call ∷ calls) store (outcome.Differs i place) going fits were quiet (inr (same, differs)) =
      absurd (call_same call store going were.0 quiet.0 (All-head (IsRecordedCallOf (exports_of c) (imports_of c)) call calls fits) place differs)
  never_differ_from k (call ∷ calls) store outcome.Same going fits were quiet (inr departs) = tt
  never_differ_from k (call ∷ calls) store (outcome.Unlawful i place) going fits were quiet (inr departs) = tt

  -- the same where the recorded answers are lawful, of a guest that is before call k
  same_from : (k : ℕ) (calls : List RecordedCall) (store : ReplayStore) (o : Outcome) → IsGoing store → IsBeforeCall k store (map events_of_call calls) → All (IsRecordedCallOf (exports_of c) (imports_of c)) calls
      → AreFaithful seen moves leaves plan gives log refusals c fuel turns calls → AskForNothing calls → HaveLawfulAnswers calls → ReplaysFrom k (map made_call_of calls) store o → o ≡ outcome.Same
  same_from k [] store o going at fits were quiet law h = h
  same_from k (call ∷ calls) store o going at fits were quiet law (inl (next, replayed, others)) =
      let known = All-head (IsRecordedCallOf (exports_of c) (imports_of c)) call calls fits in
      let run = recorded_run seen moves leaves plan gives log refusals c fuel turns call were.0 (recordable.exports call.export known.its.known).1 quiet.0 in
      same_from (k + 1) calls next o (goes_on (made_call_of call) store next going replayed)
      (before_next k store call.events (map events_of_call calls) at (callee_of_call c call).func run.words run.memory (recorded_end (callee_of_call c call).post run.returned run.after) (asks_unanswered run.returned run.after (callee_of_call c call).post [])
      (asks_live run.returned run.after (callee_of_call c call).post []) run.answers run.is next replayed.events replayed.made.moves.moves
      replayed.alike (written_calm (imports_of c).count call.events known.asks) replayed.kept.recorded)
      (All-tail (IsRecordedCallOf (exports_of c) (imports_of c)) call calls fits) were.1 quiet.1 law.1 others
  same_from k (call ∷ calls) store (outcome.Differs i place) going at fits were quiet law (inr (same, differs)) =
      absurd (call_same call store going were.0 quiet.0 (All-head (IsRecordedCallOf (exports_of c) (imports_of c)) call calls fits) place differs)
  same_from k (call ∷ calls) store outcome.Same going at fits were quiet law (inr departs) = refl
  same_from k (call ∷ calls) store (outcome.Unlawful i place) going at fits were quiet law (inr (same, (after, result, results, events, made, short, l))) =
      let known = All-head (IsRecordedCallOf (exports_of c) (imports_of c)) call calls fits in
      let run = recorded_run seen moves leaves plan gives log refusals c fuel turns call were.0 (recordable.exports call.export known.its.known).1 quiet.0 in
      absurd (lawful_is_given k store call.events (map events_of_call calls) at (callee_of_call c call).func run.words run.memory (recorded_end (callee_of_call c call).post run.returned run.after) (asks_unanswered run.returned run.after (callee_of_call c call).post [])
      (asks_live run.returned run.after (callee_of_call c call).post []) run.answers run.is after events
      (unless_short result (JournaledReplays (guest_of store.core) events (guest_of after.core)) short made.moves).moves law.0 place l)

-- the guest of a new store is before the first call
pub before_first : (c : Component) (fuel turns : ℕ) (calls : List RecordedCall) (store : ReplayStore) → IsNewStore c (map events_of_call calls) (asks_of_calls calls) fuel turns store → AreRuns c 0 calls → IsBeforeCall 0 store (map events_of_call calls)
before_first c fuel turns calls store new runs = record {
  going = ap (λ (g : Replaying). g.stop) new.guest;
  before = inl (ap (λ (g : Replaying). g.call) new.guest, ap (λ (g : Replaying). g.at) new.guest);
  can = inl (ap (λ (g : Replaying). g.at) new.guest, can_all);
  small = omega (arith, no_memory);
  live = ap (λ (g : Replaying). g.live) new.guest;
  left_are = ap (λ (g : Replaying). g.recorded) new.guest;
}
  where
    no_memory : length store.core.memory ≡ 0
    no_memory = ap length new.memory

    can_all : CanReplayAll (length store.core.memory) (drop (guest_in_store store).call (guest_in_store store).recorded)
    can_all = subst₂ CanReplayAll (sym no_memory) (sym (ap (λ (g : Replaying). drop g.call g.recorded) new.guest)) (runs_can c 0 calls runs)

pub recorded_never_differ : {T G I P : Type 0} (seen : G → Seen) (moves : GuestIn G → List Event → GuestIn G → Type 0) (leaves : List ℕ → List ℕ → Type 0)
    (plan : I → P) (gives : P → Giving T) (log : I → Option (List LoggedEntry)) (refusals : I → ℕ) → RecordedNeverDiffer seen moves leaves plan gives log refusals
recorded_never_differ seen moves leaves plan gives log refusals c calls fuel turns o sound recordable fits were quiet (store, new, replays) =
    never_differ_from seen moves leaves plan gives log refusals c fuel turns sound recordable 0 calls store o
    (record { component = new.component; fuel_is = new.fuel_is; untrapped = new.untrapped }) fits.are were quiet replays

pub recorded_are_same : {T G I P : Type 0} (seen : G → Seen) (moves : GuestIn G → List Event → GuestIn G → Type 0) (leaves : List ℕ → List ℕ → Type 0)
    (plan : I → P) (gives : P → Giving T) (log : I → Option (List LoggedEntry)) (refusals : I → ℕ) → RecordedAreSame seen moves leaves plan gives log refusals
recorded_are_same seen moves leaves plan gives log refusals c calls fuel turns o sound recordable fits were quiet law (store, new, replays) =
    same_from seen moves leaves plan gives log refusals c fuel turns sound recordable 0 calls store o
    (record { component = new.component; fuel_is = new.fuel_is; untrapped = new.untrapped })
    (before_first c fuel turns calls store new fits.runs) fits.are were quiet law replays
