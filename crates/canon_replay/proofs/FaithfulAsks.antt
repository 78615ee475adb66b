-- Recordings of calls that `Func::call` made, whose imports exposed the log that is recorded, are replayed without a difference.
use Rattle.std.proofs.Common.{All, List, Ok, Option, Some, [], ap, arith, drop, inl, inr, length, length-append, map, refl, subst, subst₂, suc, sym, zero, ℕ, ◌+◌, ◌++◌, ◌∙◌, ◌∷◌, ◌≡◌}
use Rattle.std.proofs.Math.Seq.{drop-append_seam}
use Rattle.std.proofs.lemmas.List.{append_cancel_left}
use Rattle.std.proofs.lemmas.List.Elements.{All-head, All-tail}
use Rattle.std.specs.Prelude.{slice_get}
use Rattle.canon_memory.specs.Guest.{GuestIn, Seen}
use Rattle.canon_memory.specs.declared.event.Event.{Event}
use Rattle.canon_context.specs.Component.{IsComponent}
use Rattle.canon_context.specs.Core.{guest_of, moment_of}
use Rattle.canon_context.specs.declared.component.Component.{Component}
use Rattle.canon_plan.specs.NoHandle.{HaveNoHandle}
use Rattle.canon_host.specs.HostSide.{Giving, LoggedEntry, host_side}
use Rattle.canon_imports.specs.Imports.{entries_of}
use Rattle.canon_imports.specs.declared.imports.Line.{Line}
use Rattle.canon_func.specs.Call.{LivesUntil}
use Rattle.canon_func.specs.Runs.{asks_in}
use Rattle.canon_func.specs.Stores.{Callee, callee_of}
use Rattle.canon_recording.proofs.Rows.{map_length}
use Rattle.canon_recording.specs.Fits.{IsRecordable, IsRecordedCallOf, callee_of_call}
use Rattle.canon_recording.specs.Recordings.{RecordedCall, ServedAsk, exports_of, imports_of}
use Rattle.canon_replay.specs.Calls.{CallDiffers, CallReplayed, ReplaysFrom, asks_of_calls, events_of_call, made_call_of, replay_host}
use Rattle.canon_replay.specs.Faithful.{AreLogged, AreRecordedAs, HaveLawfulAnswers, IsFaithfulCall, IsLoggedCall, IsNoDifference, LoggedAreSame, LoggedNeverDiffer, asked_view, logged_view}
use Rattle.canon_replay.specs.Imports.{GivesNext}
use Rattle.canon_replay.specs.Stores.{IsNewStore, JournaledReplays, ReplayStore, asks_in_store, journaled_seen, named_export}
use Rattle.canon_replay.specs.declared.outcome.Outcome.{Outcome}
use Rattle.canon_replay.specs.declared.outcome.Outcome.TheVariants as outcome
use Rattle.canon_replay.proofs.Answered.{HasPlainImports, as_many_gained, plain_imports}
use Rattle.canon_replay.proofs.AskedAgreeing.{inside}
use Rattle.canon_replay.proofs.AskedFollowing.{as_many_asks, run_asks}
use Rattle.canon_replay.proofs.AskedRuns.{AskedRun, asked_events, asked_run, kept_otherwise}
use Rattle.canon_replay.proofs.Behind.{recorded_end}
use Rattle.canon_replay.proofs.Departing.{unless_short}
use Rattle.canon_replay.proofs.Faithful.{IsGoing, before_first, goes_on, recorded_entered, written_calm}
use Rattle.canon_replay.proofs.MadeAgain.{answered_asks, callee_same, differs_nowhere}
use Rattle.canon_replay.proofs.Lawfully.{asks_live, asks_unanswered}
use Rattle.canon_replay.proofs.Steady.{IsBeforeCall, before_next, lawful_is_given}

-- ---- lists

none_left : {A : Type 0} (k : ℕ) → ◌≡◌ {A = List A} (drop k []) []
none_left zero = refl
none_left (suc k) = refl

drop_both : {A : Type 0} (m k : ℕ) (xs : List A) → drop (m + k) xs ≡ drop k (drop m xs)
drop_both zero k xs = let same : 0 + k ≡ k = omega arith in ap (λ (i : ℕ). drop i xs) same
drop_both (suc m) k [] = none_left (suc m + k) ∙ sym (none_left k)
drop_both (suc m) k (x ∷ xs) = let same : suc m + k ≡ suc (m + k) = omega arith in ap (λ (i : ℕ). drop i (x ∷ xs)) same ∙ drop_both m k xs

-- what is left behind some more
drop_more : {A : Type 0} (n : ℕ) (xs front rest : List A) → drop n xs ≡ front ++ rest → drop (n + length front) xs ≡ rest
drop_more n xs front rest e = drop_both n (length front) xs ∙ (ap (drop (length front)) e ∙ drop-append_seam front rest)

recorded_length : (entries : List LoggedEntry) (served : List ServedAsk) → AreRecordedAs entries served → length entries ≡ length served
recorded_length entries served e = sym (map_length logged_view entries) ∙ (ap length e ∙ map_length asked_view served)

-- ---- the recorded call, in the component

module _ {T G I P : Type 0} (seen : G → Seen) (moves : GuestIn G → List Event → GuestIn G → Type 0) (leaves : List ℕ → List ℕ → Type 0)
    (plan : I → P) (gives : P → Giving T) (log : I → Option (List LoggedEntry)) (refusals : I → ℕ) (c : Component) (fuel turns : ℕ) (call : RecordedCall) (w : IsLoggedCall seen moves leaves plan gives log refusals c fuel turns call) where
  abbrev f : IsFaithfulCall seen moves leaves plan gives log refusals c fuel turns call
  f = w.faithful

  abbrev its_callee : Callee
  its_callee = callee_of f.before f.func

  -- its run, and that what the log gained by it is recorded
  record LoggedRun (callee : Callee) (spent limit : ℕ) (events : List Event) : Type 0 where
    run : AskedRun (gives (plan f.before.imports)).answers callee spent limit call.params call.results w.entries events
    logged : AreRecordedAs run.gained call.served

  logged_run : HaveNoHandle (callee_of_call c call).params × HaveNoHandle (callee_of_call c call).results → HasPlainImports (callee_of_call c call) → LoggedRun (callee_of_call c call) fuel turns call.events
  logged_run plain imports =
      subst (λ (x : Callee). LoggedRun x fuel turns call.events) f.callee (subst (λ (k : ℕ). LoggedRun its_callee k turns call.events) f.fuel_is (subst (λ (k : ℕ). LoggedRun its_callee f.before.core.fuel k call.events) f.turns_is
      (subst (LoggedRun its_callee f.before.core.fuel f.before.turns) f.events (record { run = kept.0; logged = ap (map logged_view) (kept.1 ∙ gained_is) ∙ w.told }))))
    where
      its_plain : HaveNoHandle its_callee.params × HaveNoHandle its_callee.results
      its_plain = subst (λ (x : Callee). HaveNoHandle x.params × HaveNoHandle x.results) (sym f.callee) plain

      made : (run : AskedRun (gives (plan f.before.imports)).answers its_callee f.before.core.fuel f.before.turns f.params f.results w.entries f.calls.events) × (log f.after.imports ≡ Some (w.entries ++ run.gained))
      made = asked_run (LivesUntil {U = Unit {0}} seen moves (guest_of f.before.core) (guest_of f.after.core) (Ok tt)) leaves (gives (plan f.before.imports)) its_callee f.before.core.fuel f.before.turns f.params f.results
          (moment_of seen f.before.core) (moment_of seen f.after.core) (host_side f.before.core (log f.before.imports) (refusals f.before.imports)) (host_side f.after.core (log f.after.imports) (refusals f.after.imports)) f.calls.events f.calls.so
          its_plain.1 (subst HasPlainImports (sym f.callee) imports) w.entries w.logged

      kept : (run : AskedRun (gives (plan f.before.imports)).answers its_callee f.before.core.fuel f.before.turns call.params call.results w.entries f.calls.events) × (run.gained ≡ made.0.gained)
      kept = kept_otherwise (gives (plan f.before.imports)).answers its_callee f.before.core.fuel f.before.turns f.params f.results call.params call.results w.entries f.calls.events its_plain f.params_are f.results_are made.0

      gained_is : made.0.gained ≡ w.gained
      gained_is = append_cancel_left w.entries made.0.gained w.gained (inside _ _ (sym made.1 ∙ w.grown))

-- ---- all calls

module _ {T G I P : Type 0} (seen : G → Seen) (moves : GuestIn G → List Event → GuestIn G → Type 0) (leaves : List ℕ → List ℕ → Type 0)
    (plan : I → P) (gives : P → Giving T) (log : I → Option (List LoggedEntry)) (refusals : I → ℕ) (c : Component) (fuel turns : ℕ) (sound : IsComponent c) (recordable : IsRecordable c) where
  abbrev IsLogged : RecordedCall → Type 0
  IsLogged call = IsLoggedCall seen moves leaves plan gives log refusals c fuel turns call

  abbrev FollowsCalls : ReplayStore → Type 0
  FollowsCalls store = IsGoing seen moves leaves plan gives log refusals c fuel turns sound recordable store

  -- The store has this limit of turns; and the asks that are left are those of these calls.
  record StandsAtCalls (store : ReplayStore) (calls : List RecordedCall) : Type 0 where
    going : FollowsCalls store
    turns_is : store.turns ≡ turns
    left : drop (length (answered_asks store)) (asks_in_store store) ≡ asks_of_calls calls

  module _ (call : RecordedCall) (others : List RecordedCall) (before : ReplayStore) (at : StandsAtCalls before (call ∷ others)) (w : IsLogged call) (fits : IsRecordedCallOf (exports_of c) (imports_of c) call) where
    plain : HaveNoHandle (callee_of_call c call).params × HaveNoHandle (callee_of_call c call).results
    plain = recordable.exports call.export fits.its.known

    imports : HasPlainImports (callee_of_call c call)
    imports = plain_imports c recordable (slice_get c.exports.items call.export)

    recorded : LoggedRun seen moves leaves plan gives log refusals c fuel turns call w (callee_of_call c call) fuel turns call.events
    recorded = logged_run seen moves leaves plan gives log refusals c fuel turns call w plain imports

    run : LoggedRun seen moves leaves plan gives log refusals c fuel turns call w (callee_of_call c call) before.core.fuel before.turns call.events
    run = subst (λ (k : ℕ). LoggedRun seen moves leaves plan gives log refusals c fuel turns call w (callee_of_call c call) k before.turns call.events) (sym at.going.fuel_is)
        (subst (λ (k : ℕ). LoggedRun seen moves leaves plan gives log refusals c fuel turns call w (callee_of_call c call) fuel k call.events) (sym at.turns_is) recorded)

    call_same : (place : ℕ) → ¬ CallDiffers place (made_call_of call) before
    call_same = differs_nowhere c call before at.going.component at.going.untrapped (gives (plan w.faithful.before.imports)).answers w.entries call.served
        (record { run = run.run; logged = run.logged; fit = w.faithful.words; resumed = w.resumed }) plain imports (written_calm (imports_of c).count call.events fits.asks) (asks_of_calls others) at.left
        w.faithful.slots w.faithful.before.trapped sound fits.its.known (recorded_entered seen moves leaves plan gives log refusals c fuel turns call w.faithful)

    abbrev again : Callee
    again = callee_of before (named_export before call.export)

    again_is : callee_of_call c call ≡ again
    again_is = sym (callee_same before.core.component c call.export call.export at.going.component refl)

    -- ---- the next call

    module _ (next : ReplayStore) (r : CallReplayed (made_call_of call) before next) where
      its_run : (x : AskedRun (GivesNext {T = Unit {0}} (asks_in_store before)).answers again before.core.fuel before.turns call.params r.results (answered_asks before) r.events)
          × ((replay_host next).log ≡ Some (answered_asks before ++ x.gained))
      its_run = asked_run (LivesUntil {U = Unit {0}} journaled_seen JournaledReplays (guest_of before.core) (guest_of next.core) (Ok tt)) (λ m k. k ≡ m) (GivesNext {T = Unit {0}} (asks_in_store before)) again before.core.fuel before.turns
          call.params r.results (moment_of journaled_seen before.core) (moment_of journaled_seen next.core) (replay_host before) (replay_host next) r.events r.made.is (subst (λ (x : Callee). HaveNoHandle x.results) again_is plain.1) (subst HasPlainImports again_is imports) (answered_asks before) refl

      answered_more : answered_asks next ≡ answered_asks before ++ its_run.0.gained
      answered_more = inside (answered_asks next) (answered_asks before ++ its_run.0.gained) its_run.1

      -- as many asks were answered as are recorded
      as_many : length its_run.0.gained ≡ length call.served
      as_many =
          let x = its_run.0 in
          as_many_gained (GivesNext {T = Unit {0}} (asks_in_store before)).answers again before.core.fuel x.asks (answered_asks before) x.gained x.asked
          ∙ (sym (ap asks_in x.is ∙ run_asks again.post x.returned x.after again.func x.words x.memory x.asks x.answers)
          ∙ (as_many_asks r.events call.events r.alike
          ∙ (ap asks_in run.run.is ∙ run_asks (callee_of_call c call).post run.run.returned run.run.after (callee_of_call c call).func run.run.words run.run.memory run.run.asks run.run.answers
          ∙ (sym (as_many_gained (gives (plan w.faithful.before.imports)).answers (callee_of_call c call) before.core.fuel run.run.asks w.entries run.run.gained run.run.asked)
          ∙ recorded_length run.run.gained call.served run.logged))))

      next_at : StandsAtCalls next others
      next_at = record {
        going = goes_on seen moves leaves plan gives log refusals c fuel turns sound recordable (made_call_of call) before next at.going r;
        turns_is = r.kept.turns_kept ∙ at.turns_is;
        left = subst₂ (λ (n : ℕ) (asks : List ServedAsk). drop n asks ≡ asks_of_calls others) (sym count) (sym r.kept.asks)
            (drop_more (length (answered_asks before)) (asks_in_store before) call.served (asks_of_calls others) at.left);
      }
        where
          count : length (answered_asks next) ≡ length (answered_asks before) + length call.served
          count = ap length answered_more ∙ (length-append (answered_asks before) its_run.0.gained ∙ ap (λ (n : ℕ). length (answered_asks before) + n) as_many)

  never_differ_from : (k : ℕ) (calls : List RecordedCall) (store : ReplayStore) (o : Outcome) → StandsAtCalls store calls → All (IsRecordedCallOf (exports_of c) (imports_of c)) calls → AreLogged seen moves leaves plan gives log refusals c fuel turns calls
      → ReplaysFrom k (map made_call_of calls) store o → IsNoDifference o
  never_differ_from k [] store o at fits were h = subst IsNoDifference (sym h) tt
  never_differ_from k (call ∷ calls) store o at fits were (inl (next, replayed, others)) =
      never_differ_from (k + 1) calls next o (next_at call calls store at were.0 (All-head (IsRecordedCallOf (exports_of c) (imports_of c)) call calls fits) next replayed) (All-tail (IsRecordedCallOf (exports_of c) (imports_of c)) call calls fits)
      were.1 others
  never_differ_from k (call ∷ calls) store (outcome.Differs i place) at fits were (inr (same, differs)) =
      absurd (call_same call calls store at were.0 (All-head (IsRecordedCallOf (exports_of c) (imports_of c)) call calls fits) place differs)
  never_differ_from k (call ∷ calls) store outcome.Same at fits were (inr departs) = tt
  never_differ_from k (call ∷ calls) store (outcome.Unlawful i place) at fits were (inr departs) = tt

  -- the same where the recorded answers are lawful, of a guest that is before call k
  same_from : (k : ℕ) (calls : List RecordedCall) (store : ReplayStore) (o : Outcome) → StandsAtCalls store calls → IsBeforeCall k store (map events_of_call calls) → All (IsRecordedCallOf (exports_of c) (imports_of c)) calls
      → AreLogged seen moves leaves plan gives log refusals c fuel turns calls → HaveLawfulAnswers calls → ReplaysFrom k (map made_call_of calls) store o → o ≡ outcome.Same
  same_from k [] store o at guest fits were law h = h
  same_from k (call ∷ calls) store o at guest fits were law (inl (next, replayed, others)) =
      let known = All-head (IsRecordedCallOf (exports_of c) (imports_of c)) call calls fits in
      let q = (recorded call calls store at were.0 known).run in
      same_from (k + 1) calls next o (next_at call calls store at were.0 known next replayed)
      (before_next k store call.events (map events_of_call calls) guest (callee_of_call c call).func q.words q.memory (asked_events q.asks ++ recorded_end (callee_of_call c call).post q.returned q.after)
      (asks_unanswered q.returned q.after (callee_of_call c call).post q.asks) (asks_live q.returned q.after (callee_of_call c call).post q.asks) q.answers q.is next replayed.events replayed.made.moves.moves
      replayed.alike (written_calm (imports_of c).count call.events known.asks) replayed.kept.recorded)
      (All-tail (IsRecordedCallOf (exports_of c) (imports_of c)) call calls fits) were.1 law.1 others
  same_from k (call ∷ calls) store (outcome.Differs i place) at guest fits were law (inr (same, differs)) =
      absurd (call_same call calls store at were.0 (All-head (IsRecordedCallOf (exports_of c) (imports_of c)) call calls fits) place differs)
  same_from k (call ∷ calls) store outcome.Same at guest fits were law (inr departs) = refl
  same_from k (call ∷ calls) store (outcome.Unlawful i place) at guest fits were law (inr (same, (after, result, results, events, made, short, l))) =
      let known = All-head (IsRecordedCallOf (exports_of c) (imports_of c)) call calls fits in
      let q = (recorded call calls store at were.0 known).run in
      absurd (lawful_is_given k store call.events (map events_of_call calls) guest (callee_of_call c call).func q.words q.memory (asked_events q.asks ++ recorded_end (callee_of_call c call).post q.returned q.after)
      (asks_unanswered q.returned q.after (callee_of_call c call).post q.asks) (asks_live q.returned q.after (callee_of_call c call).post q.asks) q.answers q.is after events
      (unless_short result (JournaledReplays (guest_of store.core) events (guest_of after.core)) short made.moves).moves law.0 place l)

module _ {T G I P : Type 0} (seen : G → Seen) (moves : GuestIn G → List Event → GuestIn G → Type 0) (leaves : List ℕ → List ℕ → Type 0)
    (plan : I → P) (gives : P → Giving T) (log : I → Option (List LoggedEntry)) (refusals : I → ℕ) where
  begins_at : (c : Component) (fuel turns : ℕ) (sound : IsComponent c) (recordable : IsRecordable c) (calls : List RecordedCall) (store : ReplayStore) → IsNewStore c (map events_of_call calls) (asks_of_calls calls) fuel turns store
      → StandsAtCalls seen moves leaves plan gives log refusals c fuel turns sound recordable store calls
  begins_at c fuel turns sound recordable calls store new = record {
    going = record { component = new.component; fuel_is = new.fuel_is; untrapped = new.untrapped };
    turns_is = new.turns_is;
    left = ap (λ (ls : List Line). drop (length (entries_of ls)) (asks_in_store store)) new.served ∙ new.asks_are;
  }

  pub logged_never_differ : LoggedNeverDiffer seen moves leaves plan gives log refusals
  logged_never_differ c calls fuel turns o sound recordable fits were (store, new, replays) =
      never_differ_from seen moves leaves plan gives log refusals c fuel turns sound recordable 0 calls store o (begins_at c fuel turns sound recordable calls store new) fits.are were replays

  pub logged_are_same : LoggedAreSame seen moves leaves plan gives log refusals
  logged_are_same c calls fuel turns o sound recordable fits were law (store, new, replays) =
      same_from seen moves leaves plan gives log refusals c fuel turns sound recordable 0 calls store o (begins_at c fuel turns sound recordable calls store new) (before_first c fuel turns calls store new fits.runs) fits.are were law replays
