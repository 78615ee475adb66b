-- A call with the parameters of a recorded call, whose asks are answered by the recorded ones, beside that call: it asks for the same, and where it follows
-- the recorded events to their end it answers the same.
use Rattle.std.proofs.Common.{Err, List, None, Ok, Option, Result, Some, [], ap, arith, drop, false, inl, inr, length, length-append, map, refl, subst, subst₂, sym, take, ℕ, ◌+◌, ◌++◌, ◌∙◌, ◌∷◌, ◌≡◌, ◌≤◌, ◌⊎◌}
use Rattle.std.specs.Prelude.{IfErr, IfOk, IsOkUnless, OnOk, slice_get, ⊤}
use Rattle.canon_model.specs.Flat.{AreWords}
use Rattle.canon_model.specs.Homes.{AnyPointer, ParamsHome, host_texts}
use Rattle.canon_model.specs.Memory.{Block}
use Rattle.canon_model.specs.Requests.{Request, host_asks, params_requests}
use Rattle.canon_model.specs.Shape.{Shape, of_places, product}
use Rattle.canon_memory.specs.declared.event.Event.{Event}
use Rattle.canon_memory.specs.declared.event.Event.TheVariants as event
use Rattle.canon_memory.specs.Guest.{Moment, Seen, moment}
use Rattle.canon_ledger.specs.Ledger.{LedgerState, enter}
use Rattle.canon_lowering.specs.Lowering.{AllLawful, Answer, Trap, addresses_of, events_of, marks_of}
use Rattle.canon_lowering.specs.Storing.{narrow}
use Rattle.canon_plan.specs.NoHandle.{HaveNoHandle}
use Rattle.canon_resources.specs.Parts.{LeavesTake, PassedResource, lower_parts}
use Rattle.canon_val.specs.Value.{AreLiftedFrom}
use Rattle.canon_val.specs.declared.val.Val.{Val}
use Rattle.canon_context.specs.declared.fault.Fault.TheVariants as fault
use Rattle.canon_value_parts.proofs.NoResources.{members_handles}
use Rattle.canon_value_parts.proofs.OneValue.{trees_one}
use Rattle.canon_value_parts.proofs.PassesOf.{no_row_passes}
use Rattle.canon_value_parts.proofs.WordSteps.{have_fit}
use Rattle.canon_value_parts.specs.Lifts.{AreResults}
use Rattle.canon_host.specs.HostSide.{Answering, Giving, HostSide, LoggedEntry, gives_values}
use Rattle.canon_func.specs.Asks.{AcceptsAsk, AreServed, AskStops, allowed}
use Rattle.canon_func.specs.Call.{Accepts, AcceptsLater, Cause, HandlesPassOf, IsCallOf, IsStart, MetFirst, StopsStartedOf, dynamic, dynamic_results, param_parts, returned_leaves, with_results}
use Rattle.canon_func.specs.HostAsks.{IsUnrefused}
use Rattle.canon_func.specs.Passing.{Arguments, ReturnedValues}
use Rattle.canon_func.specs.Runs.{AskTurn, BeginsInAsk, Each, EndsAsking, IsNoStart, IsOneRun, Leg, MayStart, MayTrap, OnAsk, OnReturn, OnStart, SomeReturn, StartsCall, answers_in, asks_in, events_in, last_len}
use Rattle.canon_func.specs.Stores.{Callee}
use Rattle.canon_func.specs.declared.error.Error.{Error}
use Rattle.canon_func.specs.declared.error.Error.TheVariants as error
use Rattle.canon_recording.proofs.Rows.{take_all}
use Rattle.canon_recording.proofs.Staging.{answers_run, asks_leads, runs_leads}
use Rattle.canon_recording.specs.Recordings.{ServedAsk}
use Rattle.canon_recording.specs.Stages.{IsServedOn, RunsOn}
use Rattle.canon_replay_guest.specs.Following.{Leaves}
use Rattle.canon_replay_guest.specs.Passing.{AreAlike}
use Rattle.canon_replay_guest.specs.declared.stop.Stop.TheVariants as stop
use Rattle.canon_replay.specs.Calls.{HaveOtherImages}
use Rattle.canon_replay.specs.Faithful.{AreRecordedAs, OnResume}
use Rattle.canon_replay.specs.Imports.{GivesNext}
use Rattle.canon_replay.proofs.Accepting.{LawfulMarks, answers_lawful, marks_behind, returns_accepted}
use Rattle.canon_replay.proofs.Agreeing.{Agrees, agrees_more, agrees_none, other_refuted, same_head, same_tail}
use Rattle.canon_replay.proofs.Answered.{AnswersTurns, HasPlainImports, as_many_gained, turns_answered}
use Rattle.canon_replay.proofs.AskedAgreeing.{IsRecordedAsk, alike_behind_start, ask_recorded, asks_agree, start_told, tail_on_ask}
use Rattle.canon_replay.proofs.AskedFollowing.{asked_completes, as_many_asks, asks_take, each_answers, each_asked, lawful_ends, posts_return_nothing}
use Rattle.canon_replay.proofs.AskedRuns.{AskedRun, IsEnd, asked_are, asked_events, asked_run, runs_tail, tail_ends}
use Rattle.canon_replay.proofs.AskedStops.{accepts_recorded, ask_not_refused, stop_quiet, within_fuel}
use Rattle.canon_replay.proofs.Behind.{IsNoTrap, RunsBehind, behind_start, front_agrees, recorded_end, runs_behind}
use Rattle.canon_replay.proofs.Following.{Completes, calm_alike, each_alike, each_behind, each_take, ends_calm, return_back}
use Rattle.canon_replay.proofs.Homes.{start_words_same}
use Rattle.canon_replay.proofs.Requesting.{asked_agrees}
use Rattle.canon_replay.proofs.Runs.{each_seam}
use Rattle.canon_replay.proofs.Same.{returns_alike}
use Rattle.canon_replay.proofs.Values.{lifted_alike}

-- ---- of events

-- no return is among requests for blocks
no_return : (P : List ℕ → List ℕ → Type 0) (xs : List Answer) (trap : Option Trap) → ¬ SomeReturn P (events_of xs trap)
no_return P [] None h = h
no_return P [] (Some t) h = h
no_return P (x ∷ xs) trap h = no_return P xs trap h

on_each_ask : (P Q : ℕ → List ℕ → List ℕ → List Event → Type 0) → ((i : ℕ) (ws m : List ℕ) (more : List Event) → P i ws m more → Q i ws m more) → (tail : List Event) → OnAsk P tail → OnAsk Q tail
on_each_ask P Q f [] h = tt
on_each_ask P Q f (event.Ask i ws m ∷ tail) h = f i ws m tail h
on_each_ask P Q f (event.Start g ws m ∷ tail) h = tt
on_each_ask P Q f (event.Resume ws m ∷ tail) h = tt
on_each_ask P Q f (event.Return ws m ∷ tail) h = tt
on_each_ask P Q f (event.Realloc o os al ns a ∷ tail) h = tt
on_each_ask P Q f (event.Post g ws ∷ tail) h = tt
on_each_ask P Q f (event.Dtor g rep ∷ tail) h = tt
on_each_ask P Q f (event.Trap told at ∷ tail) h = tt

abbrev ask_of : AskTurn → Event
ask_of t = event.Ask t.index t.words t.memory

abbrev resume_of : AskTurn → Event
resume_of t = event.Resume t.resumed_words t.resumed_memory

-- what is behind asks that were resumed, of a front of a run
behind_asks : (post : Option ℕ) (ts : List AskTurn) (tail : List Event) → RunsBehind post (asked_events ts ++ tail) → RunsBehind post tail
behind_asks post [] tail b = b
behind_asks post (t ∷ ts) tail b = behind_asks post ts tail (two b.front b.is b.runs)
  where
    two : (front : List Event) → (ask_of t) ∷ (resume_of t) ∷ asked_events ts ++ tail ≡ front ++ b.trap → RunsOn post (front ++ b.rest) → RunsBehind post (asked_events ts ++ tail)
    two [] is runs = absurd (subst (MayTrap b.len) (sym is) b.may)
    two (x ∷ []) is runs = absurd (subst (MayTrap b.len) (sym (same_tail (ask_of t) x ((resume_of t) ∷ asked_events ts ++ tail) b.trap is)) b.may)
    two (x ∷ y ∷ front) is runs =
        let first : x ≡ (ask_of t) = sym (same_head (ask_of t) x ((resume_of t) ∷ asked_events ts ++ tail) (y ∷ front ++ b.trap) is) in
        let more : (resume_of t) ∷ asked_events ts ++ tail ≡ y ∷ front ++ b.trap = same_tail (ask_of t) x ((resume_of t) ∷ asked_events ts ++ tail) (y ∷ front ++ b.trap) is in
        let second : y ≡ (resume_of t) = sym (same_head (resume_of t) y (asked_events ts ++ tail) (front ++ b.trap) more) in
        let served = (runs_leads post 0 [] (ask_of t) (y ∷ front ++ b.rest)).0 (subst (λ (e : Event). RunsOn post (e ∷ y ∷ front ++ b.rest)) first runs) in
        record {
          front = front;
          trap = b.trap;
          rest = b.rest;
          len = b.len;
          is = same_tail (resume_of t) y (asked_events ts ++ tail) (front ++ b.trap) more;
          runs = (asks_leads post 0 [] (resume_of t) (front ++ b.rest)).0 (subst (λ (e : Event). IsServedOn post (e ∷ front ++ b.rest)) second served);
          may = b.may;
        }

-- ---- the host from the start on

-- The handles of the parameters were lowered, the asks that were resumed were served; and where the call was refused, it stopped so.
record AfterStart {T : Type 0} (args : Arguments) (its : ReturnedValues (List Val)) (gives : Giving T) (callee : Callee) (fuel : ℕ) (turns : List AskTurn) (late_guest : Seen) (to : Moment) (late : List Answer) (late_trap : Option Trap)
    (before after : HostSide T) (given : List ℕ) (answer : Result (List Val) Error) (tail : List Event) : Type 0 where
  lowered : LedgerState
  takes : LeavesTake (enter before.ledger) args.parts given lowered
  served : HostSide T
  are : AreServed gives callee fuel turns (record before { ledger = lowered }) served
  stops : IfErr answer (λ e. StopsStartedOf its gives callee fuel e late_guest to late late_trap served after tail)

after_start : {T : Type 0} (args : Arguments) (its : ReturnedValues (List Val)) (gives : Giving T) (callee : Callee) (fuel : ℕ) (turns : List AskTurn) (late_guest : Seen) (to : Moment) (late : List Answer) (late_trap : Option Trap)
    (before after : HostSide T) (given : List ℕ) (answer : Result (List Val) Error) (events tail : List Event) → ¬ Each IsNoStart events → HandlesPassOf args its gives callee fuel turns late_guest to late late_trap before after given answer events tail
    → AfterStart args its gives callee fuel turns late_guest to late late_trap before after given answer tail
after_start args its gives callee fuel turns late_guest to late late_trap before after given (Ok vs) events tail some (lowered, takes, (served, are, ends)) = record { lowered = lowered; takes = takes; served = served; are = are; stops = tt }
after_start args its gives callee fuel turns late_guest to late late_trap before after given (Err e) events tail some (inl (short, none, same)) = absurd (some (subst (Each IsNoStart) (sym none) tt))
after_start args its gives callee fuel turns late_guest to late late_trap before after given (Err e) events tail some (inr (inl (none, stops, same))) = absurd (some none)
after_start args its gives callee fuel turns late_guest to late late_trap before after given (Err e) events tail some (inr (inr (lowered, takes, (served, are, stops)))) =
    record { lowered = lowered; takes = takes; served = served; are = are; stops = stops }

module _ {T : Type 0} (its : ReturnedValues (List Val)) (gives : Giving T) (callee : Callee) (fuel : ℕ) (late_guest : Seen) (to : Moment) (late : List Answer) (late_trap : Option Trap) (served after : HostSide T) (e : Error)
    (i : ℕ) (ws m : List ℕ) (more : List Event) (ends : more ≡ events_of late late_trap) where
  -- where an ask is the first that isn't resumed, the call stopped at it
  stops_there : StopsStartedOf its gives callee fuel e late_guest to late late_trap served after (event.Ask i ws m ∷ more) → AskStops gives callee fuel e i ws (moment late_guest m) to late late_trap served after
  stops_there (inr stops) = stops
  stops_there (inl (inl (why, same, none, there), kept)) = absurd there
  stops_there (inl (inr (inl (none, untrapped, some)), kept)) = absurd (no_return _ late late_trap (subst (SomeReturn _) ends some))
  stops_there (inl (inr (inr (why, posted, some)), kept)) = absurd (no_return _ late late_trap (subst (SomeReturn _) ends some))

  alone : ((late ≡ []) × (late_trap ≡ None)) → more ≡ []
  alone (none, quiet) = ends ∙ (ap (λ (xs : List Answer). events_of xs late_trap) none ∙ ap (λ (t : Option Trap). events_of [] t) quiet)

module _ {T : Type 0} (answers_so : Answering T) (callee : Callee) (fuel : ℕ) (imports : HasPlainImports callee) (its : ReturnedValues (List Val)) (late_guest : Seen) (to : Moment) (late : List Answer) (late_trap : Option Trap) (served after : HostSide T) where
  -- then it is the last event
  ask_alone : (e : Error) (tail : List Event) → EndsAsking late late_trap tail → StopsStartedOf its (gives_values answers_so) callee fuel e late_guest to late late_trap served after tail → OnAsk (λ i ws m more. more ≡ []) tail
  ask_alone e [] ends stops = tt
  ask_alone e (event.Ask i ws m ∷ more) ends stops =
      alone its (gives_values answers_so) callee fuel late_guest to late late_trap served after e i ws m more ends
      (stop_quiet answers_so callee fuel imports i ws (moment late_guest m) to late late_trap served after e (stops_there its (gives_values answers_so) callee fuel late_guest to late late_trap served after e i ws m more ends stops))
  ask_alone e (event.Start f ws m ∷ more) ends stops = tt
  ask_alone e (event.Resume ws m ∷ more) ends stops = tt
  ask_alone e (event.Return ws m ∷ more) ends stops = tt
  ask_alone e (event.Realloc o os al ns a ∷ more) ends stops = tt
  ask_alone e (event.Post f ws ∷ more) ends stops = tt
  ask_alone e (event.Dtor f rep ∷ more) ends stops = tt
  ask_alone e (event.Trap told at ∷ more) ends stops = tt

-- ---- the call

module _ {U : Type 0} (answers_so : Answering U) (callee : Callee) (fuel turns : ℕ) (params results : List Val) (others : List LoggedEntry) (recorded : List Event) (q : AskedRun answers_so callee fuel turns params results others recorded)
    (served : List ServedAsk) (logged : AreRecordedAs q.gained served) (fit : Each (OnStart (λ ws m. AreWords ws)) recorded) (resumed : Each (OnResume (λ ws m. AreWords ws)) recorded)
    (plain : HaveNoHandle callee.params) (no_handle : HaveNoHandle callee.results) (imports : HasPlainImports callee)
    {T : Type 0} (asks : List ServedAsk) (Lives : List Leg → List Event → Type 0) (Leaves_ : List ℕ → List ℕ → Type 0) (before after : Moment) (host left : HostSide T)
    (entries : List LoggedEntry) (told : host.log ≡ Some entries) (more_asks : List ServedAsk) (next : drop (length entries) asks ≡ served ++ more_asks) (answer : Result (Unit {0}) Error) (vs : List Val) (events : List Event)
    (n : IsCallOf (dynamic callee params) (dynamic_results callee) Lives Leaves_ (GivesNext {T = T} asks) callee (allowed fuel turns) before after host left (with_results answer vs) events) where
  abbrev asked_for : List Request
  asked_for = params_requests false (host_asks callee.encoding) callee.params q.trees

  abbrev its_end : List Event
  its_end = recorded_end callee.post q.returned q.after

  abbrev recorded_later : List Event
  recorded_later = event.Start callee.func q.words q.memory ∷ asked_events q.asks ++ its_end

  met : MetFirst asked_for n.answers n.trap n.later
  met = n.requested q.trees q.have

  at_recorded : (P : Event → Type 0) → Each P recorded → P (event.Start callee.func q.words q.memory) × Each P (asked_events q.asks ++ its_end)
  at_recorded P h = each_seam P (events_of q.answers None) (event.Start callee.func q.words q.memory) (asked_events q.asks ++ its_end) (subst (Each P) q.is h)

  resumes_fit : (us : List AskTurn) → Each (OnResume (λ ws m. AreWords ws)) (asked_events us ++ its_end) → Each (OnResume (λ ws m. AreWords ws)) (asked_events us)
  resumes_fit [] h = tt
  resumes_fit (u ∷ us) h = (tt, (h.1.0, resumes_fit us h.1.1))

  abbrev StartsOfCall : Type 0
  StartsOfCall = StartsCall callee.func n.turns n.late n.late_trap n.tail n.later

  module _ (s : StartsOfCall) where
    in_whole : events ≡ events_of n.answers n.trap ++ (event.Start callee.func s.words s.memory ∷ (events_in n.turns ++ n.tail))
    in_whole = n.in_parts ∙ ap (λ (es : List Event). events_of n.answers n.trap ++ es) s.is

    at_start : (P : Event → Type 0) → Each P events → P (event.Start callee.func s.words s.memory) × Each P (events_in n.turns ++ n.tail)
    at_start P h = each_seam P (events_of n.answers n.trap) (event.Start callee.func s.words s.memory) (events_in n.turns ++ n.tail) (subst (Each P) in_whole h)

    on : AfterStart (dynamic callee params) (dynamic_results callee) (GivesNext {T = T} asks) callee fuel n.turns n.late_guest after n.late n.late_trap host left n.given (with_results answer vs) n.tail
    on = after_start (dynamic callee params) (dynamic_results callee) (GivesNext {T = T} asks) callee fuel n.turns n.late_guest after n.late n.late_trap host left n.given (with_results answer vs) events n.tail
        (λ none. (at_start IsNoStart none).0) n.handles

    its_asks : AnswersTurns (GivesNext {T = T} asks).answers callee fuel n.turns entries (record host { ledger = on.lowered }) on.served
    its_asks = turns_answered (GivesNext {T = T} asks) callee fuel imports n.turns (record host { ledger = on.lowered }) on.served entries told on.are

    asks_are : events_in n.turns ≡ asked_events n.turns
    asks_are = asked_are (GivesNext {T = T} asks).answers callee fuel n.turns entries its_asks.gained its_asks.are

    later_is : events ≡ events_of n.answers n.trap ++ (event.Start callee.func s.words s.memory ∷ (asked_events n.turns ++ n.tail))
    later_is = in_whole ∙ ap (λ (es : List Event). events_of n.answers n.trap ++ (event.Start callee.func s.words s.memory ∷ (es ++ n.tail))) asks_are

    answer_words_same : addresses_of n.answers ≡ addresses_of q.answers → AreWords s.words → q.words ≡ s.words
    answer_words_same same few =
        let st : IsStart (dynamic callee params) callee before n.answers n.given s.words s.memory = (at_start (OnStart (IsStart (dynamic callee params) callee before n.answers n.given)) n.start).0 in
        start_words_same callee.encoding q.words s.words callee.params q.trees st.trees (addresses_of q.answers) (at_recorded (OnStart (λ ws m. AreWords ws)) fit).0 few plain (have_fit callee.params params st.trees st.have)
        (trees_one callee.params params q.trees st.trees q.have st.have) (trees_one callee.params params st.trees st.trees st.have st.have) q.count st.count q.homes
        (subst (λ (xs : List ℕ). ParamsHome AnyPointer (host_texts callee.encoding) false s.words callee.params st.trees xs []) same st.homes)

    runs_on : RunsBehind callee.post n.tail
    runs_on = behind_asks callee.post n.turns n.tail (subst (λ (es : List Event). RunsBehind callee.post (es ++ n.tail)) asks_are
        (behind_start callee.func callee.post s.words s.memory (events_in n.turns ++ n.tail) n.prefix.trap n.prefix.rest (last_len (length before.bytes) n.prefix.prefix) n.answers n.trap n.prefix.prefix
        (sym in_whole ∙ n.prefix.events_are) n.prefix.may_trap (subst (IsOneRun callee.func callee.post) n.prefix.begins n.prefix.one_run)))

    -- of a call that answered Ok
    ok_end : IsOneRun callee.func callee.post events → IsEnd callee.post n.tail
    ok_end run =
        let behind = answers_run callee.func callee.post n.answers n.trap n.later (subst (IsOneRun callee.func callee.post) n.in_parts run) in
        tail_ends callee.post n.tail (runs_tail callee.post n.turns n.tail (subst (λ (es : List Event). RunsOn callee.post (es ++ n.tail)) asks_are
        (runs_behind callee.func callee.post s.words s.memory (events_in n.turns ++ n.tail) (subst (IsOneRun callee.func callee.post) s.is behind.1)))) s.no_resume

    -- one more ask, which isn't resumed, is the last event
    alone_by : (a : Result (List Val) Error) → OnOk a (IsOneRun callee.func callee.post events)
        → IfErr a (λ e. StopsStartedOf (dynamic_results callee) (GivesNext {T = T} asks) callee fuel e n.late_guest after n.late n.late_trap on.served left n.tail) → OnAsk (λ i ws m more. more ≡ []) n.tail
    alone_by (Ok xs) run stops = subst (OnAsk (λ i ws m more. more ≡ [])) (sym (ok_end run).is) tt
    alone_by (Err e) run stops = ask_alone (GivesNext {T = T} asks).answers callee fuel imports (dynamic_results callee) n.late_guest after n.late n.late_trap on.served left e n.tail s.asking stops

    tail_agrees : Agrees n.tail its_end
    tail_agrees = let b = runs_on in subst (λ (es : List Event). Agrees es its_end) (sym b.is)
        (front_agrees callee.post q.returned q.after b.front b.rest b.trap b.len n.late n.late_trap b.runs b.may (subst (EndsAsking n.late n.late_trap) b.is s.asking))

    later_asks_agree : Agrees (asked_events n.turns ++ n.tail) (asked_events q.asks ++ its_end)
    later_asks_agree = asks_agree callee.post q.returned q.after T answers_so callee imports fuel fuel asks n.tail tail_agrees
        (λ j us m ts ws2 m2. tail_on_ask callee.post q.returned q.after n.tail n.late n.late_trap runs_on s.asking (alone_by (with_results answer vs) n.one_run on.stops) j us m ts ws2 m2)
        n.turns q.asks entries its_asks.gained others q.gained served more_asks its_asks.are q.asked logged next (resumes_fit q.asks (at_recorded (OnResume (λ ws m. AreWords ws)) resumed).1)

  -- ---- what it asks for

  later_agrees : MayStart callee.func n.turns n.late n.late_trap n.tail n.later → addresses_of n.answers ≡ addresses_of q.answers → Agrees n.later recorded_later
  later_agrees (inl (e, turns_none, late_none, trap_none, tail_none)) same = subst (λ (es : List Event). Agrees es recorded_later) (sym e) (agrees_none recorded_later)
  later_agrees (inr s) same = subst (λ (es : List Event). Agrees es recorded_later) (sym (s.is ∙ ap (λ (es : List Event). event.Start callee.func s.words s.memory ∷ (es ++ n.tail)) (asks_are s)))
      (agrees_more (event.Start callee.func s.words s.memory) (event.Start callee.func q.words q.memory) (asked_events n.turns ++ n.tail) (asked_events q.asks ++ its_end)
      (λ z of words. start_told callee.func s.words s.memory q.words q.memory z (answer_words_same s same) of words) (λ alike. later_asks_agree s))

  none_or_all : MayStart callee.func n.turns n.late n.late_trap n.tail n.later → (n.later ≡ []) ⊎ (met.left ≡ [])
  none_or_all (inl (e, turns_none, late_none, trap_none, tail_none)) = inl e
  none_or_all (inr s) = inr (subst (Each (OnStart (λ ws m. met.left ≡ []))) s.is met.all).0

  agrees : Agrees events recorded
  agrees = subst₂ Agrees (sym n.in_parts) (sym q.is) (asked_agrees met.left n.later recorded_later (none_or_all n.starts) n.answers n.trap q.answers asked_for 0 (met.met 0) (q.met 0) (later_agrees n.starts))

  pub leaves_nowhere : (place : ℕ) (live : List Block) (len : ℕ) → place ≤ length recorded → ¬ Leaves stop.Differs recorded place live len events
  leaves_nowhere place live len le l = other_refuted (slice_get recorded place) l.request l.left (λ words. agrees l.followed l.rest l.made place l.request l.is le l.alike l.of words)

  -- ---- how it ends

  module _ (lawful : LawfulMarks after.guest.marks) (calm : Each IsNoTrap recorded) (place : ℕ) (alike : AreAlike events (take place recorded)) where
    calm_events : Each IsNoTrap events
    calm_events = each_alike IsNoTrap IsNoTrap calm_alike events (take place recorded) alike (each_take IsNoTrap place recorded calm)

    few_asks : asks_in events ≤ turns
    few_asks = omega (arith, as_many_asks events (take place recorded) alike, asks_take place recorded, q.few)

    returns_so : (P : List ℕ → List ℕ → Type 0) → P q.returned q.after → Each (OnReturn P) events
    returns_so P h = each_alike (OnReturn P) (OnReturn P) (return_back P) events (take place recorded) alike (each_take (OnReturn P) place recorded (subst (Each (OnReturn P)) (sym q.is)
        (each_answers (OnReturn P) (λ o os al ns a. tt) q.answers recorded_later (tt, each_asked P q.asks its_end (h, posts_return_nothing P callee.post q.returned)))))

    in_tail : (P : Event → Type 0) → Each P events → MayStart callee.func n.turns n.late n.late_trap n.tail n.later → Each P n.tail
    in_tail P h (inl (e, turns_none, late_none, trap_none, tail_none)) = subst (Each P) (sym tail_none) tt
    in_tail P h (inr s) = each_behind P (events_in n.turns) n.tail (at_start s P h).1

    lawful_all : AllLawful (n.answers ++ n.late)
    lawful_all = lawful_ends n.answers (answers_in n.turns) n.late
        (answers_lawful (n.answers ++ (answers_in n.turns ++ n.late)) (marks_behind before.guest.marks (marks_of (n.answers ++ (answers_in n.turns ++ n.late))) (subst LawfulMarks n.marks lawful)))

    -- an ask that isn't resumed is a recorded one
    there_recorded : (s : StartsOfCall) → OnAsk (λ i ws m more. IsRecordedAsk callee fuel asks (length entries + length n.turns) i ws m) n.tail
    there_recorded s =
        let (p, behind) = alike_behind_start callee.func callee.func s.words s.memory q.words q.memory (asked_events n.turns ++ n.tail) (asked_events q.asks ++ its_end) n.answers n.trap q.answers place
        (subst₂ (λ (es rs : List Event). AreAlike es (take place rs)) (later_is s) q.is alike) in
        ask_recorded answers_so callee fuel asks callee.post q.returned q.after n.turns q.asks n.tail (length entries) p others q.gained served more_asks q.asked logged next behind

    none_passed : param_parts callee params ≡ []
    none_passed = ap (λ (ps : List PassedResource). map (lower_parts callee.types) ps) (no_row_passes callee.params params (members_handles callee.params plain))

    as_long : (gained : List LoggedEntry) → length gained ≡ length n.turns → length entries + length n.turns ≡ length (entries ++ gained)
    as_long gained e = omega (arith, e, length-append entries gained)

    -- ---- no function of the host refuses

    refuses_not : (s : StartsOfCall) (e : Error) (k : ℕ) → e ≡ error.HostRefused k → (tail : List Event) → EndsAsking n.late n.late_trap tail → OnAsk (λ i ws m more. IsRecordedAsk callee fuel asks (length entries + length n.turns) i ws m) tail
        → BeginsInAsk (λ i ws m more. ⊤) tail → StopsStartedOf (dynamic_results callee) (GivesNext {T = T} asks) callee fuel e n.late_guest after n.late n.late_trap (on s).served left tail → ⊥
    refuses_not s e k is [] ends there begins stops = begins
    refuses_not s e k is (event.Ask i ws m ∷ more) ends there begins stops =
        let a = its_asks s in
        let at : IsRecordedAsk callee fuel asks (length (entries ++ a.gained)) i ws m =
        subst (λ (j : ℕ). IsRecordedAsk callee fuel asks j i ws m) (as_long a.gained (as_many_gained (GivesNext {T = T} asks).answers callee fuel n.turns entries a.gained a.are)) there in
        ask_not_refused callee fuel imports asks (entries ++ a.gained) i ws m at (moment n.late_guest m) after n.late n.late_trap (on s).served left a.log k
        (subst (λ (x : Error). AskStops (GivesNext {T = T} asks) callee fuel x i ws (moment n.late_guest m) after n.late n.late_trap (on s).served left) is
        (stops_there (dynamic_results callee) (GivesNext {T = T} asks) callee fuel n.late_guest after n.late n.late_trap (on s).served left e i ws m more ends stops))
    refuses_not s e k is (event.Start f ws m ∷ more) ends there begins stops = begins
    refuses_not s e k is (event.Resume ws m ∷ more) ends there begins stops = begins
    refuses_not s e k is (event.Return ws m ∷ more) ends there begins stops = begins
    refuses_not s e k is (event.Realloc o os al ns a ∷ more) ends there begins stops = begins
    refuses_not s e k is (event.Post f ws ∷ more) ends there begins stops = begins
    refuses_not s e k is (event.Dtor f rep ∷ more) ends there begins stops = begins
    refuses_not s e k is (event.Trap asked at ∷ more) ends there begins stops = begins

    begins_so : (P : ℕ → List ℕ → List ℕ → List Event → Type 0) (tail : List Event) → BeginsInAsk P tail → BeginsInAsk (λ i ws m more. ⊤) tail
    begins_so P [] h = h
    begins_so P (event.Ask i ws m ∷ more) h = tt
    begins_so P (event.Start f ws m ∷ more) h = h
    begins_so P (event.Resume ws m ∷ more) h = h
    begins_so P (event.Return ws m ∷ more) h = h
    begins_so P (event.Realloc o os al ns a ∷ more) h = h
    begins_so P (event.Post f ws ∷ more) h = h
    begins_so P (event.Dtor f rep ∷ more) h = h
    begins_so P (event.Trap asked at ∷ more) h = h

    unrefused_by : (a : Result (List Val) Error) → IfErr a (Cause (dynamic callee params) (dynamic_results callee) callee (allowed fuel turns) before after events n.tail)
        → MayStart callee.func n.turns n.late n.late_trap n.tail n.later → ((s : StartsOfCall) → IfErr a (λ e. StopsStartedOf (dynamic_results callee) (GivesNext {T = T} asks) callee fuel e n.late_guest after n.late n.late_trap (on s).served left n.tail))
        → IfErr a IsUnrefused
    unrefused_by (Ok xs) cause starts stops = tt
    unrefused_by (Err e) cause (inl (none, turns_none, late_none, trap_none, tail_none)) stops = λ k is.
        subst (BeginsInAsk (λ i ws m more. ⊤)) tail_none (begins_so _ n.tail (subst (Cause (dynamic callee params) (dynamic_results callee) callee (allowed fuel turns) before after events n.tail) is cause))
    unrefused_by (Err e) cause (inr s) stops = λ k is.
        refuses_not s e k is n.tail s.asking (there_recorded s) (begins_so _ n.tail (subst (Cause (dynamic callee params) (dynamic_results callee) callee (allowed fuel turns) before after events n.tail) is cause)) (stops s)

    -- ---- the ledger accepts it

    accepts : Accepts (dynamic callee params) (dynamic_results callee) (GivesNext {T = T} asks) callee fuel n.turns host n.tail
    accepts = ([], enter host.ledger, subst (λ ps. LeavesTake (enter host.ledger) ps [] (enter host.ledger)) (sym none_passed) (refl, refl), later)
      where
        asks_accepted : (after_asks : HostSide T) (a : AnswersTurns (GivesNext {T = T} asks).answers callee fuel n.turns entries (record host { ledger = enter host.ledger }) after_asks)
            → MayStart callee.func n.turns n.late n.late_trap n.tail n.later → OnAsk (λ i ws m more. AcceptsAsk (GivesNext {T = T} asks) callee fuel i ws m after_asks) n.tail
        asks_accepted after_asks a (inl (none, turns_none, late_none, trap_none, tail_none)) = subst (OnAsk (λ i ws m more. AcceptsAsk (GivesNext {T = T} asks) callee fuel i ws m after_asks)) (sym tail_none) tt
        asks_accepted after_asks a (inr s) = on_each_ask (λ i ws m more. IsRecordedAsk callee fuel asks (length entries + length n.turns) i ws m) (λ i ws m more. AcceptsAsk (GivesNext {T = T} asks) callee fuel i ws m after_asks)
            (λ i ws m more there. accepts_recorded callee fuel imports asks (entries ++ a.gained) i ws m
            (subst (λ (j : ℕ). IsRecordedAsk callee fuel asks j i ws m) (as_long a.gained (as_many_gained (GivesNext {T = T} asks).answers callee fuel n.turns entries a.gained a.are)) there) after_asks a.log)
            n.tail (there_recorded s)

        later : (after_asks : HostSide T) → AreServed (GivesNext {T = T} asks) callee fuel n.turns (record host { ledger = enter host.ledger }) after_asks → AcceptsLater (dynamic_results callee) (GivesNext {T = T} asks) callee fuel after_asks n.tail
        later after_asks h =
            let a = turns_answered (GivesNext {T = T} asks) callee fuel imports n.turns (record host { ledger = enter host.ledger }) after_asks entries told h in (
              asks_accepted after_asks a n.starts,
              returns_accepted callee host.ledger after_asks.ledger a.ledger n.tail
                  (in_tail (OnReturn (λ words memory. returned_leaves callee words memory ≡ [])) (returns_so (λ words memory. returned_leaves callee words memory ≡ []) q.leaves) n.starts),
            )

    pub ends_ok : IsOkUnless (with_results answer vs) (error.Fault fault.OutOfMemory)
    ends_ok = n.valid q.trees q.have q.small lawful_all (unrefused_by (with_results answer vs) n.cause n.starts (λ s. (on s).stops)) (ends_calm events calm_events) few_asks
        (returns_so (λ words memory. (dynamic_results callee).represent words memory fuel) (q.are.its_trees, q.are.represented, within_fuel fuel q.left _ q.are.spent)) accepts

    -- ---- of a call that answered Ok

    module _ (ok : with_results answer vs ≡ Ok vs) where
      its_run : AskedRun (GivesNext {T = T} asks).answers callee fuel turns params vs entries events
      its_run = (asked_run Lives Leaves_ (GivesNext {T = T} asks) callee fuel turns params vs before after host left events
          (subst (λ (a : Result (List Val) Error). IsCallOf (dynamic callee params) (dynamic_results callee) Lives Leaves_ (GivesNext {T = T} asks) callee (allowed fuel turns) before after host left a events) ok n) no_handle imports entries told).0

      -- it followed all recorded events
      pub follows_all : length recorded ≤ place
      follows_all = (subst₂ Completes (sym its_run.is) (sym q.is)
          (asked_completes callee.post its_run.returned its_run.after q.returned q.after callee.func callee.func its_run.words its_run.memory q.words q.memory its_run.asks q.asks its_run.answers q.answers)) place alike

      abbrev Represents : List ℕ → List ℕ → Type 0
      Represents words memory = (rest : ℕ) × AreResults callee.encoding (narrow memory) callee.results words fuel rest vs

      only_results : Each (OnReturn Represents) events
      only_results = subst (λ (a : Result (List Val) Error). IfOk a (λ rs. Each (OnReturn (λ words memory. (rest : ℕ) × AreResults callee.encoding (narrow memory) callee.results words fuel rest rs)) events)) ok n.only_results

      represented : Represents q.returned q.after
      represented = (each_behind (OnReturn Represents) (asked_events q.asks) its_end
          (at_recorded (OnReturn Represents) (returns_alike Represents events recorded (subst (AreAlike events) (take_all recorded place follows_all) alike) only_results)).1).0

      -- with the recorded results
      pub same_results : (s : Shape) → s ≡ product of_places callee.results → ¬ HaveOtherImages s vs results
      same_results s is = lifted_alike s callee.results vs results q.are.its_trees is
          (subst (AreLiftedFrom callee.results vs) (q.are.no_other represented.1.its_trees represented.1.represented) represented.1.have) q.are.have
