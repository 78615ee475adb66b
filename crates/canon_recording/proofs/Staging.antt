-- Each event leads from a stage to the next, and no other does.
use Rattle.std.proofs.Common.{List, None, Option, Some, [], append_assoc, ap, ap₂, Bool, arith, drop, false, inl, inr, length, nat_eq, refl, subst, suc, sym, true, true≢false, zero, ℕ, ◌+◌, ◌++◌, ◌<◌, ◌≤◌, ◌∙◌, ◌∷◌, ◌≡◌}
use Rattle.std.specs.Prelude.{IsTrue, slice_index_or, if◌then◌else◌, ◌↔◌, ◌⊎◌}
use Rattle.std.proofs.lemmas.Bool.{eqb-false, eqb-true}
use lib.Pointwise.{pointwise}
use Rattle.std.specs.Cmp.Lexicographic.{other_text, same_text}
use Rattle.canon_lowering.specs.Lowering.{Answer, Trap, events_of}
use Rattle.canon_memory.specs.Journal.{asked_trap}
use Rattle.canon_model.specs.Requests.{Call}
use Rattle.canon_memory.specs.declared.event.Event.{Event}
use Rattle.canon_memory.specs.declared.event.Event.TheVariants as event
use Rattle.canon_func.specs.Runs.{AskTurn, Each, Grows, IsOneRun, IsRealloc, events_in, last_len, posts}
use Rattle.canon_recording.specs.Stages.{IsLeftOfRun, IsServedOn, LeadsTo, RunsOn, after_asks, after_before, after_runs, is_end, len_in}
use Rattle.canon_recording.specs.declared.runs.Stage.{Stage}
use Rattle.canon_recording.specs.declared.runs.Stage.TheVariants as stage

-- ---- the first event of a list tells its kind

first_is : (e f : Event) (es fs : List Event) → e ∷ es ≡ f ∷ fs → (e ≡ f) × (es ≡ fs)
first_is e f es fs h =
    let first : e ≡ f = cc in
    let rest : es ≡ fs = cc in
    (first, rest)

-- ---- before the start

module _ (func : ℕ) (post : Option ℕ) where
  more_reallocs : (e : Event) (events : List Event) → IsRealloc e → IsOneRun func post events → IsOneRun func post (e ∷ events)
  more_reallocs e events h (words, memory, returned, after, r) =
      (words, memory, returned, after, record { reallocs = e ∷ r.reallocs; only_reallocs = (h, r.only_reallocs); turns = r.turns; is = ap (λ l. e ∷ l) r.is })

  -- of a run, what is after its first event
  run_first : (e : Event) (events : List Event) → IsOneRun func post (e ∷ events)
      → (IsRealloc e × IsOneRun func post events) ⊎ ((words memory : List ℕ) × (e ≡ event.Start func words memory) × RunsOn post events)
  run_first e events (words, memory, returned, after, r) = by_reallocs r.reallocs r.only_reallocs r.is
    where
      by_reallocs : (reallocs : List Event) → Each IsRealloc reallocs → e ∷ events ≡ reallocs ++ event.Start func words memory ∷ events_in r.turns ++ event.Return returned after ∷ posts post returned
          → (IsRealloc e × IsOneRun func post events) ⊎ ((words memory : List ℕ) × (e ≡ event.Start func words memory) × RunsOn post events)
      by_reallocs [] only is =
          let p = first_is e (event.Start func words memory) events (events_in r.turns ++ event.Return returned after ∷ posts post returned) is in
          inr (words, memory, p.0, record { turns = r.turns; returned = returned; after = after; is = p.1 })
      by_reallocs (x ∷ xs) (h, only) is =
          let p = first_is e x events (xs ++ event.Start func words memory ∷ events_in r.turns ++ event.Return returned after ∷ posts post returned) is in
          inl (subst IsRealloc (sym p.0) h, (words, memory, returned, after, record { reallocs = xs; only_reallocs = only; turns = r.turns; is = p.1 }))

  started : (words memory : List ℕ) (events : List Event) → RunsOn post events → IsOneRun func post (event.Start func words memory ∷ events)
  started words memory events r = (words, memory, r.returned, r.after, record { reallocs = []; only_reallocs = tt; turns = r.turns; is = ap (λ l. event.Start func words memory ∷ l) r.is })

  no_first : (returned : List ℕ) (e : Event) → ¬ IsRealloc e → ((words memory : List ℕ) → ¬ (e ≡ event.Start func words memory)) → LeadsTo func post stage.Before returned e None
  no_first returned e not_realloc not_start events h = by_first (run_first e events h)
    where
      by_first : ¬ ((IsRealloc e × IsOneRun func post events) ⊎ ((words memory : List ℕ) × (e ≡ event.Start func words memory) × RunsOn post events))
      by_first (inl (r, rest)) = not_realloc r
      by_first (inr (words, memory, is, rest)) = not_start words memory is

  realloc_before : (returned : List ℕ) (o os align ns answer : ℕ) (events : List Event) → IsOneRun func post (event.Realloc o os align ns answer ∷ events) → IsOneRun func post events
  realloc_before returned o os align ns answer events h = drop_first (run_first (event.Realloc o os align ns answer) events h)
    where
      drop_first : (IsRealloc (event.Realloc o os align ns answer) × IsOneRun func post events) ⊎ ((words memory : List ℕ) × (event.Realloc o os align ns answer ≡ event.Start func words memory)
          × RunsOn post events) → IsOneRun func post events
      drop_first (inl (r, rest)) = rest
      drop_first (inr (words, memory, is, rest)) = absurd (realloc_no_start is)
        where
          realloc_no_start : {ws m : List ℕ} → ¬ (event.Realloc o os align ns answer ≡ event.Start func ws m)
          realloc_no_start e = cc

  -- Requests for blocks before a start are none that trapped, and behind them the run goes on.
  pub answers_run : (answers : List Answer) (trap : Option Trap) (later : List Event) → IsOneRun func post (events_of answers trap ++ later) → (trap ≡ None) × IsOneRun func post later
  answers_run [] None later run = (refl, run)
  answers_run [] (Some t) later run = by_first (run_first (asked_trap t.call t.len) later run)
    where
      by_first : (IsRealloc (asked_trap t.call t.len) × IsOneRun func post later) ⊎ ((words memory : List ℕ) × (asked_trap t.call t.len ≡ event.Start func words memory) × RunsOn post later) → (Some t ≡ None) × IsOneRun func post later
      by_first (inl (r, rest)) = absurd r
      by_first (inr (words, memory, is, rest)) = absurd (no_start is)
        where
          no_start : {ws m : List ℕ} → ¬ (asked_trap t.call t.len ≡ event.Start func ws m)
          no_start e = cc
  answers_run (x ∷ xs) trap later run = answers_run xs trap later (realloc_before [] x.call.old x.call.old_size x.call.align x.call.new_size x.at (events_of xs trap ++ later) run)

  pub no_run : ¬ IsOneRun func post []
  no_run (words, memory, returned, after, r) = by_reallocs r.reallocs r.is
    where
      by_reallocs : (reallocs : List Event) → ¬ ([] ≡ reallocs ++ event.Start func words memory ∷ events_in r.turns ++ event.Return returned after ∷ posts post returned)
      by_reallocs [] e = cc
      by_reallocs (x ∷ xs) e = cc

  start_before : (f : ℕ) (words memory : List ℕ) (events : List Event) → IsOneRun func post (event.Start f words memory ∷ events) → RunsOn post events
  start_before f words memory events h = take_first (run_first (event.Start f words memory) events h)
    where
      take_first : (IsRealloc (event.Start f words memory) × IsOneRun func post events) ⊎ ((ws m : List ℕ) × (event.Start f words memory ≡ event.Start func ws m) × RunsOn post events) → RunsOn post events
      take_first (inl (r, rest)) = absurd r
      take_first (inr (ws, m, e, rest)) = rest

  by_func : (returned : List ℕ) (f : ℕ) (words memory : List ℕ) (b : Bool) → nat_eq f func ≡ b → LeadsTo func post stage.Before returned (event.Start f words memory) (if b then Some stage.Runs else None)
  by_func returned f words memory true e = λ events. (start_before f words memory events, λ h. subst (λ i. IsOneRun func post (event.Start i words memory ∷ events)) (sym (eqb-true f func e)) (started words memory events h))
  by_func returned f words memory false e = no_first returned (event.Start f words memory) (λ h. h) (λ ws m is. eqb-false f func e (func_in ws m is))
    where
      func_in : (ws m : List ℕ) → event.Start f words memory ≡ event.Start func ws m → f ≡ func
      func_in ws m is = cc

  pub before_leads : (returned : List ℕ) (e : Event) → LeadsTo func post stage.Before returned e (after_before func e)
  before_leads returned (event.Realloc o os align ns answer) = λ events. (realloc_before returned o os align ns answer events, λ h. more_reallocs (event.Realloc o os align ns answer) events tt h)
  before_leads returned (event.Start f words memory) = by_func returned f words memory (nat_eq f func) refl
  before_leads returned (event.Ask index words memory) = no_first returned (event.Ask index words memory) (λ h. h) (λ ws m is. cc)
  before_leads returned (event.Resume words memory) = no_first returned (event.Resume words memory) (λ h. h) (λ ws m is. cc)
  before_leads returned (event.Return words memory) = no_first returned (event.Return words memory) (λ h. h) (λ ws m is. cc)
  before_leads returned (event.Post f words) = no_first returned (event.Post f words) (λ h. h) (λ ws m is. cc)
  before_leads returned (event.Dtor f rep) = no_first returned (event.Dtor f rep) (λ h. h) (λ ws m is. cc)
  before_leads returned (event.Trap at len) = no_first returned (event.Trap at len) (λ h. h) (λ ws m is. cc)

-- ---- while it runs

module _ (post : Option ℕ) where
  -- what is after the first event
  runs_first : (e : Event) (events : List Event) → RunsOn post (e ∷ events)
      → ((index : ℕ) × (words memory : List ℕ) × (e ≡ event.Ask index words memory) × IsServedOn post events) ⊎ ((words memory : List ℕ) × (e ≡ event.Return words memory) × (events ≡ posts post words))
  runs_first e events r = by_turns r.turns r.is
    where
      by_turns : (turns : List AskTurn) → e ∷ events ≡ events_in turns ++ event.Return r.returned r.after ∷ posts post r.returned
          → ((index : ℕ) × (words memory : List ℕ) × (e ≡ event.Ask index words memory) × IsServedOn post events) ⊎ ((words memory : List ℕ) × (e ≡ event.Return words memory) × (events ≡ posts post words))
      by_turns [] is =
          let p = first_is e (event.Return r.returned r.after) events (posts post r.returned) is in
          inr (r.returned, r.after, p.0, p.1)
      by_turns (t ∷ turns) is =
          let rest : List Event = events_in turns ++ event.Return r.returned r.after ∷ posts post r.returned in
          let p = first_is e (event.Ask t.index t.words t.memory) events ((events_of t.answers None ++ event.Resume t.resumed_words t.resumed_memory ∷ events_in turns) ++ event.Return r.returned r.after ∷ posts post r.returned) is in
          let split = append_assoc (events_of t.answers None) (event.Resume t.resumed_words t.resumed_memory ∷ events_in turns) (event.Return r.returned r.after ∷ posts post r.returned) in
          inl (
            t.index,
            t.words,
            t.memory,
            p.0,
            record {
              answers = t.answers;
              words = t.resumed_words;
              memory = t.resumed_memory;
              rest = rest;
              is = p.1 ∙ split;
              runs = record { turns = turns; returned = r.returned; after = r.after; is = refl };
            },
          )

  asked : (index : ℕ) (words memory : List ℕ) (events : List Event) → IsServedOn post events → RunsOn post (event.Ask index words memory ∷ events)
  asked index words memory events s = record {
    turns = record { index = index; words = words; live = record { blocks = []; holds = false }; memory = memory; answers = s.answers; resumed_words = s.words; resumed_memory = s.memory } ∷ s.runs.turns;
    returned = s.runs.returned;
    after = s.runs.after;
    is = ap (λ l. event.Ask index words memory ∷ l) (s.is ∙ ap (λ l. events_of s.answers None ++ event.Resume s.words s.memory ∷ l) s.runs.is
        ∙ sym (append_assoc (events_of s.answers None) (event.Resume s.words s.memory ∷ events_in s.runs.turns) (event.Return s.runs.returned s.runs.after ∷ posts post s.runs.returned)));
  }

  -- ---- while an ask is served

  served_first : (e : Event) (events : List Event) → IsServedOn post (e ∷ events)
      → ((c : Call) × (answer : ℕ) × (e ≡ event.Realloc c.old c.old_size c.align c.new_size answer) × IsServedOn post events) ⊎ ((words memory : List ℕ) × (e ≡ event.Resume words memory) × RunsOn post events)
  served_first e events s = by_answers s.answers s.is
    where
      by_answers : (answers : List Answer) → e ∷ events ≡ events_of answers None ++ event.Resume s.words s.memory ∷ s.rest
          → ((c : Call) × (answer : ℕ) × (e ≡ event.Realloc c.old c.old_size c.align c.new_size answer) × IsServedOn post events) ⊎ ((words memory : List ℕ) × (e ≡ event.Resume words memory) × RunsOn post events)
      by_answers [] is =
          let p = first_is e (event.Resume s.words s.memory) events s.rest is in
          inr (s.words, s.memory, p.0, subst (RunsOn post) (sym p.1) s.runs)
      by_answers (a ∷ answers) is =
          let p = first_is e (event.Realloc a.call.old a.call.old_size a.call.align a.call.new_size a.at) events (events_of answers None ++ event.Resume s.words s.memory ∷ s.rest) is in
          inl (a.call, a.at, p.0, record { answers = answers; words = s.words; memory = s.memory; rest = s.rest; is = p.1; runs = s.runs })

  answered : (o os align ns answer : ℕ) (events : List Event) → IsServedOn post events → IsServedOn post (event.Realloc o os align ns answer ∷ events)
  answered o os align ns answer events s = record {
    answers = record { call = record { old = o; old_size = os; align = align; new_size = ns }; at = answer; mark = record { lawful = true; tidy = true } } ∷ s.answers;
    words = s.words;
    memory = s.memory;
    rest = s.rest;
    is = ap (λ l. event.Realloc o os align ns answer ∷ l) s.is;
    runs = s.runs;
  }

  resumed : (words memory : List ℕ) (events : List Event) → RunsOn post events → IsServedOn post (event.Resume words memory ∷ events)
  resumed words memory events r = record { answers = []; words = words; memory = memory; rest = events; is = refl; runs = r }

  -- ---- the stages

  module _ (func : ℕ) (returned : List ℕ) where
    no_runs : (e : Event) → ((index : ℕ) (ws m : List ℕ) → ¬ (e ≡ event.Ask index ws m)) → ((ws m : List ℕ) → ¬ (e ≡ event.Return ws m)) → LeadsTo func post stage.Runs returned e None
    no_runs e no_ask no_return events h = by_first (runs_first e events h)
      where
        by_first : ¬ (((index : ℕ) × (words memory : List ℕ) × (e ≡ event.Ask index words memory) × IsServedOn post events) ⊎ ((words memory : List ℕ) × (e ≡ event.Return words memory) × (events ≡ posts post words)))
        by_first (inl (index, ws, m, is, rest)) = no_ask index ws m is
        by_first (inr (ws, m, is, rest)) = no_return ws m is

    ask_runs : (index : ℕ) (words memory : List ℕ) (events : List Event) → RunsOn post (event.Ask index words memory ∷ events) → IsServedOn post events
    ask_runs index words memory events h = drop_first (runs_first (event.Ask index words memory) events h)
      where
        drop_first : ((i : ℕ) × (ws m : List ℕ) × (event.Ask index words memory ≡ event.Ask i ws m) × IsServedOn post events) ⊎ ((ws m : List ℕ) × (event.Ask index words memory ≡ event.Return ws m)
            × (events ≡ posts post ws)) → IsServedOn post events
        drop_first (inl (i, ws, m, is, rest)) = rest
        drop_first (inr (ws, m, is, rest)) = absurd (differ ws m is)
          where
            differ : (ws m : List ℕ) → ¬ (event.Ask index words memory ≡ event.Return ws m)
            differ ws m e = cc

    return_runs : (words memory : List ℕ) (events : List Event) → RunsOn post (event.Return words memory ∷ events) → events ≡ posts post words
    return_runs words memory events h = drop_first (runs_first (event.Return words memory) events h)
      where
        drop_first : ((i : ℕ) × (ws m : List ℕ) × (event.Return words memory ≡ event.Ask i ws m) × IsServedOn post events) ⊎ ((ws m : List ℕ) × (event.Return words memory ≡ event.Return ws m)
            × (events ≡ posts post ws)) → events ≡ posts post words
        drop_first (inl (i, ws, m, is, rest)) = absurd (differ i ws m is)
          where
            differ : (i : ℕ) (ws m : List ℕ) → ¬ (event.Return words memory ≡ event.Ask i ws m)
            differ i ws m e = cc
        drop_first (inr (ws, m, is, rest)) = rest ∙ ap (posts post) (sym (words_in ws m is))
          where
            words_in : (ws m : List ℕ) → event.Return words memory ≡ event.Return ws m → words ≡ ws
            words_in ws m e = cc

    pub runs_leads : (e : Event) → LeadsTo func post stage.Runs returned e (after_runs e)
    runs_leads (event.Ask index words memory) = λ events. (ask_runs index words memory events, λ h. asked index words memory events h)
    runs_leads (event.Return words memory) = λ events. (return_runs words memory events, λ h. record { turns = []; returned = words; after = memory; is = ap (λ l. event.Return words memory ∷ l) h })
    runs_leads (event.Start f words memory) = no_runs (event.Start f words memory) (λ i ws m is. cc) (λ ws m is. cc)
    runs_leads (event.Resume words memory) = no_runs (event.Resume words memory) (λ i ws m is. cc) (λ ws m is. cc)
    runs_leads (event.Realloc o os align ns answer) = no_runs (event.Realloc o os align ns answer) (λ i ws m is. cc) (λ ws m is. cc)
    runs_leads (event.Post f words) = no_runs (event.Post f words) (λ i ws m is. cc) (λ ws m is. cc)
    runs_leads (event.Dtor f rep) = no_runs (event.Dtor f rep) (λ i ws m is. cc) (λ ws m is. cc)
    runs_leads (event.Trap at len) = no_runs (event.Trap at len) (λ i ws m is. cc) (λ ws m is. cc)

    no_asks : (e : Event) → ((o os align ns answer : ℕ) → ¬ (e ≡ event.Realloc o os align ns answer)) → ((ws m : List ℕ) → ¬ (e ≡ event.Resume ws m)) → LeadsTo func post stage.Asks returned e None
    no_asks e no_realloc no_resume events h = by_first (served_first e events h)
      where
        by_first : ¬ (((c : Call) × (answer : ℕ) × (e ≡ event.Realloc c.old c.old_size c.align c.new_size answer) × IsServedOn post events) ⊎ ((words memory : List ℕ) × (e ≡ event.Resume words memory) × RunsOn post events))
        by_first (inl (c, answer, is, rest)) = no_realloc c.old c.old_size c.align c.new_size answer is
        by_first (inr (ws, m, is, rest)) = no_resume ws m is

    realloc_asks : (o os align ns answer : ℕ) (events : List Event) → IsServedOn post (event.Realloc o os align ns answer ∷ events) → IsServedOn post events
    realloc_asks o os align ns answer events h = drop_first (served_first (event.Realloc o os align ns answer) events h)
      where
        drop_first : ((c : Call) × (a : ℕ) × (event.Realloc o os align ns answer ≡ event.Realloc c.old c.old_size c.align c.new_size a) × IsServedOn post events) ⊎
            ((ws m : List ℕ) × (event.Realloc o os align ns answer ≡ event.Resume ws m) × RunsOn post events) → IsServedOn post events
        drop_first (inl (c, a, is, rest)) = rest
        drop_first (inr (ws, m, is, rest)) = absurd (differ ws m is)
          where
            differ : (ws m : List ℕ) → ¬ (event.Realloc o os align ns answer ≡ event.Resume ws m)
            differ ws m e = cc

    resume_asks : (words memory : List ℕ) (events : List Event) → IsServedOn post (event.Resume words memory ∷ events) → RunsOn post events
    resume_asks words memory events h = drop_first (served_first (event.Resume words memory) events h)
      where
        drop_first : ((c : Call) × (a : ℕ) × (event.Resume words memory ≡ event.Realloc c.old c.old_size c.align c.new_size a) × IsServedOn post events) ⊎
            ((ws m : List ℕ) × (event.Resume words memory ≡ event.Resume ws m) × RunsOn post events) → RunsOn post events
        drop_first (inl (c, a, is, rest)) = absurd (differ c a is)
          where
            differ : (c : Call) (a : ℕ) → ¬ (event.Resume words memory ≡ event.Realloc c.old c.old_size c.align c.new_size a)
            differ c a e = cc
        drop_first (inr (ws, m, is, rest)) = rest

    pub asks_leads : (e : Event) → LeadsTo func post stage.Asks returned e (after_asks e)
    asks_leads (event.Realloc o os align ns answer) = λ events. (realloc_asks o os align ns answer events, λ h. answered o os align ns answer events h)
    asks_leads (event.Resume words memory) = λ events. (resume_asks words memory events, λ h. resumed words memory events h)
    asks_leads (event.Start f words memory) = no_asks (event.Start f words memory) (λ o os al ns a is. cc) (λ ws m is. cc)
    asks_leads (event.Ask index words memory) = no_asks (event.Ask index words memory) (λ o os al ns a is. cc) (λ ws m is. cc)
    asks_leads (event.Return words memory) = no_asks (event.Return words memory) (λ o os al ns a is. cc) (λ ws m is. cc)
    asks_leads (event.Post f words) = no_asks (event.Post f words) (λ o os al ns a is. cc) (λ ws m is. cc)
    asks_leads (event.Dtor f rep) = no_asks (event.Dtor f rep) (λ o os al ns a is. cc) (λ ws m is. cc)
    asks_leads (event.Trap at len) = no_asks (event.Trap at len) (λ o os al ns a is. cc) (λ ws m is. cc)

-- ---- after the return

-- an event that is the post-return with the words that were returned
pub recorded_posted : (func p : ℕ) (returned : List ℕ) (e : Event) → e ≡ event.Post p returned → LeadsTo func (Some p) stage.Returned returned e (Some stage.Ended)
recorded_posted func p returned e is events = (λ h. (first_is e (event.Post p returned) events [] h).1, λ h. ap₂ (λ f l. f ∷ l) is h)

pub not_posted : (func p f : ℕ) (returned words : List ℕ) (e : Event) → e ≡ event.Post f words → ((f ≡ p) → ¬ (words ≡ returned)) → LeadsTo func (Some p) stage.Returned returned e None
not_posted func p f returned words e is differ events h =
    let first = (first_is e (event.Post p returned) events [] h).0 in
    differ (func_in is first) (words_in is first)
  where
    func_in : e ≡ event.Post f words → e ≡ event.Post p returned → f ≡ p
    func_in is first = cc

    words_in : e ≡ event.Post f words → e ≡ event.Post p returned → words ≡ returned
    words_in is first = cc

-- ---- the end

not_before : (func : ℕ) (post : Option ℕ) → ¬ IsOneRun func post []
not_before func post (words, memory, returned, after, r) = by_reallocs r.reallocs r.is
  where
    by_reallocs : (reallocs : List Event) → ¬ ([] ≡ reallocs ++ event.Start func words memory ∷ events_in r.turns ++ event.Return returned after ∷ posts post returned)
    by_reallocs [] e = omega (arith, ap length e)
    by_reallocs (x ∷ xs) e = omega (arith, ap length e)

not_runs : (post : Option ℕ) → ¬ RunsOn post []
not_runs post r = by_turns r.turns r.is
  where
    by_turns : (turns : List AskTurn) → ¬ ([] ≡ events_in turns ++ event.Return r.returned r.after ∷ posts post r.returned)
    by_turns [] e = omega (arith, ap length e)
    by_turns (x ∷ xs) e = omega (arith, ap length e)

not_asks : (post : Option ℕ) → ¬ IsServedOn post []
not_asks post s = by_answers s.answers s.is
  where
    by_answers : (answers : List Answer) → ¬ ([] ≡ events_of answers None ++ event.Resume s.words s.memory ∷ s.rest)
    by_answers [] e = omega (arith, ap length e)
    by_answers (x ∷ xs) e = omega (arith, ap length e)

module _ (func : ℕ) (returned : List ℕ) where
  pub end_left : (post : Option ℕ) (s : Stage) → is_end post s ≡ true → IsLeftOfRun func post s returned []
  end_left None stage.Before e = absurd (true≢false (sym e))
  end_left None stage.Runs e = absurd (true≢false (sym e))
  end_left None stage.Asks e = absurd (true≢false (sym e))
  end_left None stage.Returned e = refl
  end_left None stage.Ended e = refl
  end_left (Some p) stage.Before e = absurd (true≢false (sym e))
  end_left (Some p) stage.Runs e = absurd (true≢false (sym e))
  end_left (Some p) stage.Asks e = absurd (true≢false (sym e))
  end_left (Some p) stage.Returned e = absurd (true≢false (sym e))
  end_left (Some p) stage.Ended e = refl

  pub left_end : (post : Option ℕ) (s : Stage) → IsLeftOfRun func post s returned [] → is_end post s ≡ true
  left_end None stage.Before h = absurd (not_before func None h)
  left_end None stage.Runs h = absurd (not_runs None h)
  left_end None stage.Asks h = absurd (not_asks None h)
  left_end None stage.Returned h = refl
  left_end None stage.Ended h = refl
  left_end (Some p) stage.Before h = absurd (not_before func (Some p) h)
  left_end (Some p) stage.Runs h = absurd (not_runs (Some p) h)
  left_end (Some p) stage.Asks h = absurd (not_asks (Some p) h)
  left_end (Some p) stage.Returned h = absurd (omega (arith, ap length h))
  left_end (Some p) stage.Ended h = refl

-- ---- memory

-- memory grows by an event, and by those after it
pub grows_first : (len last : ℕ) (e : Event) (events : List Event) → len ≤ len_in e len → Grows (last_len len (e ∷ [])) events last → Grows len (e ∷ events) last
grows_first len last (event.Start f ws m) events h g = (h, g)
grows_first len last (event.Ask i ws m) events h g = (h, g)
grows_first len last (event.Resume ws m) events h g = (h, g)
grows_first len last (event.Return ws m) events h g = (h, g)
grows_first len last (event.Realloc o os al ns a) events h g = g
grows_first len last (event.Post f ws) events h g = g
grows_first len last (event.Dtor f rep) events h g = g
grows_first len last (event.Trap asked at) events h g = (h, g)

pub first_grows : (len last : ℕ) (e : Event) (events : List Event) → Grows len (e ∷ events) last → (len ≤ len_in e len) × Grows (last_len len (e ∷ [])) events last
first_grows len last (event.Start f ws m) events g = g
first_grows len last (event.Ask i ws m) events g = g
first_grows len last (event.Resume ws m) events g = g
first_grows len last (event.Return ws m) events g = g
first_grows len last (event.Realloc o os al ns a) events g = (omega arith, g)
first_grows len last (event.Post f ws) events g = (omega arith, g)
first_grows len last (event.Dtor f rep) events g = (omega arith, g)
first_grows len last (event.Trap asked at) events g = g

pub last_first : (len : ℕ) (e : Event) (events : List Event) → last_len len (e ∷ events) ≡ last_len (last_len len (e ∷ [])) events
last_first len (event.Start f ws m) events = refl
last_first len (event.Ask i ws m) events = refl
last_first len (event.Resume ws m) events = refl
last_first len (event.Return ws m) events = refl
last_first len (event.Realloc o os al ns a) events = refl
last_first len (event.Post f ws) events = refl
last_first len (event.Dtor f rep) events = refl
last_first len (event.Trap asked at) events = refl

-- ---- loops over events: what is left of them

pub left_at : (events : List Event) (i : ℕ) (e : Event) → i < length events → e ≡ slice_index_or events i e → drop i events ≡ e ∷ drop (i + 1) events
left_at [] i e h is = absurd (omega (arith, h))
left_at (x ∷ xs) zero e h is = ap (λ l. l ∷ xs) (sym is)
left_at (x ∷ xs) (suc i) e h is =
    let next : suc (i + 1) ≡ suc i + 1 = omega arith in
    left_at xs i e (omega (arith, h)) is ∙ ap (λ k. e ∷ drop k (x ∷ xs)) next

pub none_left : (events : List Event) (i : ℕ) → length events ≤ i → drop i events ≡ []
none_left [] zero h = refl
none_left [] (suc i) h = refl
none_left (x ∷ xs) zero h = absurd (omega (arith, h))
none_left (x ∷ xs) (suc i) h = none_left xs i (omega (arith, h))

-- what a test tells
pub same_list : (r : Bool) (xs ys : List ℕ) → r ≡ pointwise nat_eq xs ys → IsTrue r ↔ (xs ≡ ys)
same_list true xs ys e = (λ h. same_text xs ys e, λ h. refl)
same_list false xs ys e = (λ h. absurd (true≢false (sym h)), λ h. absurd (other_text xs ys e h))

pub iff_then : {A B C : Type 0} → A ↔ B → B ↔ C → A ↔ C
iff_then f g = (λ a. g.0 (f.0 a), λ c. f.1 (g.1 c))

pub none : {A : Type 0} → ¬ A → IsTrue false ↔ A
none no_a = (λ h. absurd (true≢false (sym h)), λ a. absurd (no_a a))
