-- What a call that was replayed tells of what was recorded.
use Rattle.std.proofs.Common.{List, None, Option, [], ap, false, inl, inr, refl, subst, sym, ℕ, ◌+◌, ◌++◌, ◌∙◌, ◌∷◌, ◌≡◌}
use Rattle.canon_model.specs.Requests.{host_asks, params_requests}
use Rattle.canon_model.specs.Tree.{Trees}
use Rattle.canon_memory.specs.declared.event.Event.{Event}
use Rattle.canon_memory.specs.declared.event.Event.TheVariants as event
use Rattle.canon_memory.specs.Journal.{answer_event}
use Rattle.canon_lowering.specs.Lowering.{Answer, Meets, Trap, events_of}
use Rattle.canon_val.specs.Value.{HaveTrees}
use Rattle.canon_func.specs.Call.{MetFirst}
use Rattle.canon_func.specs.Runs.{Each, IsOneRun, MayStart, OnReturn, OnStart, events_in}
use Rattle.canon_func.specs.Stores.{Callee, callee_of}
use Rattle.canon_replay_guest.specs.Passing.{AreAlike, IsAlike}
use Rattle.canon_recording.proofs.Staging.{answers_run, no_run}
use Rattle.canon_replay.specs.Calls.{CallReplayed, MadeCall}
use Rattle.canon_replay.specs.Laws.{AsksForParams, SameTellsRecorded, TellsRecorded}
use Rattle.canon_replay.specs.Stores.{ReplayStore, named_export}

-- ---- events that are alike

-- answers are the same, and what is behind them is alike
alike_behind : (answers : List Answer) (later recorded : List Event) → AreAlike (events_of answers None ++ later) recorded → (rest : List Event) × (recorded ≡ events_of answers None ++ rest) × AreAlike later rest
alike_behind [] later recorded h = (recorded, refl, h)
alike_behind (x ∷ xs) later recorded (r, rs, e, first, h) =
    let (rest, is, others) = alike_behind xs later rs h in
    (rest, e ∙ (ap (λ (i : Event). i ∷ rs) (sym first) ∙ ap (λ (l : List Event). answer_event x.call x.at ∷ l) is), others)

-- a start is recorded as one, with the same words
start_alike : (f : ℕ) (words memory : List ℕ) (r : Event) → IsAlike (event.Start f words memory) r → (recorded : List ℕ) × (r ≡ event.Start f words recorded)
start_alike f words memory (event.Start g vs n) (e, h) = (n, ap (λ (i : ℕ). event.Start i vs n) (sym e) ∙ ap (λ (l : List ℕ). event.Start f l n) (sym h))
start_alike f words memory (event.Ask g vs n) h = cc
start_alike f words memory (event.Resume vs n) h = cc
start_alike f words memory (event.Return vs n) h = cc
start_alike f words memory (event.Realloc o os al ns a) h = cc
start_alike f words memory (event.Post g vs) h = cc
start_alike f words memory (event.Dtor g rep) h = cc
start_alike f words memory (event.Trap at len) h = cc

return_alike : (P : List ℕ → List ℕ → Type 0) (e r : Event) → IsAlike e r → OnReturn P e → OnReturn P r
return_alike P (event.Start f ws m) (event.Return vs n) h p = subst (OnReturn P) h p
return_alike P (event.Ask f ws m) (event.Return vs n) h p = subst (OnReturn P) h p
return_alike P (event.Resume ws m) (event.Return vs n) h p = subst (OnReturn P) h p
return_alike P (event.Return ws m) (event.Return vs n) h p = subst (OnReturn P) h p
return_alike P (event.Realloc o os al ns a) (event.Return vs n) h p = subst (OnReturn P) h p
return_alike P (event.Post f ws) (event.Return vs n) h p = subst (OnReturn P) h p
return_alike P (event.Dtor f rep) (event.Return vs n) h p = subst (OnReturn P) h p
return_alike P (event.Trap at len) (event.Return vs n) h p = subst (OnReturn P) h p
return_alike P e (event.Start f ws m) h p = tt
return_alike P e (event.Ask f ws m) h p = tt
return_alike P e (event.Resume ws m) h p = tt
return_alike P e (event.Realloc o os al ns a) h p = tt
return_alike P e (event.Post f ws) h p = tt
return_alike P e (event.Dtor f rep) h p = tt
return_alike P e (event.Trap at len) h p = tt

pub returns_alike : (P : List ℕ → List ℕ → Type 0) (events recorded : List Event) → AreAlike events recorded → Each (OnReturn P) events → Each (OnReturn P) recorded
returns_alike P [] recorded e each = subst (Each (OnReturn P)) (sym e) tt
returns_alike P (x ∷ xs) recorded (r, rest, e, first, others) each = subst (Each (OnReturn P)) (sym e) (return_alike P x r first each.0, returns_alike P xs rest others each.1)

-- ---- one call

asks_for : (callee : Callee) (call : MadeCall) (events : List Event) (answers : List Answer) (trap : Option Trap) (later : List Event) → events ≡ events_of answers trap ++ later → IsOneRun callee.func callee.post events
    → ((words memory : List ℕ) (more : List Event) → later ≡ event.Start callee.func words memory ∷ more → AreAlike events call.events
    → ((ts : Trees) → HaveTrees callee.params call.params ts → MetFirst (params_requests false (host_asks callee.encoding) callee.params ts) answers trap later) → AsksForParams callee call.params call.events)
asks_for callee call events answers trap later is run words memory more starts alike met =
    let behind = answers_run callee.func callee.post answers trap later (subst (IsOneRun callee.func callee.post) is run) in
    let none : trap ≡ None = behind.0 in
    let whole : events ≡ events_of answers None ++ event.Start callee.func words memory ∷ more = is ∙ (ap (λ (t : Option Trap). events_of answers t ++ later) none ∙ ap (λ (l : List Event). events_of answers None ++ l) starts) in
    let (rest, parts, behind_start) = alike_behind answers (event.Start callee.func words memory ∷ more) call.events (subst (λ (l : List Event). AreAlike l call.events) whole alike) in
    let (r, others, e, first, after) = behind_start in
    let (recorded, started) = start_alike callee.func words memory r first in
    record {
      answers = answers;
      words = words;
      memory = recorded;
      more = others;
      is = parts ∙ ap (λ (l : List Event). events_of answers None ++ l) (e ∙ ap (λ (i : Event). i ∷ others) started);
      requested = λ ts have last. all_met ts have last none;
    }
  where
    all_met : (ts : Trees) → HaveTrees callee.params call.params ts → (last : ℕ) → trap ≡ None → Meets last (params_requests false (host_asks callee.encoding) callee.params ts) answers None []
    all_met ts have last none =
        let m = met ts have in
        let ended : m.left ≡ [] = (subst (Each (OnStart (λ ws n. m.left ≡ []))) starts m.all).0 in
        subst (λ (t : Option Trap). Meets last (params_requests false (host_asks callee.encoding) callee.params ts) answers t []) none
        (subst (λ l. Meets last (params_requests false (host_asks callee.encoding) callee.params ts) answers trap l) ended (m.met last))

tells : (call : MadeCall) (before after : ReplayStore) → CallReplayed call before after → TellsRecorded call before
tells call before after h = record { asks = asks; results = h.results; represents = returns_alike _ h.events call.events h.alike h.made.is.only_results; same = h.same }
  where
    callee : Callee
    callee = callee_of before (named_export before call.export)

    by_start : MayStart callee.func h.made.is.turns h.made.is.late h.made.is.late_trap h.made.is.tail h.made.is.later → AsksForParams callee call.params call.events
    by_start (inl (e, turns, late, late_trap, tail)) =
        let run = answers_run callee.func callee.post h.made.is.answers h.made.is.trap h.made.is.later (subst (IsOneRun callee.func callee.post) h.made.is.in_parts h.made.is.one_run) in
        absurd (no_run callee.func callee.post (subst (IsOneRun callee.func callee.post) e run.1))
    by_start (inr s) = asks_for callee call h.events h.made.is.answers h.made.is.trap h.made.is.later h.made.is.in_parts h.made.is.one_run s.words s.memory (events_in h.made.is.turns ++ h.made.is.tail) s.is h.alike h.made.is.requested

    asks : AsksForParams callee call.params call.events
    asks = by_start h.made.is.starts

pub same_tells_recorded : SameTellsRecorded
same_tells_recorded k [] store h = tt
same_tells_recorded k (call ∷ calls) store (inl (next, replayed, others)) = (next, replayed, tells call store next replayed, same_tells_recorded (k + 1) calls next others)
same_tells_recorded k (call ∷ calls) store (inr h) = absurd h
