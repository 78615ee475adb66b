-- What is known of a recorded call that asked for no import: its events, and what its parameters and its results are.
use Rattle.std.proofs.Common.{List, None, Ok, Option, [], ap, arith, false, inl, inr, length, refl, subst, sym, true, ℕ, ◌++◌, ◌∙◌, ◌∷◌, ◌≡◌}
use Rattle.canon_model.specs.Flat.{AreWords, max_params}
use Rattle.canon_model.specs.Homes.{AnyPointer, ParamsHome, host_texts}
use Rattle.canon_model.specs.Leaves.{Leaf}
use Rattle.canon_model.specs.Requests.{host_asks, params_requests}
use Rattle.canon_model.specs.Tree.{Trees}
use Rattle.canon_memory.specs.declared.event.Event.{Event}
use Rattle.canon_memory.specs.declared.event.Event.TheVariants as event
use Rattle.canon_memory.specs.Guest.{Moment}
use Rattle.canon_ledger.specs.Ledger.{LedgerState}
use Rattle.canon_lowering.specs.Lowering.{Answer, Meets, Trap, addresses_of, events_of}
use Rattle.canon_lowering.specs.Storing.{narrow}
use Rattle.canon_plan.specs.NoHandle.{HaveNoHandle}
use Rattle.canon_resources.specs.Held.{Any}
use Rattle.canon_resources.specs.Parts.{LeavesLift}
use Rattle.canon_types.specs.Instance.{Instance}
use Rattle.canon_val.specs.Value.{HaveTrees}
use Rattle.canon_val.specs.declared.val.Val.{Val}
use Rattle.canon_value_parts.proofs.NoResources.{members_handles, no_member_resources}
use Rattle.canon_value_parts.specs.Fails.{AreSmall}
use Rattle.canon_value_parts.specs.Lifts.{AreResults}
use Rattle.canon_value_parts.specs.Resources.{all_resources}
use Rattle.canon_host.specs.HostSide.{Giving, HostSide}
use Rattle.canon_func.specs.Asks.{allowed}
use Rattle.canon_func.specs.Call.{Concludes, IsCallOf, IsStart, MetFirst, dynamic, dynamic_results, returned_leaves, words_within}
use Rattle.canon_func.specs.Runs.{AskTurn, Each, IsOneRun, Leg, MayStart, OnReturn, OnStart, StartsCall, asks_in, events_in, posts}
use Rattle.canon_func.specs.Stores.{Callee}
use Rattle.canon_recording.proofs.Staging.{answers_run, no_run}
use Rattle.canon_recording.specs.Stages.{RunsOn}
use Rattle.canon_replay.proofs.Agreeing.{none_there}
use Rattle.canon_replay.proofs.Behind.{IsNoAsk, runs_behind}

-- ---- of events

pub each_seam : (P : Event → Type 0) (xs : List Event) (e : Event) (ys : List Event) → Each P (xs ++ e ∷ ys) → P e × Each P ys
each_seam P [] e ys h = h
each_seam P (x ∷ xs) e ys h = each_seam P xs e ys h.1

pub no_ask_among : (events : List Event) → asks_in events ≡ 0 → Each IsNoAsk events
no_ask_among [] e = tt
no_ask_among (event.Ask i ws m ∷ events) e = absurd (omega (arith, e))
no_ask_among (event.Start f ws m ∷ events) e = (tt, no_ask_among events e)
no_ask_among (event.Resume ws m ∷ events) e = (tt, no_ask_among events e)
no_ask_among (event.Return ws m ∷ events) e = (tt, no_ask_among events e)
no_ask_among (event.Realloc o os al ns a ∷ events) e = (tt, no_ask_among events e)
no_ask_among (event.Post f ws ∷ events) e = (tt, no_ask_among events e)
no_ask_among (event.Dtor f rep ∷ events) e = (tt, no_ask_among events e)
no_ask_among (event.Trap told at ∷ events) e = (tt, no_ask_among events e)

pub no_turns : (turns : List AskTurn) (more : List Event) → Each IsNoAsk (events_in turns ++ more) → turns ≡ []
no_turns [] more h = refl
no_turns (t ∷ turns) more h = absurd h.0

-- ---- of handles

pub no_leaves : (i : Instance) (l : LedgerState) (leaves : List Leaf) (xs : List Any) (l2 : LedgerState) → xs ≡ [] → LeavesLift i l leaves xs l2 → leaves ≡ []
no_leaves i l [] xs l2 e h = refl
no_leaves i l (leaf ∷ leaves) xs l2 e (h, rest, mid, is, takes, more) = absurd (none_there _ rest (sym e ∙ is))

-- ---- a recorded run

-- Its events; the trees of its parameters, with their requests and their words; and its results, with their fuel.
pub record QuietRun (callee : Callee) (fuel : ℕ) (params results : List Val) (recorded : List Event) : Type 0 where
  pub answers : List Answer
  pub words : List ℕ
  pub memory : List ℕ
  pub returned : List ℕ
  pub after : List ℕ
  pub is : recorded ≡ events_of answers None ++ event.Start callee.func words memory ∷ event.Return returned after ∷ posts callee.post returned
  pub trees : Trees
  pub have : HaveTrees callee.params params trees
  pub small : AreSmall callee.encoding callee.params params
  pub met : (last : ℕ) → Meets last (params_requests false (host_asks callee.encoding) callee.params trees) answers None []
  pub homes : ParamsHome AnyPointer (host_texts callee.encoding) false words callee.params trees (addresses_of answers) []
  pub count : length words ≡ words_within max_params callee.params
  pub fit : AreWords words
  pub left : ℕ
  pub are : AreResults callee.encoding (narrow after) callee.results returned fuel left results
  pub leaves : returned_leaves callee returned after ≡ []

module _ {T : Type 0} (Lives : List Leg → List Event → Type 0) (Leaves : List ℕ → List ℕ → Type 0) (gives : Giving T) (callee : Callee) (fuel turns : ℕ) (params results : List Val) (before after : Moment) (host left : HostSide T)
    (recorded : List Event) (r : IsCallOf (dynamic callee params) (dynamic_results callee) Lives Leaves gives callee (allowed fuel turns) before after host left (Ok results) recorded)
    (no_handle : HaveNoHandle callee.results) (fit : Each (OnStart (λ words m. AreWords words)) recorded) (quiet : Each IsNoAsk recorded) where
  run_later : (r.trap ≡ None) × IsOneRun callee.func callee.post r.later
  run_later = answers_run callee.func callee.post r.answers r.trap r.later (subst (IsOneRun callee.func callee.post) r.in_parts r.one_run)

  module _ (s : StartsCall callee.func r.turns r.late r.late_trap r.tail r.later) where
    whole : recorded ≡ events_of r.answers None ++ (event.Start callee.func s.words s.memory ∷ (events_in r.turns ++ r.tail))
    whole = r.in_parts ∙ (ap (λ (t : Option Trap). events_of r.answers t ++ r.later) run_later.0 ∙ ap (λ (es : List Event). events_of r.answers None ++ es) s.is)

    runs : RunsOn callee.post (events_in r.turns ++ r.tail)
    runs = runs_behind callee.func callee.post s.words s.memory (events_in r.turns ++ r.tail) (subst (IsOneRun callee.func callee.post) s.is run_later.1)

    at_start : (P : Event → Type 0) → Each P recorded → P (event.Start callee.func s.words s.memory) × Each P (events_in r.turns ++ r.tail)
    at_start P h = each_seam P (events_of r.answers None) (event.Start callee.func s.words s.memory) (events_in r.turns ++ r.tail) (subst (Each P) whole h)

    quiet_behind : Each IsNoAsk (events_in r.turns ++ r.tail)
    quiet_behind = (at_start IsNoAsk quiet).1

    tail_alone : events_in r.turns ++ r.tail ≡ r.tail
    tail_alone = ap (λ (ts : List AskTurn). events_in ts ++ r.tail) (no_turns r.turns r.tail quiet_behind)

    behind_is : events_in r.turns ++ r.tail ≡ event.Return runs.returned runs.after ∷ posts callee.post runs.returned
    behind_is = runs.is ∙ ap (λ (ts : List AskTurn). events_in ts ++ event.Return runs.returned runs.after ∷ posts callee.post runs.returned)
        (no_turns runs.turns (event.Return runs.returned runs.after ∷ posts callee.post runs.returned) (subst (Each IsNoAsk) runs.is quiet_behind))

    start : IsStart (dynamic callee params) callee before r.answers r.given s.words s.memory
    start = (at_start (OnStart (IsStart (dynamic callee params) callee before r.answers r.given)) r.start).0

    represented : (rest : ℕ) × AreResults callee.encoding (narrow runs.after) callee.results runs.returned fuel rest results
    represented = (subst (Each (OnReturn (λ ws m. (rest : ℕ) × AreResults callee.encoding (narrow m) callee.results ws fuel rest results))) behind_is
        (at_start (OnReturn (λ ws m. (rest : ℕ) × AreResults callee.encoding (narrow m) callee.results ws fuel rest results)) r.only_results).1).0

    concludes : Concludes (dynamic_results callee) callee runs.returned runs.after results r.handles.2.0.ledger left.ledger
    concludes = (subst (Each (OnReturn (λ ws m. Concludes (dynamic_results callee) callee ws m results r.handles.2.0.ledger left.ledger))) (sym tail_alone ∙ behind_is) r.handles.2.2.0).0

    all_met : (last : ℕ) → Meets last (params_requests false (host_asks callee.encoding) callee.params start.trees) r.answers None []
    all_met last =
        let m : MetFirst (params_requests false (host_asks callee.encoding) callee.params start.trees) r.answers r.trap r.later = r.requested start.trees start.have in
        let ended : m.left ≡ [] = (subst (Each (OnStart (λ ws n. m.left ≡ []))) s.is m.all).0 in
        subst (λ (t : Option Trap). Meets last (params_requests false (host_asks callee.encoding) callee.params start.trees) r.answers t []) run_later.0
        (subst (λ l. Meets last (params_requests false (host_asks callee.encoding) callee.params start.trees) r.answers r.trap l) ended (m.met last))

    from_start : QuietRun callee fuel params results recorded
    from_start = record {
      answers = r.answers;
      words = s.words;
      memory = s.memory;
      returned = runs.returned;
      after = runs.after;
      is = whole ∙ ap (λ (es : List Event). events_of r.answers None ++ event.Start callee.func s.words s.memory ∷ es) behind_is;
      trees = start.trees;
      have = start.have;
      small = start.small;
      met = all_met;
      homes = start.homes;
      count = start.count;
      fit = (at_start (OnStart (λ words m. AreWords words)) fit).0;
      left = represented.0;
      are = represented.1;
      leaves = no_leaves callee.types concludes.lifts.ended (returned_leaves callee runs.returned runs.after) (all_resources results) concludes.lifted
          (no_member_resources true callee.results results represented.1.its_trees (members_handles callee.results no_handle) represented.1.have) concludes.lifts.lifts;
    }

  pub quiet_run : QuietRun callee fuel params results recorded
  quiet_run = by r.starts
    where
      by : MayStart callee.func r.turns r.late r.late_trap r.tail r.later → QuietRun callee fuel params results recorded
      by (inl (e, turns, late, late_trap, tail)) = absurd (no_run callee.func callee.post (subst (IsOneRun callee.func callee.post) e run_later.1))
      by (inr s) = from_start s
