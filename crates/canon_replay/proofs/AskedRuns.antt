-- What is known of a call that answered Ok and whose imports are functions of the host that want no blocks: its events, its asks, and what its parameters
-- and its results are.
use Rattle.std.proofs.Common.{List, None, Ok, Option, Some, [], ap, arith, false, inl, inr, length, refl, subst, true, ℕ, ◌++◌, ◌∙◌, ◌∷◌, ◌≡◌, ◌≤◌}
use Rattle.canon_model.specs.Flat.{max_params}
use Rattle.canon_model.specs.Homes.{AnyPointer, ParamsHome, host_texts}
use Rattle.canon_model.specs.Requests.{host_asks, params_requests}
use Rattle.canon_model.specs.Tree.{Trees}
use Rattle.canon_memory.specs.declared.event.Event.{Event}
use Rattle.canon_memory.specs.declared.event.Event.TheVariants as event
use Rattle.canon_memory.specs.Guest.{Moment}
use Rattle.canon_lowering.specs.Lowering.{Answer, Meets, Trap, addresses_of, events_of}
use Rattle.canon_lowering.specs.Storing.{narrow}
use Rattle.canon_literals.specs.Literals.{literals_view}
use Rattle.canon_plan.specs.NoHandle.{HaveNoHandle}
use Rattle.canon_val.specs.Value.{HaveTrees}
use Rattle.canon_val.specs.declared.val.Val.{Val}
use Rattle.canon_value_parts.proofs.NoResources.{members_handles, no_member_resources}
use Rattle.canon_value_parts.specs.Fails.{AreSmall}
use Rattle.canon_value_parts.specs.Lifts.{AreResults}
use Rattle.canon_value_parts.specs.Resources.{all_resources}
use Rattle.canon_host.specs.HostSide.{Answering, Giving, HostSide, LoggedEntry}
use Rattle.canon_func.specs.Asks.{allowed}
use Rattle.canon_func.specs.Call.{Concludes, IsCallOf, IsStart, MetFirst, dynamic, dynamic_results, returned_leaves, words_within}
use Rattle.canon_func.specs.Runs.{AskTurn, Each, IsNoResume, IsOneRun, Leg, MayStart, OnReturn, OnStart, StartsCall, asks_in, events_in, posts}
use Rattle.canon_func.specs.Stores.{Callee}
use Rattle.canon_recording.proofs.Staging.{answers_run, asks_leads, no_run, runs_leads}
use Rattle.canon_recording.specs.Stages.{RunsOn}
use Rattle.canon_replay.proofs.Answered.{AnsweredTurns, AnswersTurns, HasPlainImports, turns_answered}
use Rattle.canon_replay.proofs.Behind.{runs_behind}
use Rattle.canon_replay.proofs.Following.{each_behind}
use Rattle.canon_replay.proofs.Literals.{same_trees}
use Rattle.canon_replay.proofs.Runs.{QuietRun, each_seam, no_leaves}
use Rattle.canon_replay.proofs.Small.{small_same}

-- ---- asks that want no blocks

-- the events of asks between which no block was asked for
abbrev pub asked_events : List AskTurn → List Event
asked_events [] = []
asked_events (t ∷ ts) = event.Ask t.index t.words t.memory ∷ event.Resume t.resumed_words t.resumed_memory ∷ asked_events ts

pub asked_are : {T : Type 0} (answers_so : Answering T) (callee : Callee) (fuel : ℕ) (ts : List AskTurn) (entries es : List LoggedEntry) → AnsweredTurns answers_so callee fuel ts entries es → events_in ts ≡ asked_events ts
asked_are answers_so callee fuel [] entries es h = refl
asked_are answers_so callee fuel (t ∷ ts) entries [] h = absurd h
asked_are answers_so callee fuel (t ∷ ts) entries (e ∷ es) h =
    ap (λ (bs : List Answer). event.Ask t.index t.words t.memory ∷ events_of bs None ++ event.Resume t.resumed_words t.resumed_memory ∷ events_in ts) h.1.quiet
    ∙ ap (λ (more : List Event). event.Ask t.index t.words t.memory ∷ event.Resume t.resumed_words t.resumed_memory ∷ more) (asked_are answers_so callee fuel ts (entries ++ e ∷ []) es h.3)

-- what is left of a run behind them
pub runs_tail : (post : Option ℕ) (ts : List AskTurn) (tail : List Event) → RunsOn post (asked_events ts ++ tail) → RunsOn post tail
runs_tail post [] tail r = r
runs_tail post (t ∷ ts) tail r =
    let served = (runs_leads post 0 [] (event.Ask t.index t.words t.memory) (event.Resume t.resumed_words t.resumed_memory ∷ asked_events ts ++ tail)).0 r in
    runs_tail post ts tail ((asks_leads post 0 [] (event.Resume t.resumed_words t.resumed_memory) (asked_events ts ++ tail)).0 served)

no_resume_in : (answers : List Answer) (ws m : List ℕ) (xs rest : List Event) → ¬ Each IsNoResume ((events_of answers None ++ event.Resume ws m ∷ xs) ++ rest)
no_resume_in [] ws m xs rest h = h.0
no_resume_in (a ∷ answers) ws m xs rest h = no_resume_in answers ws m xs rest h.1

-- Without a resume it is a return, and a post-return where there is one.
pub record IsEnd (post : Option ℕ) (tail : List Event) : Type 0 where
  pub returned : List ℕ
  pub after : List ℕ
  pub is : tail ≡ event.Return returned after ∷ posts post returned

pub tail_ends : (post : Option ℕ) (tail : List Event) → RunsOn post tail → Each IsNoResume tail → IsEnd post tail
tail_ends post tail r none = by r.turns r.is
  where
    by : (turns : List AskTurn) → tail ≡ events_in turns ++ event.Return r.returned r.after ∷ posts post r.returned → IsEnd post tail
    by [] is = record { returned = r.returned; after = r.after; is = is }
    by (t ∷ turns) is = absurd (no_resume_in t.answers t.resumed_words t.resumed_memory (events_in turns) (event.Return r.returned r.after ∷ posts post r.returned) (subst (Each IsNoResume) is none).1)

-- ---- a call that answered Ok

-- Its events; the asks and what the log gained by them; the trees of its parameters, with their requests and their words; and its results, with their fuel.
pub record AskedRun {T : Type 0} (answers_so : Answering T) (callee : Callee) (fuel turns : ℕ) (params results : List Val) (entries : List LoggedEntry) (events : List Event) : Type 0 where
  pub answers : List Answer
  pub words : List ℕ
  pub memory : List ℕ
  pub asks : List AskTurn
  pub gained : List LoggedEntry
  pub asked : AnsweredTurns answers_so callee fuel asks entries gained
  pub few : asks_in events ≤ turns
  pub returned : List ℕ
  pub after : List ℕ
  pub is : events ≡ events_of answers None ++ (event.Start callee.func words memory ∷ (asked_events asks ++ event.Return returned after ∷ posts callee.post returned))
  pub trees : Trees
  pub have : HaveTrees callee.params params trees
  pub small : AreSmall callee.encoding callee.params params
  pub met : (last : ℕ) → Meets last (params_requests false (host_asks callee.encoding) callee.params trees) answers None []
  pub homes : ParamsHome AnyPointer (host_texts callee.encoding) false words callee.params trees (addresses_of answers) []
  pub count : length words ≡ words_within max_params callee.params
  pub left : ℕ
  pub are : AreResults callee.encoding (narrow after) callee.results returned fuel left results
  pub leaves : returned_leaves callee returned after ≡ []

-- of a run that asked for no import, whatever is logged
pub quiet_asked : {T : Type 0} (answers_so : Answering T) (callee : Callee) (fuel turns : ℕ) (params results : List Val) (entries : List LoggedEntry) (events : List Event) → asks_in events ≡ 0 → QuietRun callee fuel params results events
    → (run : AskedRun answers_so callee fuel turns params results entries events) × (run.gained ≡ [])
quiet_asked answers_so callee fuel turns params results entries events none q = (
  record {
    answers = q.answers;
    words = q.words;
    memory = q.memory;
    asks = [];
    gained = [];
    asked = tt;
    few = omega (arith, none);
    returned = q.returned;
    after = q.after;
    is = q.is;
    trees = q.trees;
    have = q.have;
    small = q.small;
    met = q.met;
    homes = q.homes;
    count = q.count;
    left = q.left;
    are = q.are;
    leaves = q.leaves;
  },
  refl,
)

-- of parameters and results with the same literals
pub kept_otherwise : {T : Type 0} (answers_so : Answering T) (callee : Callee) (fuel turns : ℕ) (params results others those : List Val) (entries : List LoggedEntry) (events : List Event)
    → HaveNoHandle callee.params × HaveNoHandle callee.results → literals_view params ≡ literals_view others → literals_view results ≡ literals_view those
    → (r : AskedRun answers_so callee fuel turns params results entries events)
    → (run : AskedRun answers_so callee fuel turns others those entries events) × (run.gained ≡ r.gained)
kept_otherwise answers_so callee fuel turns params results others those entries events plain given left r = (
  record {
    answers = r.answers;
    words = r.words;
    memory = r.memory;
    asks = r.asks;
    gained = r.gained;
    asked = r.asked;
    few = r.few;
    returned = r.returned;
    after = r.after;
    is = r.is;
    trees = r.trees;
    have = same_trees false callee.params params others r.trees (members_handles callee.params plain.0) given r.have;
    small = small_same callee.encoding callee.params params others given r.small;
    met = r.met;
    homes = r.homes;
    count = r.count;
    left = r.left;
    are = record {
      its_trees = r.are.its_trees;
      represented = r.are.represented;
      no_other = r.are.no_other;
      have = same_trees true callee.results results those r.are.its_trees (members_handles callee.results plain.1) left r.are.have;
      spent = r.are.spent;
    };
    leaves = r.leaves;
  },
  refl,
)

module _ {T : Type 0} (Lives : List Leg → List Event → Type 0) (Leaves : List ℕ → List ℕ → Type 0) (gives : Giving T) (callee : Callee) (fuel turns : ℕ) (params results : List Val) (before after : Moment) (host left : HostSide T)
    (events : List Event) (r : IsCallOf (dynamic callee params) (dynamic_results callee) Lives Leaves gives callee (allowed fuel turns) before after host left (Ok results) events)
    (no_handle : HaveNoHandle callee.results) (plain : HasPlainImports callee) (entries : List LoggedEntry) (told : host.log ≡ Some entries) where
  run_later : (r.trap ≡ None) × IsOneRun callee.func callee.post r.later
  run_later = answers_run callee.func callee.post r.answers r.trap r.later (subst (IsOneRun callee.func callee.post) r.in_parts r.one_run)

  abbrev served : HostSide T
  served = r.handles.2.0

  its_asks : AnswersTurns gives.answers callee fuel r.turns entries (record host { ledger = r.handles.0 }) served
  its_asks = turns_answered gives callee fuel plain r.turns (record host { ledger = r.handles.0 }) served entries told r.handles.2.1

  -- what the log gained
  log_is : left.log ≡ Some (entries ++ its_asks.gained)
  log_is = ap (λ (s : HostSide T). s.log) r.handles.2.2.1 ∙ its_asks.log

  asks_are : events_in r.turns ≡ asked_events r.turns
  asks_are = asked_are gives.answers callee fuel r.turns entries its_asks.gained its_asks.are

  module _ (s : StartsCall callee.func r.turns r.late r.late_trap r.tail r.later) where
    whole : events ≡ events_of r.answers None ++ (event.Start callee.func s.words s.memory ∷ (events_in r.turns ++ r.tail))
    whole = r.in_parts ∙ (ap (λ (t : Option Trap). events_of r.answers t ++ r.later) run_later.0 ∙ ap (λ (es : List Event). events_of r.answers None ++ es) s.is)

    at_start : (P : Event → Type 0) → Each P events → P (event.Start callee.func s.words s.memory) × Each P (events_in r.turns ++ r.tail)
    at_start P h = each_seam P (events_of r.answers None) (event.Start callee.func s.words s.memory) (events_in r.turns ++ r.tail) (subst (Each P) whole h)

    end : IsEnd callee.post r.tail
    end = tail_ends callee.post r.tail (runs_tail callee.post r.turns r.tail (subst (λ (es : List Event). RunsOn callee.post (es ++ r.tail)) asks_are
        (runs_behind callee.func callee.post s.words s.memory (events_in r.turns ++ r.tail) (subst (IsOneRun callee.func callee.post) s.is run_later.1)))) s.no_resume

    behind_is : events_in r.turns ++ r.tail ≡ asked_events r.turns ++ event.Return end.returned end.after ∷ posts callee.post end.returned
    behind_is = ap (λ (es : List Event). es ++ r.tail) asks_are ∙ ap (λ (es : List Event). asked_events r.turns ++ es) end.is

    start : IsStart (dynamic callee params) callee before r.answers r.given s.words s.memory
    start = (at_start (OnStart (IsStart (dynamic callee params) callee before r.answers r.given)) r.start).0

    represented : (rest : ℕ) × AreResults callee.encoding (narrow end.after) callee.results end.returned fuel rest results
    represented = (subst (Each (OnReturn (λ ws m. (rest : ℕ) × AreResults callee.encoding (narrow m) callee.results ws fuel rest results))) end.is
        (each_behind (OnReturn (λ ws m. (rest : ℕ) × AreResults callee.encoding (narrow m) callee.results ws fuel rest results)) (events_in r.turns) r.tail
        (at_start (OnReturn (λ ws m. (rest : ℕ) × AreResults callee.encoding (narrow m) callee.results ws fuel rest results)) r.only_results).1)).0

    concludes : Concludes (dynamic_results callee) callee end.returned end.after results served.ledger left.ledger
    concludes = (subst (Each (OnReturn (λ ws m. Concludes (dynamic_results callee) callee ws m results served.ledger left.ledger))) end.is r.handles.2.2.0).0

    all_met : (last : ℕ) → Meets last (params_requests false (host_asks callee.encoding) callee.params start.trees) r.answers None []
    all_met last =
        let m : MetFirst (params_requests false (host_asks callee.encoding) callee.params start.trees) r.answers r.trap r.later = r.requested start.trees start.have in
        let ended : m.left ≡ [] = (subst (Each (OnStart (λ ws n. m.left ≡ []))) s.is m.all).0 in
        subst (λ (t : Option Trap). Meets last (params_requests false (host_asks callee.encoding) callee.params start.trees) r.answers t []) run_later.0
        (subst (λ l. Meets last (params_requests false (host_asks callee.encoding) callee.params start.trees) r.answers r.trap l) ended (m.met last))

    from_start : (run : AskedRun gives.answers callee fuel turns params results entries events) × (left.log ≡ Some (entries ++ run.gained))
    from_start = (
      record {
        answers = r.answers;
        words = s.words;
        memory = s.memory;
        asks = r.turns;
        gained = its_asks.gained;
        asked = its_asks.are;
        few = r.asks (λ e. cc);
        returned = end.returned;
        after = end.after;
        is = whole ∙ ap (λ (es : List Event). events_of r.answers None ++ event.Start callee.func s.words s.memory ∷ es) behind_is;
        trees = start.trees;
        have = start.have;
        small = start.small;
        met = all_met;
        homes = start.homes;
        count = start.count;
        left = represented.0;
        are = represented.1;
        leaves = no_leaves callee.types concludes.lifts.ended (returned_leaves callee end.returned end.after) (all_resources results) concludes.lifted
            (no_member_resources true callee.results results represented.1.its_trees (members_handles callee.results no_handle) represented.1.have) concludes.lifts.lifts;
      },
      log_is,
    )

  pub asked_run : (run : AskedRun gives.answers callee fuel turns params results entries events) × (left.log ≡ Some (entries ++ run.gained))
  asked_run = by r.starts
    where
      by : MayStart callee.func r.turns r.late r.late_trap r.tail r.later → (run : AskedRun gives.answers callee fuel turns params results entries events) × (left.log ≡ Some (entries ++ run.gained))
      by (inl (e, turns, late, late_trap, tail)) = absurd (no_run callee.func callee.post (subst (IsOneRun callee.func callee.post) e run_later.1))
      by (inr s) = from_start s
