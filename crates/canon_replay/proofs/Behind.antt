-- What a run's events are behind its start: what may be told there agrees with what was recorded of a run that asked for no import.
use Rattle.std.proofs.Common.{List, None, Option, Some, [], ap, inl, inr, subst, sym, ℕ, ◌++◌, ◌∷◌, ◌∙◌, ◌≡◌, ◌⊎◌}
use Rattle.std.specs.Prelude.{⊤}
use Rattle.canon_memory.specs.declared.event.Event.{Event}
use Rattle.canon_memory.specs.declared.event.Event.TheVariants as event
use Rattle.canon_memory.specs.Journal.{answer_event, asked_trap}
use Rattle.canon_lowering.specs.Lowering.{Answer, Trap, events_of}
use Rattle.canon_func.specs.Runs.{AskTurn, Each, EndsAsking, IsNoRequest, IsOneRun, IsRealloc, MayTrap, events_in, posts}
use Rattle.canon_recording.specs.Stages.{RunsOn}
use Rattle.canon_recording.proofs.Staging.{answers_run}
use Rattle.canon_replay_guest.specs.Following.{IsOfRequest}
use Rattle.canon_replay_guest.specs.Passing.{IsAlike}
use Rattle.canon_replay.proofs.Agreeing.{Agrees, agrees_more, agrees_none, agrees_past, no_request_of_ask, no_request_of_return, no_request_of_trap, post_told, same_head, same_tail, some_there}

-- ---- kinds of events

abbrev pub IsNoTrap : Event → Type 0
IsNoTrap (event.Trap asked len) = ⊥
IsNoTrap _ = ⊤

abbrev pub IsNoAsk : Event → Type 0
IsNoAsk (event.Ask index words memory) = ⊥
IsNoAsk _ = ⊤

pub posts_trap_nothing : (post : Option ℕ) (returned : List ℕ) → Each IsNoTrap (posts post returned)
posts_trap_nothing None returned = tt
posts_trap_nothing (Some f) returned = (tt, tt)

-- a trap and an ask are alike none of the other events
pub trap_alone : (told : Option (ℕ × ℕ × ℕ × ℕ)) (len : ℕ) (r : Event) → IsAlike (event.Trap told len) r → ¬ IsNoTrap r
trap_alone told len (event.Start f ws m) h calm = cc
trap_alone told len (event.Ask i ws m) h calm = cc
trap_alone told len (event.Resume ws m) h calm = cc
trap_alone told len (event.Return ws m) h calm = cc
trap_alone told len (event.Realloc o os al ns a) h calm = cc
trap_alone told len (event.Post f ws) h calm = cc
trap_alone told len (event.Dtor f rep) h calm = cc
trap_alone told len (event.Trap asked at) h calm = calm

pub ask_alike : (index : ℕ) (ws m : List ℕ) (r : Event) → IsAlike (event.Ask index ws m) r → ¬ IsNoAsk r
ask_alike index ws m (event.Start f vs n) h calm = cc
ask_alike index ws m (event.Ask i vs n) h calm = calm
ask_alike index ws m (event.Resume vs n) h calm = cc
ask_alike index ws m (event.Return vs n) h calm = cc
ask_alike index ws m (event.Realloc o os al ns a) h calm = cc
ask_alike index ws m (event.Post f vs) h calm = cc
ask_alike index ws m (event.Dtor f rep) h calm = cc
ask_alike index ws m (event.Trap told at) h calm = cc

ask_alone : (index : ℕ) (ws m vs n : List ℕ) → ¬ IsAlike (event.Ask index ws m) (event.Return vs n)
ask_alone index ws m vs n h = cc

pub words_returned : (ws m vs n : List ℕ) → IsAlike (event.Return ws m) (event.Return vs n) → ws ≡ vs
words_returned ws m vs n h = cc

-- ---- behind a start

-- what is left of a run behind its start
pub runs_behind : (func : ℕ) (post : Option ℕ) (words memory : List ℕ) (events : List Event) → IsOneRun func post (event.Start func words memory ∷ events) → RunsOn post events
runs_behind func post words memory events (ws, m, returned, after, run) = by run.reallocs run.only_reallocs run.is
  where
    by : (reallocs : List Event) → Each IsRealloc reallocs → event.Start func words memory ∷ events ≡ reallocs ++ event.Start func ws m ∷ events_in run.turns ++ event.Return returned after ∷ posts post returned → RunsOn post events
    by [] only is = record {
      turns = run.turns;
      returned = returned;
      after = after;
      is = same_tail (event.Start func words memory) (event.Start func ws m) events (events_in run.turns ++ event.Return returned after ∷ posts post returned) is;
    }
    by (x ∷ xs) (one, only) is =
        let first : x ≡ event.Start func words memory = sym (same_head (event.Start func words memory) x events (xs ++ event.Start func ws m ∷ events_in run.turns ++ event.Return returned after ∷ posts post returned) is) in
        absurd (subst IsRealloc first one)

-- the first event of what is left is an ask or a return, behind which comes post-return alone
runs_first : (post : Option ℕ) (e : Event) (events : List Event) → RunsOn post (e ∷ events)
    → ((index : ℕ) × (ws m : List ℕ) × (e ≡ event.Ask index ws m)) ⊎ ((ws m : List ℕ) × (e ≡ event.Return ws m) × (events ≡ posts post ws))
runs_first post e events r = by r.turns r.is
  where
    by : (turns : List AskTurn) → e ∷ events ≡ events_in turns ++ event.Return r.returned r.after ∷ posts post r.returned
        → ((index : ℕ) × (ws m : List ℕ) × (e ≡ event.Ask index ws m)) ⊎ ((ws m : List ℕ) × (e ≡ event.Return ws m) × (events ≡ posts post ws))
    by [] is = inr (
      r.returned,
      r.after,
      same_head e (event.Return r.returned r.after) events (posts post r.returned) is,
      same_tail e (event.Return r.returned r.after) events (posts post r.returned) is,
    )
    by (t ∷ turns) is = inl (
      t.index,
      t.words,
      t.memory,
      same_head e (event.Ask t.index t.words t.memory) events ((events_of t.answers None ++ event.Resume t.resumed_words t.resumed_memory ∷ events_in turns) ++ event.Return r.returned r.after ∷ posts post r.returned) is,
    )

pub first_no_ask : (post : Option ℕ) (e : Event) (events : List Event) → ((index : ℕ) (ws m : List ℕ) → ¬ (e ≡ event.Ask index ws m)) → ((ws m : List ℕ) → ¬ (e ≡ event.Return ws m)) → ¬ RunsOn post (e ∷ events)
first_no_ask post e events no_ask no_return r = by (runs_first post e events r)
  where
    by : ¬ (((index : ℕ) × (ws m : List ℕ) × (e ≡ event.Ask index ws m)) ⊎ ((ws m : List ℕ) × (e ≡ event.Return ws m) × (events ≡ posts post ws)))
    by (inl (index, ws, m, is)) = no_ask index ws m is
    by (inr (ws, m, is, rest)) = no_return ws m is

return_first : (post : Option ℕ) (ws m : List ℕ) (events : List Event) → RunsOn post (event.Return ws m ∷ events) → events ≡ posts post ws
return_first post ws m events r = by (runs_first post (event.Return ws m) events r)
  where
    not_ask : (index : ℕ) (vs n : List ℕ) → ¬ (event.Return ws m ≡ event.Ask index vs n)
    not_ask index vs n e = cc

    its_words : (vs n : List ℕ) → event.Return ws m ≡ event.Return vs n → vs ≡ ws
    its_words vs n e = cc

    by : ((index : ℕ) × (vs n : List ℕ) × (event.Return ws m ≡ event.Ask index vs n)) ⊎ ((vs n : List ℕ) × (event.Return ws m ≡ event.Return vs n) × (events ≡ posts post vs)) → events ≡ posts post ws
    by (inl (index, vs, n, is)) = absurd (not_ask index vs n is)
    by (inr (vs, n, is, rest)) = rest ∙ ap (posts post) (its_words vs n is)

-- The events behind the start of a prefix of a run: a front of what a run may do then, and perhaps a trap.
pub record RunsBehind (post : Option ℕ) (later : List Event) : Type 0 where
  pub front : List Event
  pub trap : List Event
  pub rest : List Event
  pub len : ℕ
  pub is : later ≡ front ++ trap
  pub runs : RunsOn post (front ++ rest)
  pub may : MayTrap len trap

none_trapped : {t : Trap} → ¬ (Some t ≡ None)
none_trapped e = cc

module _ (func : ℕ) (post : Option ℕ) (words memory : List ℕ) (later trap rest : List Event) (len : ℕ) where
  pub behind_start : (answers : List Answer) (asked : Option Trap) (prefix : List Event) → events_of answers asked ++ event.Start func words memory ∷ later ≡ prefix ++ trap → MayTrap len trap → IsOneRun func post (prefix ++ rest) → RunsBehind post later
  behind_start [] None [] is may run = absurd (subst (MayTrap len) (sym is) may)
  behind_start [] None (e ∷ front) is may run =
      let first : e ≡ event.Start func words memory = sym (same_head (event.Start func words memory) e later (front ++ trap) is) in
      record {
        front = front;
        trap = trap;
        rest = rest;
        len = len;
        is = same_tail (event.Start func words memory) e later (front ++ trap) is;
        runs = runs_behind func post words memory (front ++ rest) (subst (λ (x : Event). IsOneRun func post (x ∷ front ++ rest)) first run);
        may = may;
      }
  behind_start [] (Some t) [] is may run = absurd (subst (MayTrap len) (sym is) may)
  behind_start [] (Some t) (e ∷ front) is may run =
      let first : e ≡ asked_trap t.call t.len = sym (same_head (asked_trap t.call t.len) e (event.Start func words memory ∷ later) (front ++ trap) is) in
      absurd (none_trapped (answers_run func post [] (Some t) (front ++ rest) (subst (λ (x : Event). IsOneRun func post (x ∷ front ++ rest)) first run)).0)
  behind_start (x ∷ xs) asked [] is may run = absurd (subst (MayTrap len) (sym is) may)
  behind_start (x ∷ xs) asked (e ∷ front) is may run =
      let later2 : List Event = events_of xs asked ++ event.Start func words memory ∷ later in
      let first : e ≡ answer_event x.call x.at = sym (same_head (answer_event x.call x.at) e later2 (front ++ trap) is) in
      behind_start xs asked front (same_tail (answer_event x.call x.at) e later2 (front ++ trap) is) may
      (answers_run func post (x ∷ []) None (front ++ rest) (subst (λ (y : Event). IsOneRun func post (y ∷ front ++ rest)) first run)).1

-- ---- what agrees there

-- a trap behind which nothing comes, or none
pub trap_agrees : (len : ℕ) (trap recorded : List Event) → MayTrap len trap → Each IsNoRequest trap → Each IsNoTrap recorded → Agrees trap recorded
trap_agrees len [] recorded may calm whole = agrees_none recorded
trap_agrees len (event.Trap None at ∷ []) [] may calm whole = agrees_past (event.Trap None at) [] (no_request_of_trap at)
trap_agrees len (event.Trap None at ∷ []) (r ∷ rs) may calm whole =
    agrees_more (event.Trap None at) r [] rs (λ q of words. absurd (no_request_of_trap at q of)) (λ alike. absurd (trap_alone None at r alike whole.0))
trap_agrees len (event.Trap (Some asked) at ∷ []) recorded may calm whole = absurd calm.0
trap_agrees len (event.Trap None at ∷ x ∷ xs) recorded may calm whole = absurd may
trap_agrees len (event.Trap (Some asked) at ∷ x ∷ xs) recorded may calm whole = absurd may
trap_agrees len (event.Start f ws m ∷ xs) recorded may calm whole = absurd may
trap_agrees len (event.Ask i ws m ∷ xs) recorded may calm whole = absurd may
trap_agrees len (event.Resume ws m ∷ xs) recorded may calm whole = absurd may
trap_agrees len (event.Return ws m ∷ xs) recorded may calm whole = absurd may
trap_agrees len (event.Realloc o os al ns a ∷ xs) recorded may calm whole = absurd may
trap_agrees len (event.Post f ws ∷ xs) recorded may calm whole = absurd may
trap_agrees len (event.Dtor f rep ∷ xs) recorded may calm whole = absurd may

-- such a trap isn't one of a request, where no ask began
pub trap_unasked : (late : List Answer) (asked : Option Trap) (len : ℕ) (trap : List Event) → MayTrap len trap → EndsAsking late asked trap → Each IsNoRequest trap
trap_unasked late asked len [] may ends = tt
trap_unasked late asked len (event.Trap told at ∷ []) may ends = ends.0
trap_unasked late asked len (event.Trap told at ∷ x ∷ xs) may ends = absurd may
trap_unasked late asked len (event.Start f ws m ∷ xs) may ends = absurd may
trap_unasked late asked len (event.Ask i ws m ∷ xs) may ends = absurd may
trap_unasked late asked len (event.Resume ws m ∷ xs) may ends = absurd may
trap_unasked late asked len (event.Return ws m ∷ xs) may ends = absurd may
trap_unasked late asked len (event.Realloc o os al ns a ∷ xs) may ends = absurd may
trap_unasked late asked len (event.Post f ws ∷ xs) may ends = absurd may
trap_unasked late asked len (event.Dtor f rep ∷ xs) may ends = absurd may

-- behind a return: post-return, where there is one
after_return : (post : Option ℕ) (returned : List ℕ) (front rest trap : List Event) (len : ℕ) → front ++ rest ≡ posts post returned → MayTrap len trap → Each IsNoRequest (front ++ trap) → Agrees (front ++ trap) (posts post returned)
after_return None returned [] rest trap len is may calm = trap_agrees len trap [] may calm tt
after_return None returned (e ∷ front) rest trap len is may calm = absurd (some_there e (front ++ rest) is)
after_return (Some f) returned [] rest trap len is may calm = trap_agrees len trap (event.Post f returned ∷ []) may calm (tt, tt)
after_return (Some f) returned (e ∷ []) rest trap len is may calm =
    let here : e ≡ event.Post f returned = same_head e (event.Post f returned) rest [] is in
    agrees_more e (event.Post f returned) trap [] (λ q of words. post_told f returned q (subst (λ (x : Event). IsOfRequest x q) here of)) (λ alike. trap_agrees len trap [] may calm.1 tt)
after_return (Some f) returned (e ∷ x ∷ front) rest trap len is may calm = absurd (some_there x (front ++ rest) (same_tail e (event.Post f returned) (x ∷ front ++ rest) [] is))

module _ (post : Option ℕ) (returned after : List ℕ) where
  abbrev pub recorded_end : List Event
  recorded_end = event.Return returned after ∷ posts post returned

  pub front_agrees : (front rest trap : List Event) (len : ℕ) (late : List Answer) (asked : Option Trap) → RunsOn post (front ++ rest) → MayTrap len trap → EndsAsking late asked (front ++ trap) → Agrees (front ++ trap) recorded_end
  front_agrees [] rest trap len late asked runs may ends = trap_agrees len trap recorded_end may (trap_unasked late asked len trap may ends) (tt, posts_trap_nothing post returned)
  front_agrees (event.Return ws m ∷ front) rest trap len late asked runs may ends =
      let follows : front ++ rest ≡ posts post ws = return_first post ws m (front ++ rest) runs in
      agrees_more (event.Return ws m) (event.Return returned after) (front ++ trap) (posts post returned) (λ q of words. absurd (no_request_of_return ws m q of))
      (λ alike. subst (λ (vs : List ℕ). Agrees (front ++ trap) (posts post vs)) (words_returned ws m returned after alike) (after_return post ws front rest trap len follows may ends.0.1))
  front_agrees (event.Ask i ws m ∷ front) rest trap len late asked runs may ends =
      agrees_more (event.Ask i ws m) (event.Return returned after) (front ++ trap) (posts post returned) (λ q of words. absurd (no_request_of_ask i ws m q of)) (λ alike. absurd (ask_alone i ws m returned after alike))
  front_agrees (event.Start f ws m ∷ front) rest trap len late asked runs may ends = absurd (first_no_ask post (event.Start f ws m) (front ++ rest) (λ i vs n e. cc) (λ vs n e. cc) runs)
  front_agrees (event.Resume ws m ∷ front) rest trap len late asked runs may ends = absurd (first_no_ask post (event.Resume ws m) (front ++ rest) (λ i vs n e. cc) (λ vs n e. cc) runs)
  front_agrees (event.Realloc o os al ns a ∷ front) rest trap len late asked runs may ends = absurd (first_no_ask post (event.Realloc o os al ns a) (front ++ rest) (λ i vs n e. cc) (λ vs n e. cc) runs)
  front_agrees (event.Post f ws ∷ front) rest trap len late asked runs may ends = absurd (first_no_ask post (event.Post f ws) (front ++ rest) (λ i vs n e. cc) (λ vs n e. cc) runs)
  front_agrees (event.Dtor f rep ∷ front) rest trap len late asked runs may ends = absurd (first_no_ask post (event.Dtor f rep) (front ++ rest) (λ i vs n e. cc) (λ vs n e. cc) runs)
  front_agrees (event.Trap told at ∷ front) rest trap len late asked runs may ends = absurd (first_no_ask post (event.Trap told at) (front ++ rest) (λ i vs n e. cc) (λ vs n e. cc) runs)
