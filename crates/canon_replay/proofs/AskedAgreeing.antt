-- Asks of a call that is made again beside the recorded ones: as long as both are alike, each is resumed with the recorded words.
use Rattle.std.proofs.Common.{Bool, List, None, Option, Some, [], ap, arith, drop, length, length-append, map, subst, suc, sym, take, zero, ℕ, ◌+◌, ◌++◌, ◌∙◌, ◌∷◌, ◌≡◌}
use Rattle.std.proofs.lemmas.Bool.{eq-eqb}
use Rattle.std.specs.Prelude.{if◌then◌else◌, slice_get}
use Rattle.canon_model.specs.Flat.{AreWords}
use Rattle.canon_memory.specs.declared.event.Event.{Event}
use Rattle.canon_memory.specs.declared.event.Event.TheVariants as event
use Rattle.canon_memory.specs.Journal.{answer_event, asked_trap}
use Rattle.canon_lowering.specs.Lowering.{Answer, Trap, events_of}
use Rattle.canon_literals.specs.Literals.{literals_view}
use Rattle.canon_host.specs.HostSide.{Answering, LoggedEntry}
use Rattle.canon_val.specs.declared.val.Val.{Val}
use Rattle.canon_func.specs.Runs.{AskTurn, Each, EndsAsking, OnAsk, posts as post_events}
use Rattle.canon_func.specs.Stores.{Callee}
use Rattle.canon_recording.specs.Recordings.{ServedAsk}
use Rattle.canon_recording.specs.Stages.{RunsOn}
use Rattle.canon_replay_guest.specs.Following.{IsOfRequest}
use Rattle.canon_replay_guest.specs.Moves.{GuestRequest, HasWords, TellsRequest, destroys, posts, reallocates, resumes, starts}
use Rattle.canon_replay_guest.specs.Passing.{AreAlike, IsAlike}
use Rattle.canon_replay.specs.Faithful.{AreRecordedAs, OnResume, asked_view, logged_view}
use Rattle.canon_replay.specs.Imports.{GivesNext, answer_of_ask}
use Rattle.canon_replay.proofs.Agreeing.{Agrees, agrees_more, agrees_none, no_request_of_ask, no_request_of_return, none_there, same_head, same_tail}
use Rattle.canon_replay.proofs.Answered.{AnsweredTurns, HasPlainImports, IsAnswered, answer_words_same}
use Rattle.canon_replay.proofs.AskedRuns.{asked_events}
use Rattle.canon_replay.proofs.Behind.{IsNoTrap, RunsBehind, ask_alike, first_no_ask, posts_trap_nothing, recorded_end, trap_agrees, trap_unasked}
use Rattle.canon_replay.proofs.Following.{answer_no_start, no_return_asks, start_no_answer}
use Rattle.canon_replay.proofs.Requesting.{trap_no_answer}
use Rattle.canon_replay.proofs.Rows.{drop_rest, get_first}

-- ---- alike asks

index_same : (i j : ℕ) (ws vs m n : List ℕ) → IsAlike (event.Ask i ws m) (event.Ask j vs n) → i ≡ j
index_same i j ws vs m n h = cc

asked_same : (i j : ℕ) (ws vs m n : List ℕ) → IsAlike (event.Ask i ws m) (event.Ask j vs n) → ws ≡ vs
asked_same i j ws vs m n h = cc

memory_same : (i j : ℕ) (ws vs m n : List ℕ) → IsAlike (event.Ask i ws m) (event.Ask j vs n) → m ≡ n
memory_same i j ws vs m n h = cc

-- ---- requests

pub start_told : (f : ℕ) (ws m vs n : List ℕ) (q : GuestRequest) → (AreWords ws → vs ≡ ws) → IsOfRequest (event.Start f ws m) q → HasWords q → TellsRequest (event.Start f vs n) q
start_told f ws m vs n (starts g us) same (e, d) words = (e, same (subst AreWords (sym d) words) ∙ d)
start_told f ws m vs n (resumes us) same h words = h
start_told f ws m vs n (reallocates c) same h words = h
start_told f ws m vs n (posts g us) same h words = h
start_told f ws m vs n (destroys g r) same h words = h

resume_told : (ws m vs n : List ℕ) (q : GuestRequest) → (AreWords ws → vs ≡ ws) → IsOfRequest (event.Resume ws m) q → HasWords q → TellsRequest (event.Resume vs n) q
resume_told ws m vs n (starts g us) same h words = h
resume_told ws m vs n (resumes us) same h words = same (subst AreWords (sym h) words) ∙ h
resume_told ws m vs n (reallocates c) same h words = h
resume_told ws m vs n (posts g us) same h words = h
resume_told ws m vs n (destroys g r) same h words = h

-- ---- what is given

-- the ask at a place of the recorded ones answers what it gave
pub answer_given_at : (asks : List ServedAsk) (k n : ℕ) (a : ServedAsk) → slice_get asks k ≡ Some a → a.import ≡ n → answer_of_ask n (slice_get asks k) ≡ Some (literals_view a.results)
answer_given_at asks k n a e is = ap (answer_of_ask n) e ∙ ap (λ (b : Bool). if b then Some (literals_view a.results) else None) (eq-eqb a.import n is)

pub inside : {A : Type 0} (x y : A) → Some x ≡ Some y → x ≡ y
inside x y e = cc

one_later : (entries : List LoggedEntry) (e : LoggedEntry) → length (entries ++ e ∷ []) ≡ length entries + 1
one_later entries e = length-append entries (e ∷ [])

pub drop_later : (asks more : List ServedAsk) (entries : List LoggedEntry) (e : LoggedEntry) (a : ServedAsk) → drop (length entries) asks ≡ a ∷ more → drop (length (entries ++ e ∷ [])) asks ≡ more
drop_later asks more entries e a h = ap (λ (n : ℕ). drop n asks) (one_later entries e) ∙ drop_rest asks (length entries) a more h

-- ---- what is recorded of the log

-- of the first entry and the first ask
pub entry_recorded : (y : LoggedEntry) (ls : List LoggedEntry) (a : ServedAsk) (bs : List ServedAsk) → AreRecordedAs (y ∷ ls) (a ∷ bs)
    → (y.index ≡ a.import) × (literals_view y.results ≡ literals_view a.results)
entry_recorded y ls a bs e = let first : logged_view y ≡ asked_view a = cc in (ap (λ x. x.0) first, ap (λ x. x.2) first)

pub others_recorded : (y : LoggedEntry) (ls : List LoggedEntry) (a : ServedAsk) (bs : List ServedAsk) → AreRecordedAs (y ∷ ls) (a ∷ bs) → AreRecordedAs ls bs
others_recorded y ls a bs e = let more : map logged_view ls ≡ map asked_view bs = cc in more

none_recorded : (y : LoggedEntry) (ls : List LoggedEntry) → ¬ AreRecordedAs (y ∷ ls) []
none_recorded y ls e = cc

-- ---- the events of asks agree

module _ (post : Option ℕ) (returned after : List ℕ) where
  calm_rest : (us : List AskTurn) → Each IsNoTrap (asked_events us ++ recorded_end post returned after)
  calm_rest [] = (tt, posts_trap_nothing post returned)
  calm_rest (u ∷ us) = (tt, (tt, calm_rest us))

  -- a resume and what comes behind it; and an ask before them
  abbrev resumed_then : List AskTurn → List ℕ → List ℕ → List Event
  resumed_then us ws m = event.Resume ws m ∷ asked_events us ++ recorded_end post returned after

  abbrev asked_then : ℕ → List ℕ → List ℕ → List AskTurn → List ℕ → List ℕ → List Event
  asked_then j vs n us ws m = event.Ask j vs n ∷ resumed_then us ws m

  -- what comes behind asks that were resumed, where one more is recorded
  pub tail_on_ask : (tail : List Event) (late : List Answer) (asked : Option Trap) → RunsBehind post tail → EndsAsking late asked tail → OnAsk (λ i ws m more. more ≡ []) tail → (j : ℕ) (vs n : List ℕ) (us : List AskTurn) (ws m : List ℕ)
      → Agrees tail (event.Ask j vs n ∷ event.Resume ws m ∷ asked_events us ++ recorded_end post returned after)
  tail_on_ask tail late asked b ends alone j vs n us ws m = subst (λ (es : List Event). Agrees es (asked_then j vs n us ws m)) (sym b.is) (by b.front (subst (EndsAsking late asked) b.is ends) (subst (OnAsk (λ i vs2 n2 more. more ≡ [])) b.is alone) b.runs)
    where
      by : (front : List Event) → EndsAsking late asked (front ++ b.trap) → OnAsk (λ i vs2 n2 more. more ≡ []) (front ++ b.trap) → RunsOn post (front ++ b.rest) → Agrees (front ++ b.trap) (asked_then j vs n us ws m)
      by [] ends_so alone_so runs = trap_agrees b.len b.trap (asked_then j vs n us ws m) b.may (trap_unasked late asked b.len b.trap b.may ends_so) (tt, (tt, calm_rest us))
      by (event.Ask i us2 m2 ∷ front) ends_so alone_so runs = agrees_more (event.Ask i us2 m2) (event.Ask j vs n) (front ++ b.trap) (resumed_then us ws m) (λ q of words. absurd (no_request_of_ask i us2 m2 q of))
          (λ alike. subst (λ (es : List Event). Agrees es (resumed_then us ws m)) (sym alone_so) (agrees_none (resumed_then us ws m)))
      by (event.Return us2 m2 ∷ front) ends_so alone_so runs = agrees_more (event.Return us2 m2) (event.Ask j vs n) (front ++ b.trap) (resumed_then us ws m) (λ q of words. absurd (no_request_of_return us2 m2 q of))
          (λ alike. absurd (no_return_asks us2 m2 j vs n alike))
      by (event.Start f us2 m2 ∷ front) ends_so alone_so runs = absurd (first_no_ask post (event.Start f us2 m2) (front ++ b.rest) (λ i vs2 n2 e. cc) (λ vs2 n2 e. cc) runs)
      by (event.Resume us2 m2 ∷ front) ends_so alone_so runs = absurd (first_no_ask post (event.Resume us2 m2) (front ++ b.rest) (λ i vs2 n2 e. cc) (λ vs2 n2 e. cc) runs)
      by (event.Realloc o os al ns a ∷ front) ends_so alone_so runs = absurd (first_no_ask post (event.Realloc o os al ns a) (front ++ b.rest) (λ i vs2 n2 e. cc) (λ vs2 n2 e. cc) runs)
      by (event.Post f us2 ∷ front) ends_so alone_so runs = absurd (first_no_ask post (event.Post f us2) (front ++ b.rest) (λ i vs2 n2 e. cc) (λ vs2 n2 e. cc) runs)
      by (event.Dtor f rep ∷ front) ends_so alone_so runs = absurd (first_no_ask post (event.Dtor f rep) (front ++ b.rest) (λ i vs2 n2 e. cc) (λ vs2 n2 e. cc) runs)
      by (event.Trap told at ∷ front) ends_so alone_so runs = absurd (first_no_ask post (event.Trap told at) (front ++ b.rest) (λ i vs2 n2 e. cc) (λ vs2 n2 e. cc) runs)

  -- Asks that were served by the recorded ones, and the recorded asks.
  module _ (T : Type 0) {U : Type 0} (answers_so : Answering U) (callee : Callee) (plain : HasPlainImports callee) (fuel spent : ℕ) (asks : List ServedAsk) (tail : List Event) (on_end : Agrees tail (recorded_end post returned after))
      (on_ask : (j : ℕ) (vs n : List ℕ) (us : List AskTurn) (ws m : List ℕ) → Agrees tail (event.Ask j vs n ∷ event.Resume ws m ∷ asked_events us ++ recorded_end post returned after)) where
    pub asks_agree : (ts us : List AskTurn) (entries es others ls : List LoggedEntry) (bs more : List ServedAsk) → AnsweredTurns (GivesNext {T = T} asks).answers callee fuel ts entries es
        → AnsweredTurns answers_so callee spent us others ls → AreRecordedAs ls bs → drop (length entries) asks ≡ bs ++ more
        → Each (OnResume (λ ws m. AreWords ws)) (asked_events us) → Agrees (asked_events ts ++ tail) (asked_events us ++ recorded_end post returned after)
    asks_agree [] [] entries es others ls bs more g l is e fit = on_end
    asks_agree [] (u ∷ us) entries es others ls bs more g l is e fit = on_ask u.index u.words u.memory us u.resumed_words u.resumed_memory
    asks_agree (t ∷ ts) [] entries es others ls bs more g l is e fit =
        agrees_more (event.Ask t.index t.words t.memory) (event.Return returned after) (event.Resume t.resumed_words t.resumed_memory ∷ asked_events ts ++ tail) (post_events post returned)
        (λ q of words. absurd (no_request_of_ask t.index t.words t.memory q of)) (λ alike. absurd (ask_alike t.index t.words t.memory (event.Return returned after) alike tt))
    asks_agree (t ∷ ts) (u ∷ us) entries [] others ls bs more g l is e fit = absurd g
    asks_agree (t ∷ ts) (u ∷ us) entries (x ∷ es) others [] bs more g l is e fit = absurd l
    asks_agree (t ∷ ts) (u ∷ us) entries (x ∷ es) others (y ∷ ls) [] more g l is e fit = absurd (none_recorded y ls is)
    asks_agree (t ∷ ts) (u ∷ us) entries (x ∷ es) others (y ∷ ls) (a ∷ bs) more g l is e fit =
        agrees_more (event.Ask t.index t.words t.memory) (event.Ask u.index u.words u.memory) (event.Resume t.resumed_words t.resumed_memory ∷ asked_events ts ++ tail)
        (event.Resume u.resumed_words u.resumed_memory ∷ asked_events us ++ recorded_end post returned after) (λ q of words. absurd (no_request_of_ask t.index t.words t.memory q of))
        (λ alike. agrees_more (event.Resume t.resumed_words t.resumed_memory) (event.Resume u.resumed_words u.resumed_memory) (asked_events ts ++ tail) (asked_events us ++ recorded_end post returned after)
        (λ q of words. resume_told t.resumed_words t.resumed_memory u.resumed_words u.resumed_memory q (one_word (index_same t.index u.index t.words u.words t.memory u.memory alike) (asked_same t.index u.index t.words u.words t.memory u.memory alike)) of words)
        (λ same. asks_agree ts us (entries ++ x ∷ []) es (others ++ y ∷ []) ls bs more g.3 l.3 (others_recorded y ls a bs is) (drop_later asks (bs ++ more) entries x a e) fit.1.1))
      where
        told : (y.index ≡ a.import) × (literals_view y.results ≡ literals_view a.results)
        told = entry_recorded y ls a bs is

        literals : t.index ≡ u.index → literals_view y.results ≡ literals_view x.results
        literals index =
            let (from, to, gave) = g.2 in
            let same : a.import ≡ x.index = sym told.0 ∙ (l.0 ∙ (sym index ∙ sym g.0)) in
            told.1 ∙ inside (literals_view a.results) (literals_view x.results) (sym (answer_given_at asks (length entries) x.index a (get_first asks (length entries) a (bs ++ more) e) same) ∙ gave.0)

        one_word : t.index ≡ u.index → t.words ≡ u.words → AreWords t.resumed_words → u.resumed_words ≡ t.resumed_words
        one_word index words less = answer_words_same callee plain spent fuel u t y.params x.params y.results x.results l.1 g.1 index words (literals index) fit.1.0 less

-- ---- behind alike events

trap_no_start : (x : Trap) (f : ℕ) (ws m : List ℕ) → ¬ IsAlike (asked_trap x.call x.len) (event.Start f ws m)
trap_no_start x f ws m h = cc

-- one event less
pub alike_rest : (p : ℕ) (e r : Event) (es rs : List Event) → AreAlike (e ∷ es) (take p (r ∷ rs)) → IsAlike e r × ((q : ℕ) × AreAlike es (take q rs))
alike_rest zero e r es rs (s, ss, is, one, more) = absurd (none_there s ss is)
alike_rest (suc p) e r es rs (s, ss, is, one, more) =
    (subst (IsAlike e) (sym (same_head r s (take p rs) ss is)) one, (p, subst (AreAlike es) (sym (same_tail r s (take p rs) ss is)) more))

-- behind a start
pub alike_behind_start : (f g : ℕ) (ws m vs n : List ℕ) (later recorded : List Event) (xs : List Answer) (asked : Option Trap) (ys : List Answer) (p : ℕ)
    → AreAlike (events_of xs asked ++ event.Start f ws m ∷ later) (take p (events_of ys None ++ event.Start g vs n ∷ recorded)) → (q : ℕ) × AreAlike later (take q recorded)
alike_behind_start f g ws m vs n later recorded [] None [] p h = (alike_rest p (event.Start f ws m) (event.Start g vs n) later recorded h).1
alike_behind_start f g ws m vs n later recorded [] None (y ∷ ys) p h = absurd (start_no_answer f ws m y (alike_rest p (event.Start f ws m) (answer_event y.call y.at) later (events_of ys None ++ event.Start g vs n ∷ recorded) h).0)
alike_behind_start f g ws m vs n later recorded [] (Some t) [] p h = absurd (trap_no_start t g vs n (alike_rest p (asked_trap t.call t.len) (event.Start g vs n) (event.Start f ws m ∷ later) recorded h).0)
alike_behind_start f g ws m vs n later recorded [] (Some t) (y ∷ ys) p h =
    absurd (trap_no_answer t.call y.call t.len y.at (alike_rest p (asked_trap t.call t.len) (answer_event y.call y.at) (event.Start f ws m ∷ later) (events_of ys None ++ event.Start g vs n ∷ recorded) h).0)
alike_behind_start f g ws m vs n later recorded (x ∷ xs) asked [] p h =
    absurd (answer_no_start x g vs n (alike_rest p (answer_event x.call x.at) (event.Start g vs n) (events_of xs asked ++ event.Start f ws m ∷ later) recorded h).0)
alike_behind_start f g ws m vs n later recorded (x ∷ xs) asked (y ∷ ys) p h =
    let (q, more) = (alike_rest p (answer_event x.call x.at) (answer_event y.call y.at) (events_of xs asked ++ event.Start f ws m ∷ later) (events_of ys None ++ event.Start g vs n ∷ recorded) h).1 in
    alike_behind_start f g ws m vs n later recorded xs asked ys q more

-- ---- the recorded ask beside one that isn't resumed

-- The recorded ask at this place, with the same words and memory, and what served it: with the recorded results, apart from how they are kept.
pub record IsRecordedAsk (callee : Callee) (spent : ℕ) (asks : List ServedAsk) (place index : ℕ) (words memory : List ℕ) : Type 0 where
  pub turn : AskTurn
  pub ask : ServedAsk
  pub params : List Val
  pub results : List Val
  pub answered : IsAnswered callee spent turn params results
  pub results_are : literals_view results ≡ literals_view ask.results
  pub there : slice_get asks place ≡ Some ask
  pub import_is : ask.import ≡ index
  pub index_is : turn.index ≡ index
  pub words_are : turn.words ≡ words
  pub memory_is : turn.memory ≡ memory

module _ {U : Type 0} (answers_so : Answering U) (callee : Callee) (spent : ℕ) (asks : List ServedAsk) (post : Option ℕ) (returned after : List ℕ) where
  pub ask_recorded : (ts us : List AskTurn) (tail : List Event) (k p : ℕ) (others ls : List LoggedEntry) (bs more : List ServedAsk) → AnsweredTurns answers_so callee spent us others ls → AreRecordedAs ls bs → drop k asks ≡ bs ++ more
      → AreAlike (asked_events ts ++ tail) (take p (asked_events us ++ recorded_end post returned after)) → OnAsk (λ i ws m rest. IsRecordedAsk callee spent asks (k + length ts) i ws m) tail
  ask_recorded (t ∷ ts) [] tail k p others ls bs more l is e h =
      absurd (ask_alike t.index t.words t.memory (event.Return returned after) (alike_rest p (event.Ask t.index t.words t.memory) (event.Return returned after) (event.Resume t.resumed_words t.resumed_memory ∷ asked_events ts ++ tail) (post_events post returned) h).0 tt)
  ask_recorded (t ∷ ts) (u ∷ us) tail k p others [] bs more l is e h = absurd l
  ask_recorded (t ∷ ts) (u ∷ us) tail k p others (y ∷ ls) [] more l is e h = absurd (none_recorded y ls is)
  ask_recorded (t ∷ ts) (u ∷ us) tail k p others (y ∷ ls) (a ∷ bs) more l is e h =
      let (first, (q, behind)) = alike_rest p (event.Ask t.index t.words t.memory) (event.Ask u.index u.words u.memory) (event.Resume t.resumed_words t.resumed_memory ∷ asked_events ts ++ tail)
      (event.Resume u.resumed_words u.resumed_memory ∷ asked_events us ++ recorded_end post returned after) h in
      let (second, (r, rest)) = alike_rest q (event.Resume t.resumed_words t.resumed_memory) (event.Resume u.resumed_words u.resumed_memory) (asked_events ts ++ tail) (asked_events us ++ recorded_end post returned after) behind in
      subst (λ (n : ℕ). OnAsk (λ i ws m others2. IsRecordedAsk callee spent asks n i ws m) tail) (moved k (length ts))
      (ask_recorded ts us tail (k + 1) r (others ++ y ∷ []) ls bs more l.3 (others_recorded y ls a bs is) (drop_rest asks k a (bs ++ more) e) rest)
    where
      moved : (m n : ℕ) → m + 1 + n ≡ m + suc n
      moved m n = omega arith
  ask_recorded [] us [] k p others ls bs more l is e h = tt
  ask_recorded [] us (event.Start f ws m ∷ tail) k p others ls bs more l is e h = tt
  ask_recorded [] us (event.Resume ws m ∷ tail) k p others ls bs more l is e h = tt
  ask_recorded [] us (event.Return ws m ∷ tail) k p others ls bs more l is e h = tt
  ask_recorded [] us (event.Realloc o os al ns a ∷ tail) k p others ls bs more l is e h = tt
  ask_recorded [] us (event.Post f ws ∷ tail) k p others ls bs more l is e h = tt
  ask_recorded [] us (event.Dtor f rep ∷ tail) k p others ls bs more l is e h = tt
  ask_recorded [] us (event.Trap told at ∷ tail) k p others ls bs more l is e h = tt
  ask_recorded [] [] (event.Ask i ws m ∷ tail) k p others ls bs more l is e h =
      absurd (ask_alike i ws m (event.Return returned after) (alike_rest p (event.Ask i ws m) (event.Return returned after) tail (post_events post returned) h).0 tt)
  ask_recorded [] (u ∷ us) (event.Ask i ws m ∷ tail) k p others [] bs more l is e h = absurd l
  ask_recorded [] (u ∷ us) (event.Ask i ws m ∷ tail) k p others (y ∷ ls) [] more l is e h = absurd (none_recorded y ls is)
  ask_recorded [] (u ∷ us) (event.Ask i ws m ∷ tail) k p others (y ∷ ls) (a ∷ bs) more l is e h =
      let (first, behind) = alike_rest p (event.Ask i ws m) (event.Ask u.index u.words u.memory) tail (event.Resume u.resumed_words u.resumed_memory ∷ asked_events us ++ recorded_end post returned after) h in
      record {
        turn = u;
        ask = a;
        params = y.params;
        results = y.results;
        answered = l.1;
        results_are = (entry_recorded y ls a bs is).1;
        there = ap (slice_get asks) (none_more k) ∙ get_first asks k a (bs ++ more) e;
        import_is = sym (entry_recorded y ls a bs is).0 ∙ (l.0 ∙ sym (index_same i u.index ws u.words m u.memory first));
        index_is = sym (index_same i u.index ws u.words m u.memory first);
        words_are = sym (asked_same i u.index ws u.words m u.memory first);
        memory_is = sym (memory_same i u.index ws u.words m u.memory first);
      }
    where
      none_more : (n : ℕ) → n + 0 ≡ n
      none_more n = omega arith
