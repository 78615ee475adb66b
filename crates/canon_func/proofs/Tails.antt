-- What comes after the turns of a call, and a call from it.
use Rattle.std.proofs.Common.{Err, List, None, Ok, Option, Result, [], ap, append_assoc, arith, inl, inr, length, refl, subst, sym, ℕ, ◌++◌, ◌+◌, ◌∙◌, ◌∷◌, ◌≡◌, ◌≤◌}
use Rattle.std.specs.Prelude.{IfErr, IfOk, IsOkUnless, OnOk, ◌≢◌}
use Rattle.canon_memory.specs.declared.event.Event.{Event}
use Rattle.canon_memory.specs.declared.event.Event.TheVariants as event
use Rattle.canon_memory.specs.Guest.{Moment, Seen}
use Rattle.canon_lowering.specs.Lowering.{AllLawful, Answer, Trap}
use Rattle.canon_context.specs.declared.fault.Fault.TheVariants as fault
use Rattle.canon_host.specs.HostSide.{Giving, HostSide}
use Rattle.canon_func.specs.Asks.{Limits}
use Rattle.canon_func.specs.Call.{AcceptsLater, Advances, CountsWithin, Left}
use Rattle.canon_func.specs.HostAsks.{IsUnrefused}
use Rattle.canon_func.specs.Passing.{ReturnedValues}
use Rattle.canon_func.specs.Runs.{AskTurn, AsksFrom, Each, EndsAsking, EndsIn, Grows, IsNoPost, IsNoResume, IsNoStart, IsPrefixOfRun, IsTrap, MayTrap, OnReturn, OnStart, Leg, answers_in, asks_in, events_in, last_len, posts, living}
use Rattle.canon_func.specs.Steps.{IsRest, RestCause, RestPasses, TurnsTaken, so_far}
use Rattle.canon_func.specs.Stores.{Callee}
use Rattle.canon_func.specs.declared.error.Error.{Error}
use Rattle.canon_func.specs.declared.error.Error.TheVariants as error
use Rattle.canon_func.proofs.Prefixes.{IsEarly, each_after, each_then, ends_after, post_then, prefix_none, return_then}
use Rattle.canon_func.proofs.Turns.{asks_then, asks_turns, counts_first, each_turn, events_more, len_then, same_le}

-- ---- the events after the turns

-- A prefix of what may come after the turns of a run, perhaps followed by a trap; `len` is the length of memory before it.
pub record TailPrefix (post : Option ℕ) (len : ℕ) (tail : List Event) : Type 0 where
  pub more : List AskTurn
  pub returned : List ℕ
  pub memory : List ℕ
  pub prefix : List Event
  pub rest : List Event
  pub trap : List Event
  pub begins : events_in more ++ event.Return returned memory ∷ posts post returned ≡ prefix ++ rest
  pub tail_is : tail ≡ prefix ++ trap
  pub may_trap : MayTrap (last_len len prefix) trap

-- What the events say that come after so many turns, the last of which let the guest go in a memory of so many bytes.
pub record IsTail {T R : Type 0} (its : ReturnedValues R) (gives : Giving T) (callee : Callee) (limits : Limits) (Leaves : List ℕ → List ℕ → Type 0) (before after : Moment) (count len : ℕ) (served left : HostSide T)
    (answer : Result R Error) (late_guest : Seen) (late : List Answer) (late_trap : Option Trap) (tail : List Event) : Type 0 where
  pub whole : OnOk answer ((returned memory : List ℕ) × (tail ≡ event.Return returned memory ∷ posts callee.post returned))
  pub prefix : TailPrefix callee.post len tail
  pub no_resume : Each IsNoResume tail
  pub no_start : Each IsNoStart tail
  pub asking : EndsAsking late late_trap tail
  pub grows : Grows len tail (length after.bytes)
  pub asks : answer ≢ Err error.TurnsExhausted → count + asks_in tail ≤ limits.turns
  pub only_results : IfOk answer (λ results. Each (OnReturn (λ ws m. (over : ℕ) × its.are ws m limits.fuel over results)) tail)
  pub posted : ¬ Each IsNoPost tail → Each (OnReturn (λ ws m. (over : ℕ) × (lifted : R) × its.are ws m limits.fuel over lifted)) tail
  pub leaves : OnOk answer (Each (OnReturn (λ ws m. Left Leaves callee.post m after.bytes)) tail)
  pub returned : answer ≢ Err (error.Fault fault.OutOfMemory) → Each IsNoPost tail → Each (OnReturn (λ ws m. after.bytes ≡ m)) tail
  pub handles : RestPasses its gives callee limits late_guest after late late_trap served left answer tail
  pub cause : IfErr answer (λ e. (xs : List Event) → asks_in xs ≡ count → RestCause its callee limits before after (xs ++ tail) tail e)
  pub valid : AllLawful late → IfErr answer IsUnrefused → ¬ EndsIn IsTrap tail → count + asks_in tail ≤ limits.turns
      → Each (OnReturn (λ ws m. its.represent ws m limits.fuel)) tail
      → AcceptsLater its gives callee limits.fuel served tail → IsOkUnless answer (error.Fault fault.OutOfMemory)

-- ---- a call from what came after the turns

ok_then : {T E : Type 0} (r : Result T E) (P Q : Type 0) → (P → Q) → OnOk r P → OnOk r Q
ok_then (Ok x) P Q f h = f h
ok_then (Err e) P Q f h = tt

if_ok_then : {T E : Type 0} (r : Result T E) (P Q : T → Type 0) → ((x : T) → P x → Q x) → IfOk r P → IfOk r Q
if_ok_then (Ok x) P Q f h = f x h
if_ok_then (Err e) P Q f h = tt

if_err_then : {T E : Type 0} (r : Result T E) (P Q : E → Type 0) → ((e : E) → P e → Q e) → IfErr r P → IfErr r Q
if_err_then (Ok x) P Q f h = tt
if_err_then (Err e) P Q f h = f e h

-- no event is a start
no_starts : (P : List ℕ → List ℕ → Type 0) (xs : List Event) → Each IsNoStart xs → Each (OnStart P) xs
no_starts P [] h = tt
no_starts P (event.Start f ws m ∷ xs) h = absurd h.0
no_starts P (e ∷ xs) h = (tt, no_starts P xs h.1)

sum_le : (a b c n k : ℕ) → a ≡ b + c → b ≡ n → n + c ≤ k → a ≤ k
sum_le a b c n k e f h = omega (arith, e, f, h)

le_sum : (a b c n k : ℕ) → a ≡ b + c → b ≡ n → a ≤ k → n + c ≤ k
le_sum a b c n k e f h = omega (arith, e, f, h)

module _ {T R : Type 0} (its : ReturnedValues R) (gives : Giving T) (callee : Callee) (limits : Limits) (Lives : List Leg → List Event → Type 0) (Leaves : List ℕ → List ℕ → Type 0) (words : List ℕ)
    (before after : Moment) (host served left : HostSide T) (turns : List AskTurn) (len : ℕ)
    (asked : TurnsTaken gives callee limits.fuel before host served turns len) where
  abbrev call_first : List Event
  call_first = event.Start callee.func words before.bytes ∷ events_in turns

  early : Each IsEarly call_first
  early = (tt, each_turn IsEarly (λ n ws m. tt) (λ o s a n p. tt) (λ ws m. tt) turns)

  count : asks_in call_first ≡ length turns
  count = asks_turns turns

  prefix_of : (n : ℕ) (tail : List Event) → TailPrefix callee.post len tail → IsPrefixOfRun callee.func callee.post n (call_first ++ tail)
  prefix_of n tail h =
      let whole : List Event = event.Return h.returned h.memory ∷ posts callee.post h.returned in
      record {
        run = event.Start callee.func words before.bytes ∷ events_in (turns ++ h.more) ++ whole;
        one_run = (words, before.bytes, h.returned, h.memory, record { reallocs = []; only_reallocs = tt; turns = turns ++ h.more; is = refl });
        prefix = call_first ++ h.prefix;
        rest = h.rest;
        trap = h.trap;
        begins = ap (λ es. event.Start callee.func words before.bytes ∷ es) (events_more turns h.more whole ∙ (ap (λ es. events_in turns ++ es) h.begins ∙ sym (append_assoc (events_in turns) h.prefix h.rest)));
        events_are = ap (λ es. call_first ++ es) h.tail_is ∙ sym (append_assoc call_first h.prefix h.trap);
        may_trap = subst (λ k. MayTrap k h.trap) (sym (len_then n call_first h.prefix ∙ ap (λ k. last_len k h.prefix) asked.last)) h.may_trap;
      }

  pub rest_of_tail : (answer : Result R Error) (late_guest : Seen) → CountsWithin before.guest late_guest after.guest → (answers late : List Answer) (trap : Option Trap) (tail : List Event) → answers ≡ answers_in turns ++ late
      → AsksFrom Lives (event.Start callee.func words before.bytes ∷ []) turns (living late_guest) tail
      → IsTail its gives callee limits Leaves before after (length turns) len served left answer late_guest late trap tail
      → IsRest its gives callee limits Lives Leaves words before after host left answer answers (so_far callee words before turns tail)
  rest_of_tail answer late_guest counts answers late trap tail all lived h = record {
    one_run = ok_then answer _ _ (λ (returned, memory, is). (words, before.bytes, returned, memory, record { reallocs = []; only_reallocs = tt; turns = turns; is = ap (λ es. call_first ++ es) is })) h.whole;
    prefix = λ n. prefix_of n tail h.prefix;
    turns = turns;
    late_guest = late_guest;
    late_counts = counts;
    late = late;
    late_trap = trap;
    tail = tail;
    answers_are = all;
    starts = inr (record { words = words; memory = before.bytes; is = refl; no_resume = h.no_resume; asking = h.asking });
    lived = (event.Start callee.func words before.bytes ∷ [], refl, lived);
    asks = λ none. sum_le (asks_in (call_first ++ tail)) (asks_in call_first) (asks_in tail) (length turns) limits.turns (asks_then call_first tail) count (h.asks none);
    grows = (same_le (length before.bytes), asked.grows tail (length after.bytes) h.grows);
    start = ((refl, refl), each_then _ (events_in turns) tail (each_turn _ (λ n ws m. tt) (λ o s a n p. tt) (λ ws m. tt) turns) (no_starts _ tail h.no_start));
    only_results = if_ok_then answer _ _ (λ results each. return_then _ call_first tail early each) h.only_results;
    posted = λ some. return_then _ call_first tail early (h.posted (λ none. some (post_then call_first tail early none)));
    leaves = ok_then answer _ _ (λ each. return_then _ call_first tail early each) h.leaves;
    started = λ other none. absurd none.0;
    returned = λ other none. return_then _ call_first tail early (h.returned other (each_after _ call_first tail none));
    handles = (served, asked.serves, h.handles);
    cause = if_err_then answer _ _ (λ e because. because call_first count) h.cause;
    valid = λ lawful unrefused calm few right accepts.
        h.valid lawful unrefused
        (λ trapped. calm (ends_after IsTrap call_first tail trapped))
        (le_sum (asks_in (call_first ++ tail)) (asks_in call_first) (asks_in tail) (length turns) limits.turns (asks_then call_first tail) count few) (each_after _ call_first tail right)
        (accepts served asked.serves);
  }

-- memory ran out for the start
pub rest_of_none : {T R : Type 0} (its : ReturnedValues R) (gives : Giving T) (callee : Callee) (limits : Limits) (Lives : List Leg → List Event → Type 0) (Leaves : List ℕ → List ℕ → Type 0)
    (words : List ℕ) (before after : Moment) (host : HostSide T)
    → Advances before after → Lives [] []
    → IsRest its gives callee limits Lives Leaves words before after host host (Err (error.Fault fault.OutOfMemory)) [] []
rest_of_none its gives callee limits Lives Leaves words before after host advances moves = record {
  one_run = tt;
  prefix = prefix_none callee.func callee.post;
  turns = [];
  late_guest = before.guest;
  late_counts = counts_first before after advances;
  late = [];
  late_trap = None;
  tail = [];
  answers_are = refl;
  starts = inl (refl, refl, refl, refl, refl);
  lived = ([], refl, moves);
  asks = λ none. omega arith;
  grows = advances.no_shorter;
  start = tt;
  only_results = tt;
  posted = λ some. absurd (some tt);
  leaves = tt;
  started = λ other none. absurd (other refl);
  returned = λ other none. tt;
  handles = (host, refl, inl (inl (refl, refl, inl tt, tt), refl));
  cause = tt;
  valid = λ lawful same calm few right accepted. refl;
}
