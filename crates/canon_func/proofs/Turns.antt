-- Asks that were served, one after another.
use Rattle.std.proofs.Common.{Err, List, None, Ok, Result, [], ap, append_assoc, arith, length, refl, subst, suc, sym, ℕ, ◌++◌, ◌+◌, ◌<◌, ◌∙◌, ◌∷◌, ◌≡◌, ◌≤◌}
use Rattle.std.proofs.lemmas.List.{append-nil}
use Rattle.canon_memory.specs.declared.event.Event.{Event}
use Rattle.canon_memory.specs.declared.event.Event.TheVariants as event
use Rattle.canon_memory.specs.declared.guest.Step.{Step}
use Rattle.canon_memory.specs.declared.guest.Step.TheVariants as step
use Rattle.canon_memory.specs.Guest.{Goes, Mark, Moment, Seen}
use Rattle.canon_memory.specs.Journal.{step_event, trap_event}
use Rattle.canon_ledger.specs.Ledger.{Done, LedgerState}
use Rattle.canon_ledger.specs.declared.fault.ResourceFault.{ResourceFault}
use Rattle.canon_lowering.proofs.Lowerings.{goes_then, lowering_marks_append}
use Rattle.canon_lowering.specs.Lowering.{Answer, events_of, marks_of}
use Rattle.canon_context.specs.declared.fault.Fault.TheVariants as fault
use Rattle.canon_host.specs.HostSide.{Giving, HostSide}
use Rattle.canon_func.specs.Asks.{AreServed, IsServed, Limits}
use Rattle.canon_func.specs.Call.{Advances, CountsWithin}
use Rattle.canon_func.specs.Runs.{AskTurn, Each, Grows, Leg, answers_in, asks_in, events_in, last_len, since_last, legs_in, living}
use Rattle.canon_func.specs.Steps.{RisesAt, RunsUntil, ServesAsk, Stepping, TurnsTaken, ask_turn, so_far}
use Rattle.canon_func.specs.Stores.{Callee}
use Rattle.canon_func.specs.declared.error.Error.{Error}
use Rattle.canon_func.specs.declared.error.Error.TheVariants as error
use Rattle.canon_func.proofs.Legs.{lives_more}
use Rattle.canon_func.proofs.Prefixes.{asks_answers, each_then, grows_answers, last_len_answers}

-- ---- answers

pub not_ok : {T E : Type 0} (x : T) (e : E) → ◌≡◌ {A = Result T E} (Ok x) (Err e) → ⊥
not_ok x e h = cc

pub err_same : {T E : Type 0} (e d : E) → ◌≡◌ {A = Result T E} (Err e) (Err d) → e ≡ d
err_same e d h = cc

pub answers_append : (ts us : List AskTurn) → answers_in (ts ++ us) ≡ answers_in ts ++ answers_in us
answers_append [] us = refl
answers_append (t ∷ ts) us = ap (λ xs. t.answers ++ xs) (answers_append ts us) ∙ sym (append_assoc t.answers (answers_in ts) (answers_in us))

-- ---- the events of turns

-- what follows an ask
abbrev pub rest_of_turn : AskTurn → List Event → List Event
rest_of_turn t events = events_of t.answers None ++ event.Resume t.resumed_words t.resumed_memory ∷ events

pub call_events_append : (ts us : List AskTurn) → events_in (ts ++ us) ≡ events_in ts ++ events_in us
call_events_append [] us = refl
call_events_append (t ∷ ts) us = ap (λ es. event.Ask t.index t.words t.memory ∷ es)
    (ap (λ es. rest_of_turn t es) (call_events_append ts us) ∙ sym (append_assoc (events_of t.answers None) (event.Resume t.resumed_words t.resumed_memory ∷ events_in ts) (events_in us)))

pub events_more : (ts us : List AskTurn) (tail : List Event) → events_in (ts ++ us) ++ tail ≡ events_in ts ++ (events_in us ++ tail)
events_more ts us tail = ap (λ es. es ++ tail) (call_events_append ts us) ∙ append_assoc (events_in ts) (events_in us) tail

-- a fact of each of them
each_real : (P : Event → Type 0) → ((o s a n p : ℕ) → P (event.Realloc o s a n p)) → (xs : List Answer) → Each P (events_of xs None)
each_real P r [] = tt
each_real P r (x ∷ xs) = (r x.call.old x.call.old_size x.call.align x.call.new_size x.at, each_real P r xs)

pub each_turn : (P : Event → Type 0) → ((n : ℕ) (ws m : List ℕ) → P (event.Ask n ws m)) → ((o s a n p : ℕ) → P (event.Realloc o s a n p)) → ((ws m : List ℕ) → P (event.Resume ws m))
    → (ts : List AskTurn) → Each P (events_in ts)
each_turn P f r g [] = tt
each_turn P f r g (t ∷ ts) =
    (f t.index t.words t.memory, each_then P (events_of t.answers None) (event.Resume t.resumed_words t.resumed_memory ∷ events_in ts) (each_real P r t.answers) (g t.resumed_words t.resumed_memory, each_turn P f r g ts))

-- ---- how many asks

asks_step : (n a b c : ℕ) → n ≡ b + c → 1 + n ≡ 1 + b + c
asks_step n a b c e = omega (arith, e)

pub asks_then : (xs ys : List Event) → asks_in (xs ++ ys) ≡ asks_in xs + asks_in ys
asks_then [] ys = omega arith
asks_then (event.Ask n ws m ∷ xs) ys = asks_step (asks_in (xs ++ ys)) 0 (asks_in xs) (asks_in ys) (asks_then xs ys)
asks_then (e ∷ xs) ys = asks_then xs ys

pub asks_turns : (ts : List AskTurn) → asks_in (events_in ts) ≡ length ts
asks_turns [] = refl
asks_turns (t ∷ ts) =
    let e : asks_in (rest_of_turn t (events_in ts)) ≡ length ts = asks_answers t.answers None (event.Resume t.resumed_words t.resumed_memory ∷ events_in ts) ∙ asks_turns ts in
    omega (arith, e)

-- ---- the last memory

pub len_then : (n : ℕ) (xs ys : List Event) → last_len n (xs ++ ys) ≡ last_len (last_len n xs) ys
len_then n [] ys = refl
len_then n (event.Start f w m ∷ xs) ys = len_then (length m) xs ys
len_then n (event.Ask i w m ∷ xs) ys = len_then (length m) xs ys
len_then n (event.Resume w m ∷ xs) ys = len_then (length m) xs ys
len_then n (event.Return w m ∷ xs) ys = len_then (length m) xs ys
len_then n (e ∷ xs) ys = len_then n xs ys

pub same_le : (n : ℕ) → n ≤ n
same_le n = omega arith

-- ---- the counts of faults

pub counts_between : (a b c : Moment) → Advances a b → Advances b c → CountsWithin a.guest b.guest c.guest
counts_between a b c first second = record {
  traps_later = first.traps_later;
  traps_earlier = second.traps_later;
  shortages_later = first.shortages_later;
  shortages_earlier = second.shortages_later;
}

pub advances_none : (a : Moment) → Advances a a
advances_none a = record { no_shorter = omega arith; traps_later = omega arith; shortages_later = omega arith }

-- those of the first moment
pub counts_first : (a b : Moment) → Advances a b → CountsWithin a.guest a.guest b.guest
counts_first a b on = counts_between a a b (advances_none a) on

-- said from an earlier moment on
pub counts_earlier : (a b c : Moment) (s : Seen) → Advances a b → CountsWithin b.guest s c.guest → CountsWithin a.guest s c.guest
counts_earlier a b c s first h = record {
  traps_later = omega (arith, first.traps_later, h.traps_later);
  traps_earlier = h.traps_earlier;
  shortages_later = omega (arith, first.shortages_later, h.shortages_later);
  shortages_earlier = h.shortages_earlier;
}

pub goes_advance : (a b : Moment) (marks : List Mark) (events : List Event) → Goes a b marks events → Advances a b
goes_advance a b marks events h = record { no_shorter = h.no_shorter; traps_later = h.traps_later; shortages_later = h.shortages_later }

pub rises_later : (e : Error) (a b c : Moment) → a.guest.traps ≤ b.guest.traps → RisesAt e b c → RisesAt e a c
rises_later (error.ImportFault n fault.GuestTrap) a b c le rose = omega (arith, le, rose)
rises_later e a b c le rose = tt

module _ {T : Type 0} (gives : Giving T) (callee : Callee) where
  pub served_more : (fuel : ℕ) (ts : List AskTurn) (t : AskTurn) (l m n : HostSide T) → AreServed gives callee fuel ts l m → IsServed gives callee fuel t m n → AreServed gives callee fuel (ts ++ t ∷ []) l n
  served_more fuel [] t l m n h g = (n, subst (λ k. IsServed gives callee fuel t k n) h g, refl)
  served_more fuel (u ∷ ts) t l m n (mid, is, rest) g = (mid, is, served_more fuel ts t mid m n rest g)

  -- ---- one more turn

  module _ (fuel : ℕ) (before : Moment) (host : HostSide T) where
    pub asked_none : TurnsTaken gives callee fuel before host host [] (length before.bytes)
    asked_none = record { serves = refl; last = refl; grows = λ es last g. g }

    pub asked_more : (served left : HostSide T) (ts : List AskTurn) (len : ℕ) (t : AskTurn) → TurnsTaken gives callee fuel before host served ts len → len ≤ length t.memory → length t.memory ≤ length t.resumed_memory
        → IsServed gives callee fuel t served left → TurnsTaken gives callee fuel before host left (ts ++ t ∷ []) (length t.resumed_memory)
    asked_more served left ts len t h longer wider is =
        let after_ask : last_len (last_len (length before.bytes) (events_in ts)) (events_in (t ∷ [])) ≡ length t.resumed_memory = last_len_answers (length t.memory) t.answers (event.Resume t.resumed_words t.resumed_memory ∷ []) in
        record {
          serves = served_more fuel ts t host served left h.serves is;
          last = ap (λ es. last_len (length before.bytes) es) (call_events_append ts (t ∷ [])) ∙ (len_then (length before.bytes) (events_in ts) (events_in (t ∷ [])) ∙ after_ask);
          grows = λ es last g. subst (λ xs. Grows (length before.bytes) xs last) (sym (events_more ts (t ∷ []) es))
              (h.grows (events_in (t ∷ []) ++ es) last (
                longer,
                subst (λ xs. Grows (length t.memory) xs last) (sym (append_assoc (events_of t.answers None) (event.Resume t.resumed_words t.resumed_memory ∷ []) es))
                    (grows_answers (length t.memory) last t.answers (event.Resume t.resumed_words t.resumed_memory ∷ es) (wider, g)),
              ));
        }

-- ---- the loop

suc_add : (m n : ℕ) → suc m + n ≡ suc (m + n)
suc_add m n = omega arith

pub length_more : {A : Type 0} (xs : List A) (x : A) → length (xs ++ x ∷ []) ≡ length xs + 1
length_more [] x = refl
length_more (y ∷ xs) x = ap suc (length_more xs x) ∙ sym (suc_add (length xs) 1)

module _ {T : Type 0} (gives : Giving T) (callee : Callee) (limits : Limits) (Lives : List Leg → List Event → Type 0) (words : List ℕ) (before : Moment) (host : HostSide T) where
  pub stepping_begin : (now : Moment) (next : Step) → Goes before now [] (event.Start callee.func words before.bytes ∷ step_event next now.bytes ∷ [])
      → Lives [] (event.Start callee.func words before.bytes ∷ step_event next now.bytes ∷ []) → Stepping gives callee limits Lives words before now host host 0 next
  stepping_begin now next goes moves =
      record { turns = []; len = length before.bytes; asked = asked_none gives callee limits.fuel before host; count_is = refl; longer = goes.no_shorter; goes = goes; moves = moves; lived = moves }

  abbrev start : List Event
  start = event.Start callee.func words before.bytes ∷ []

  -- an ask, and what came after it
  after_ask : (ts : List AskTurn) (index : ℕ) (asked memory : List ℕ) (es : List Event) → so_far callee words before ts (event.Ask index asked memory ∷ []) ++ es ≡ so_far callee words before ts (event.Ask index asked memory ∷ es)
  after_ask ts index asked memory es = ap (λ xs. event.Start callee.func words before.bytes ∷ xs) (append_assoc (events_in ts) (event.Ask index asked memory ∷ []) es)

  -- an ask, and what came from its resume on
  joined_turn : (ts : List AskTurn) (t : AskTurn) (es : List Event) → so_far callee words before ts (event.Ask t.index t.words t.memory ∷ []) ++ rest_of_turn t es ≡ so_far callee words before (ts ++ t ∷ []) es
  joined_turn ts t es = after_ask ts t.index t.words t.memory (rest_of_turn t es) ∙ ap (λ xs. event.Start callee.func words before.bytes ∷ xs)
      (ap (λ xs. events_in ts ++ event.Ask t.index t.words t.memory ∷ xs) (sym (append_assoc (events_of t.answers None) (event.Resume t.resumed_words t.resumed_memory ∷ []) es)) ∙ sym (events_more ts (t ∷ []) es))

  -- the marks of the turns and of one more
  marks_more : (ts : List AskTurn) (t : AskTurn) → marks_of (answers_in ts) ++ marks_of t.answers ≡ marks_of (answers_in (ts ++ t ∷ []))
  marks_more ts t = sym (lowering_marks_append (answers_in ts) t.answers) ∙ ap marks_of (ap (λ xs. answers_in ts ++ xs) (sym (append-nil t.answers)) ∙ sym (answers_append ts (t ∷ [])))

  -- after one more event of an ask
  turn_lived : (ts : List AskTurn) (t : AskTurn) (last : Event) (es : List Event) → es ≡ rest_of_turn t (last ∷ [])
      → Lives (legs_in start ts ++ record { events = since_last start ts ++ event.Ask t.index t.words t.memory ∷ []; live = t.live } ∷ []) es
      → Lives (legs_in start (ts ++ t ∷ [])) (since_last start (ts ++ t ∷ []) ++ last ∷ [])
  turn_lived ts t last es are h =
      lives_more Lives start ts t (last ∷ []) es (are ∙ sym (append_assoc (events_of t.answers None) (event.Resume t.resumed_words t.resumed_memory ∷ []) (last ∷ []))) h

  module _ (now after : Moment) (served left : HostSide T) (P : List Leg → List Event → Type 0) (N : List Event → Type 0) (goes_on : (xs ys : List Event) → P [] xs → N ys → Lives [] (xs ++ ys))
      (asks : (legs : List Leg) (xs ys : List Event) → P legs xs → N ys → Lives (legs ++ record { events = xs; live = living now.guest } ∷ []) ys) (count index : ℕ) (asked : List ℕ) where
    pub stepping_more : (next : Step) (xs : List Answer) (es : List Event) → Stepping gives callee limits P words before now host served count (step.Import index asked) → Goes now after (marks_of xs) es
        → N es → ServesAsk gives callee limits.fuel index asked now after served left (Ok next) xs es → Stepping gives callee limits Lives words before after host left (count + 1) next
    stepping_more next xs es h goes moves (r, are) =
        let t : AskTurn = ask_turn index asked (living now.guest) now.bytes xs r.resumed r.memory in
        let e : so_far callee words before h.turns (event.Ask index asked now.bytes ∷ []) ++ es ≡ so_far callee words before (h.turns ++ t ∷ []) (step_event next after.bytes ∷ []) =
        ap (λ ys. so_far callee words before h.turns (event.Ask index asked now.bytes ∷ []) ++ ys) are ∙ joined_turn h.turns t (step_event next after.bytes ∷ []) in
        record {
          turns = h.turns ++ t ∷ [];
          len = length r.memory;
          asked = asked_more gives callee limits.fuel before host served left h.turns h.len t h.asked h.longer r.longer r.served;
          count_is = length_more h.turns t ∙ ap (λ n. n + 1) h.count_is;
          longer = r.shorter;
          goes = subst (λ ms. Goes before after ms (so_far callee words before (h.turns ++ t ∷ []) (step_event next after.bytes ∷ []))) (marks_more h.turns t)
              (subst (λ ys. Goes before after (marks_of (answers_in h.turns) ++ marks_of xs) ys) e (goes_then before now after _ _ _ es h.goes goes));
          moves = subst (λ ys. Lives [] ys) e (goes_on _ es h.moves moves);
          lived = turn_lived h.turns t (step_event next after.bytes) es are (asks _ _ es h.lived moves);
        }

    -- the ask wasn't served, or the guest trapped after it was
    pub ran_refused : (e : Error) (xs : List Answer) (es : List Event) (h : Stepping gives callee limits P words before now host served count (step.Import index asked)) → count < limits.turns → Goes now after (marks_of xs) es
        → N es → ServesAsk gives callee limits.fuel index asked now after served left (Err e) xs es
        → RunsUntil gives callee limits Lives words before after host left (Err e) (answers_in h.turns ++ xs) (so_far callee words before h.turns (event.Ask index asked now.bytes ∷ []) ++ es)
    ran_refused (error.Fault fault.GuestTrap) xs es h lt goes moves (r, rose, are) =
        let t : AskTurn = ask_turn index asked (living now.guest) now.bytes xs r.resumed r.memory in
        record {
          turns = h.turns ++ t ∷ [];
          late_guest = before.guest;
          late_counts = counts_first before after (goes_advance before after _ _ (goes_then before now after _ _ _ es h.goes goes));
          late = [];
          late_trap = None;
          answers_are = ap (λ ys. answers_in h.turns ++ ys) (sym (append-nil xs)) ∙ (sym (answers_append h.turns (t ∷ [])) ∙ sym (append-nil (answers_in (h.turns ++ t ∷ []))));
          len = length r.memory;
          served = left;
          tail = trap_event (length r.memory) ∷ [];
          asked = asked_more gives callee limits.fuel before host served left h.turns h.len t h.asked h.longer r.longer r.served;
          few = omega (arith, lt, length_more h.turns t, h.count_is);
          longer = r.shorter;
          is = ap (λ ys. so_far callee words before h.turns (event.Ask index asked now.bytes ∷ []) ++ ys) are ∙ joined_turn h.turns t (trap_event (length r.memory) ∷ []);
          stopped = (omega (arith, rose, h.goes.traps_later), refl, (refl, refl, refl));
          lived = turn_lived h.turns t (trap_event (length r.memory)) es are (asks _ _ es h.lived moves);
        }
    ran_refused error.TurnsExhausted xs es h lt goes moves serves = absurd serves
    ran_refused error.WrongCount xs es h lt goes moves serves = absurd serves.1
    ran_refused error.AsyncLifted xs es h lt goes moves serves = absurd serves.1
    ran_refused error.CannotEnterComponent xs es h lt goes moves serves = absurd serves.1
    ran_refused e xs es h lt goes moves serves = record {
      turns = h.turns;
      late_guest = now.guest;
      late_counts = counts_between before now after (goes_advance before now _ _ h.goes) (goes_advance now after _ _ goes);
      late = xs;
      late_trap = serves.0;
      answers_are = refl;
      len = h.len;
      served = served;
      tail = event.Ask index asked now.bytes ∷ events_of xs serves.0;
      asked = h.asked;
      few = omega (arith, lt, h.count_is);
      longer = omega (arith, h.longer, goes.no_shorter);
      is = ap (λ ys. so_far callee words before h.turns (event.Ask index asked now.bytes ∷ []) ++ ys) serves.2 ∙ after_ask h.turns index asked now.bytes (events_of xs serves.0);
      stopped = (
        omega (arith, lt, h.count_is),
        record {
          index = index;
          words = asked;
          memory = now.bytes;
          is = refl;
          longer = h.longer;
          shorter = goes.no_shorter;
          stops = serves.1;
          traps_late = serves.3;
          rises = rises_later e before now after h.goes.traps_later serves.4;
        },
      );
      lived = asks _ _ (events_of xs serves.0) h.lived (subst N serves.2 moves);
    }

  module _ (now : Moment) (served : HostSide T) (count : ℕ) where
    pub ran_returned : (returned : List ℕ) (h : Stepping gives callee limits Lives words before now host served count (step.Return returned)) → count ≤ limits.turns
        → RunsUntil gives callee limits Lives words before now host served (Ok returned) (answers_in h.turns) (so_far callee words before h.turns (event.Return returned now.bytes ∷ []))
    ran_returned returned h le = record {
      turns = h.turns;
      late_guest = before.guest;
      late_counts = counts_first before now (goes_advance before now _ _ h.goes);
      late = [];
      late_trap = None;
      answers_are = sym (append-nil (answers_in h.turns));
      len = h.len;
      served = served;
      tail = event.Return returned now.bytes ∷ [];
      asked = h.asked;
      few = omega (arith, le, h.count_is);
      longer = h.longer;
      is = refl;
      stopped = (refl, (refl, refl, refl));
      lived = h.lived;
    }

    pub ran_exhausted : (asks : (legs : List Leg) (xs : List Event) → Lives legs xs → Lives (legs ++ record { events = xs; live = living now.guest } ∷ []) []) (index : ℕ) (asked : List ℕ)
        (h : Stepping gives callee limits Lives words before now host served count (step.Import index asked))
        → count ≡ limits.turns
        → RunsUntil gives callee limits Lives words before now host served (Err error.TurnsExhausted) (answers_in h.turns) (so_far callee words before h.turns (event.Ask index asked now.bytes ∷ []))
    ran_exhausted asks index asked h all = record {
      turns = h.turns;
      late_guest = now.guest;
      late_counts = counts_between before now now (goes_advance before now _ _ h.goes) (advances_none now);
      late = [];
      late_trap = None;
      answers_are = sym (append-nil (answers_in h.turns));
      len = h.len;
      served = served;
      tail = event.Ask index asked now.bytes ∷ [];
      asked = h.asked;
      few = omega (arith, all, h.count_is);
      longer = h.longer;
      is = refl;
      stopped = (
        h.count_is ∙ all,
        record {
          index = index;
          words = asked;
          memory = now.bytes;
          is = refl;
          longer = h.longer;
          shorter = same_le (length now.bytes);
          stops = (refl, (refl, refl, refl));
          traps_late = tt;
          rises = tt;
        },
      );
      lived = asks _ _ h.lived;
    }

-- an answer and what it leaves are a step's
pub done_is : {A : Type 0} (d : Done A) (r : Result A ResourceFault) (l : LedgerState) → d.answer ≡ r → l ≡ d.after → d ≡ record { answer = r; after = l }
done_is d r l h g = λ i. record { answer = h i; after = sym g i }
