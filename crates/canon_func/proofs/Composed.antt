-- One step of a call after another.
use Rattle.std.proofs.Common.{Err, List, None, Ok, Result, Some, Vec, Global, [], ap, append_assoc, arith, inl, inr, length, refl, subst, sym, ℕ, ◌++◌, ◌∙◌, ◌∷◌, ◌≡◌}
use Rattle.std.specs.Prelude.{IfErr, false}
use Rattle.std.proofs.lemmas.List.{append-nil}
use Rattle.canon_model.specs.Homes.{host_texts}
use Rattle.canon_memory.specs.declared.error.GuestFault.{GuestFault}
use Rattle.canon_memory.specs.declared.error.GuestFault.TheVariants as guest
use Rattle.canon_memory.specs.declared.event.Event.{Event}
use Rattle.canon_memory.specs.declared.event.Event.TheVariants as event
use Rattle.canon_memory.specs.Guest.{Goes, HasCause, Moment, OnAnswer, Seen, moment}
use Rattle.canon_memory.specs.Journal.{post_events, trap_event}
use Rattle.canon_ledger.specs.Ledger.{LedgerState, enter, leave}
use Rattle.canon_resources.proofs.Leaves.{stops_at_once}
use Rattle.canon_resources.specs.Parts.{LeavesTake}
use Rattle.canon_lowering.proofs.Lowerings.{goes_none, goes_then}
use Rattle.canon_lowering.specs.Attempt.{LowersArgs}
use Rattle.canon_lowering.specs.Lowering.{Answer, done, events_of, marks_of}
use Rattle.canon_context.specs.declared.fault.Fault.{Fault}
use Rattle.canon_context.specs.declared.fault.Fault.TheVariants as fault
use Rattle.canon_host.specs.Forms.{IsLawful}
use Rattle.canon_host.specs.HostSide.{Giving, HostSide}
use Rattle.canon_func.specs.Asks.{Limits}
use Rattle.canon_func.specs.Call.{Adding, Advances, IsCallOf, Left, OnAnswered}
use Rattle.canon_func.specs.Runs.{AskTurn, AsksFrom, Leg, answers_in, events_in, posts, living}
use Rattle.canon_func.specs.Passing.{Arguments, ReturnedValues}
use Rattle.canon_func.specs.Steps.{Concluded, Ended, Proceeds, IsLate, IsRest, Lifted, LoweredArgs, MayRun, Posted, RunsOut, RunsToEnd, RunsUntil, RestCause, Serving, so_far}
use Rattle.canon_func.specs.Stores.{Callee}
use Rattle.canon_func.specs.declared.error.Error.{Error}
use Rattle.canon_func.specs.declared.error.Error.TheVariants as error
use Rattle.canon_func.proofs.Calls.{joined, call_ready}
use Rattle.canon_func.proofs.Legs.{from_so, returned_more}
use Rattle.canon_func.specs.Passed.{BlamesRightly, ReadsRightly}
use Rattle.canon_func.proofs.Refusals.{refused_call, short_call}
use Rattle.canon_func.proofs.Rests.{returned_rest, unended_tail}
use Rattle.canon_func.proofs.Tails.{IsTail, rest_of_none, rest_of_tail}
use Rattle.canon_func.proofs.Turns.{counts_first, err_same, goes_advance, not_ok, same_le}
use Rattle.canon_func.proofs.Unserved.{stopped_rest}
use Rattle.canon_lowering.specs.Stages.{bare}

-- what follows from a fact for every answer except out of memory
pub answered : {T : Type 0} (r : Result T Error) (P Q : Type 0) → (P → Q) → OnAnswered r P → OnAnswered r Q
answered (Ok x) P Q f h = f h
answered (Err (error.Fault fault.OutOfMemory)) P Q f h = tt
answered (Err e) P Q f h = f h

pub answers : {T : Type 0} (r : Result T Error) (P : Type 0) → P → OnAnswered r P
answers (Ok x) P p = p
answers (Err (error.Fault fault.OutOfMemory)) P p = tt
answers (Err e) P p = p

-- of an answer of another type
pub retyped : (T U : Type 0) (e : Error) (P : Type 0) → OnAnswered {T = T} (Err e) P → OnAnswered {T = U} (Err e) P
retyped T U (error.Fault fault.OutOfMemory) P h = tt
retyped T U e P h = h

other : guest.OutOfMemory ≡ guest.Trap → ⊥
other e = cc

-- ---- from the start on

module _ {T R : Type 0} (its : ReturnedValues R) (gives : Giving T) (callee : Callee) (limits : Limits) (Lives : List Leg → List Event → Type 0) (Leaves : List ℕ → List ℕ → Type 0) (law : ReadsRightly callee its) (words : List ℕ) where
  -- how the guest ran, and what came after its return
  joined_run : (before : Moment) (turns : List AskTurn) (ret : Event) (later : List Event) → so_far callee words before turns (ret ∷ []) ++ later ≡ so_far callee words before turns (ret ∷ later)
  joined_run before turns ret later = ap (λ es. event.Start callee.func words before.bytes ∷ es) (append_assoc (events_in turns) (ret ∷ []) later)

  -- a rest from what came after the turns, which is said of the host as the guest left it
  rest_of_ran : (P : List Leg → List Event → Type 0) (a b c : Moment) (l m l2 : HostSide T) (returned : List ℕ) (answer : Result R Error) (answers : List Answer) (xs later : List Event)
      (ran : RunsUntil gives callee limits P words a b l m (Ok returned) answers xs)
      → Advances a c → ((legs : List Leg) (es : List Event) → P legs es → Lives legs (es ++ later))
      → IsTail its gives callee limits Leaves a c (length ran.turns) ran.len m l2 answer a.guest [] None (event.Return returned b.bytes ∷ later) → IsRest its gives callee limits Lives Leaves words a c l l2 answer answers (xs ++ later)
  rest_of_ran P a b c l m l2 returned answer answers xs later ran on f h =
      let tail : List Event = event.Return returned b.bytes ∷ later in
      let events : xs ++ later ≡ so_far callee words a ran.turns tail =
      ap (λ es. es ++ later) (ran.is ∙ ap (λ es. so_far callee words a ran.turns es) ran.stopped.0) ∙ joined_run a ran.turns (event.Return returned b.bytes) later in
      let none : answers ≡ answers_in ran.turns ++ [] = ran.answers_are ∙ ap (λ ys. answers_in ran.turns ++ ys) ran.stopped.1.0 in
      subst (λ es. IsRest its gives callee limits Lives Leaves words a c l l2 answer answers es) (sym events)
      (rest_of_tail its gives callee limits Lives Leaves words a c l ran.served l2 ran.turns ran.len ran.asked answer a.guest (counts_first a c on) answers [] None tail none
      (returned_more P Lives later f (event.Start callee.func words a.bytes ∷ []) ran.turns (living ran.late_guest) returned b.bytes (subst (λ es. AsksFrom P (event.Start callee.func words a.bytes ∷ []) ran.turns (living ran.late_guest) es) ran.stopped.0 ran.lived))
      (subst (λ (k : HostSide T). IsTail its gives callee limits Leaves a c (length ran.turns) ran.len k l2 answer a.guest [] None tail) ran.stopped.1.2 h))

  -- the guest returned, and the scope ended
  pub run_returned : (a b c : Moment) (l m l2 : HostSide T) → l2 ≡ record m { ledger = l2.ledger }
      → (returned : List ℕ) (answer : Result R Error) (P : List Leg → List Event → Type 0) (N : List Event → Type 0)
      → ((legs : List Leg) (xs ys : List Event) → P legs xs → N ys → Lives legs (xs ++ ys))
      → Serving a b (P []) (RunsToEnd gives callee limits P words a b l m (Ok returned)) → Proceeds b c N (Concluded its Leaves callee limits.fuel returned b c m.ledger l2.ledger answer)
      → Serving a c (Lives []) (IsRest its gives callee limits Lives Leaves words a c l l2 answer)
  run_returned a b c l m l2 kept returned answer P N f first second =
      let out = first.so in
      let whole : l2 ≡ record out.ran { ledger = l2.ledger } = subst (λ (k : HostSide T). l2 ≡ record k { ledger = l2.ledger }) out.kept kept in
      record {
        answers = first.answers;
        events = first.events ++ second.events;
        goes = subst (λ ms. Goes a c ms (first.events ++ second.events)) (append-nil (marks_of first.answers)) (goes_then a b c (marks_of first.answers) [] first.events second.events first.goes second.goes);
        moves = f [] first.events second.events first.moves second.moves;
        so = rest_of_ran P a b c l out.ran l2 returned answer first.answers first.events second.events out.run
            (goes_advance a c _ _ (goes_then a b c (marks_of first.answers) [] first.events second.events first.goes second.goes)) (λ legs es h. f legs es second.events h second.moves)
            (returned_rest its gives callee limits Leaves law a b c (length out.run.turns) out.run.len out.ran l2 whole returned out.run.few out.run.longer (goes_advance a b _ _ first.goes) (goes_advance b c _ _ second.goes)
            m.ledger out.ends.0 out.ends.1 answer second.events second.so);
      }

  -- the guest stopped
  module _ (lawful_forms : (n : ℕ) → IsLawful (gives.form n)) (P : List Leg → List Event → Type 0) (f : (legs : List Leg) (es : List Event) → P legs es → Lives legs es) where
    rest_stopped : (a b : Moment) (l l2 : HostSide T) (e : Error) (answers : List Answer) (xs : List Event) → Advances a b → P [] xs → MayRun gives callee limits P words a b l l2 (Err e) answers xs
        → IsRest its gives callee limits Lives Leaves words a b l l2 (Err e) answers xs
    rest_stopped a b l l2 e answers xs on moves (inl (is, none, quiet, same)) =
        subst (λ k. IsRest its gives callee limits Lives Leaves words a b l k (Err e) answers xs) (sym same) (subst (λ es. IsRest its gives callee limits Lives Leaves words a b l l (Err e) answers es) (sym none)
        (subst (λ ys. IsRest its gives callee limits Lives Leaves words a b l l (Err e) ys []) (sym quiet)
        (subst (λ r. IsRest its gives callee limits Lives Leaves words a b l l (Err r) [] []) (sym (err_same {T = List ℕ} e (error.Fault fault.OutOfMemory) is)) (rest_of_none its gives callee limits Lives Leaves words a b l on (f [] [] (subst (λ es. P [] es) none moves))))))
    rest_stopped a b l l2 e answers xs on moves (inr ran) = subst (λ es. IsRest its gives callee limits Lives Leaves words a b l l2 (Err e) answers es) (sym ran.is)
        (rest_of_tail its gives callee limits Lives Leaves words a b l ran.served l2 ran.turns ran.len ran.asked (Err e) ran.late_guest ran.late_counts answers ran.late ran.late_trap ran.tail ran.answers_are
        (from_so P Lives f (event.Start callee.func words a.bytes ∷ []) ran.turns (living ran.late_guest) ran.tail ran.lived)
        (stopped_rest its gives lawful_forms callee limits Leaves a b (length ran.turns) ran.len ran.served l2 e ran.late_guest ran.late ran.late_trap ran.tail ran.longer ran.few ran.stopped))

    -- the guest stopped, or it returned and the scope didn't end
    rest_refused : (a b : Moment) (l l2 : HostSide T) (e : Error) (answers : List Answer) (xs : List Event) → Advances a b → P [] xs → RunsToEnd gives callee limits P words a b l l2 (Err e) answers xs
        → IsRest its gives callee limits Lives Leaves words a b l l2 (Err e) answers xs
    rest_refused a b l l2 e answers xs on moves (inl ran) = rest_stopped a b l l2 e answers xs on moves ran
    rest_refused a b l l2 e answers xs on moves (inr (returned, out)) =
        subst (λ es. IsRest its gives callee limits Lives Leaves words a b l l2 (Err e) answers es) (append-nil xs)
        (rest_of_ran P a b b l out.ran l2 returned (Err e) answers xs [] out.run on (λ legs es h. subst (λ ys. Lives legs ys) (sym (append-nil es)) (f legs es h))
        (unended_tail its gives callee limits Leaves law a b (length out.run.turns) out.run.len out.ran l2 out.kept returned b.bytes out.run.few out.run.longer (same_le (length b.bytes)) refl e out.ends))

    pub run_refused : (a b : Moment) (l l2 : HostSide T) (e : Error) → Serving a b (P []) (RunsToEnd gives callee limits P words a b l l2 (Err e))
        → Serving a b (Lives []) (IsRest its gives callee limits Lives Leaves words a b l l2 (Err e))
    run_refused a b l l2 e first = record {
      answers = first.answers;
      events = first.events;
      goes = first.goes;
      moves = f [] first.events first.moves;
      so = rest_refused a b l l2 e first.answers first.events (goes_advance a b _ _ first.goes) first.moves first.so;
    }

-- ---- the end of the scope

module _ {T : Type 0} (gives : Giving T) (callee : Callee) (limits : Limits) (Lives : List Leg → List Event → Type 0) (words : List ℕ) (a b : Moment) (l m n : HostSide T) (kept : n ≡ record m { ledger = n.ledger }) (returned : List ℕ) where
  -- a run, said otherwise
  run_so : (Q : List Leg → List Event → Type 0) → ((legs : List Leg) (es : List Event) → Lives legs es → Q legs es) → (r : Result (List ℕ) Error) (answers : List Answer) (es : List Event)
      → RunsUntil gives callee limits Lives words a b l m r answers es
      → RunsUntil gives callee limits Q words a b l m r answers es
  run_so Q f r answers es h = record {
    turns = h.turns;
    late_guest = h.late_guest;
    late_counts = h.late_counts;
    late = h.late;
    late_trap = h.late_trap;
    answers_are = h.answers_are;
    len = h.len;
    served = h.served;
    tail = h.tail;
    asked = h.asked;
    few = h.few;
    longer = h.longer;
    is = h.is;
    stopped = h.stopped;
    lived = from_so Lives Q f (event.Start callee.func words a.bytes ∷ []) h.turns (living h.late_guest) h.tail h.lived;
  }

  -- the guest returned, and the scope ended so, which changes nothing but the ledger
  out_of : (Q : List Leg → List Event → Type 0) → ((legs : List Leg) (es : List Event) → Lives legs es → Q legs es) → (r : Result (Unit {0}) Error) (answers : List Answer) (es : List Event) → Ended callee returned m.ledger n.ledger r
      → MayRun gives callee limits Lives words a b l m (Ok returned) answers es → RunsOut gives callee limits Q words a b l n returned r answers es
  out_of Q f r xs es ends (inl (is, none, quiet, same)) = absurd (not_ok returned (error.Fault fault.OutOfMemory) is)
  out_of Q f r xs es ends (inr ran) = record { ran = m; run = run_so Q f (Ok returned) xs es ran; ends = ends; kept = kept }

  pub run_ended : Ended callee returned m.ledger n.ledger (Ok tt) → Serving a b (Lives []) (MayRun gives callee limits Lives words a b l m (Ok returned))
      → Serving a b (Lives []) (RunsToEnd gives callee limits Lives words a b l n (Ok returned))
  run_ended ends first = record { answers = first.answers; events = first.events; goes = first.goes; moves = first.moves; so = out_of Lives (λ legs es h. h) (Ok tt) first.answers first.events ends first.so }

  pub run_unended : (Q : List Leg → List Event → Type 0) → ((legs : List Leg) (es : List Event) → Lives legs es → Q legs es) → (e : Error) → Ended callee returned m.ledger n.ledger (Err e)
      → Serving a b (Lives []) (MayRun gives callee limits Lives words a b l m (Ok returned)) → Serving a b (Q []) (RunsToEnd gives callee limits Q words a b l n (Err e))
  run_unended Q f e ends first = record { answers = first.answers; events = first.events; goes = first.goes; moves = f [] first.events first.moves; so = inr (returned, out_of Q f (Err e) first.answers first.events ends first.so) }

-- ---- after the scope ended

module _ {R : Type 0} (its : ReturnedValues R) (Leaves : List ℕ → List ℕ → Type 0) (callee : Callee) (fuel : ℕ) (words : List ℕ) (l : LedgerState) where
  -- the words weren't lifted
  pub conclude_unlifted : (s : Seen) (bytes : List ℕ) (l2 : LedgerState) (f : Fault) (M : List Event → Type 0) → Lifted its fuel words bytes l l2 (Err f) → M []
      → Proceeds (moment s bytes) (moment s bytes) M (Concluded its Leaves callee fuel words (moment s bytes) (moment s bytes) l l2 (Err (error.Fault f)))
  conclude_unlifted s bytes l2 f M h stays = record {
    events = [];
    goes = goes_none s bytes bytes (omega arith);
    moves = stays;
    so = inl (f, refl, h, refl, refl);
  }

  module _ (a b : Moment) (m : LedgerState) (results : R) (lifted : Lifted its fuel words a.bytes l m (Ok results)) where
    -- they were lifted, post-return was run, and the scope was left
    pub conclude_done : (l2 : LedgerState) (M : List Event → Type 0) → l2 ≡ leave m → Proceeds a b M (Posted Leaves callee words a b (Ok tt)) → Proceeds a b M (Concluded its Leaves callee fuel words a b l l2 (Ok results))
    conclude_done l2 M left h = record { events = h.events; goes = h.goes; moves = h.moves; so = ((m, lifted, left), h.so) }

    -- post-return wasn't run, or trapped
    pub conclude_failed : (e : Error) (M N : List Event → Type 0) → ((es : List Event) → M es → N es) → Proceeds a b M (Posted Leaves callee words a b (Err e)) → Proceeds a b N (Concluded its Leaves callee fuel words a b l m (Err e))
    conclude_failed e M N f h = record { events = h.events; goes = h.goes; moves = f h.events h.moves; so = inr (results, lifted, h.so) }

-- ---- post-return

module _ (Leaves : List ℕ → List ℕ → Type 0) (callee : Callee) (words : List ℕ) where
  pub posted_none : (s : Seen) (bytes : List ℕ) (M : List Event → Type 0) → callee.post ≡ None → M [] → Proceeds (moment s bytes) (moment s bytes) M (Posted Leaves callee words (moment s bytes) (moment s bytes) (Ok tt))
  posted_none s bytes M none stays = record {
    events = [];
    goes = goes_none s bytes bytes (omega arith);
    moves = stays;
    so = (sym (ap (λ o. posts o words) none), subst (λ o. Left Leaves o bytes bytes) (sym none) refl);
  }

  pub posted : (a b : Moment) (p : ℕ) (M : List Event → Type 0) → callee.post ≡ Some p → Leaves a.bytes b.bytes → Goes a b [] (event.Post p words ∷ []) → M (event.Post p words ∷ []) → Proceeds a b M (Posted Leaves callee words a b (Ok tt))
  posted a b p M some kept goes moves = record {
    events = event.Post p words ∷ [];
    goes = goes;
    moves = moves;
    so = (sym (ap (λ o. posts o words) some), subst (λ o. Left Leaves o a.bytes b.bytes) (sym some) kept);
  }

  pub post_trapped : (a b : Moment) (p : ℕ) (f : GuestFault) (M : List Event → Type 0) → f ≡ guest.Trap → callee.post ≡ Some p → Goes a b [] (post_events p words a.bytes (Err f))
      → HasCause {T = Unit {0}} a.guest b.guest (Err f) → OnAnswer {T = Unit {0}} (Err f) (M (post_events p words a.bytes (Err f))) → Proceeds a b M (Posted Leaves callee words a b (Err (error.Fault fault.GuestTrap)))
  post_trapped a b p guest.Trap M e some goes cause moves = record {
    events = event.Post p words ∷ trap_event (length a.bytes) ∷ [];
    goes = goes;
    moves = moves;
    so = (cause, (p, some, refl));
  }
  post_trapped a b p guest.OutOfMemory M e some goes cause moves = absurd (other e)

-- ---- the whole

-- none of the refusals before the guest is entered
pub rest_is_late : {R : Type 0} (its : ReturnedValues R) (callee : Callee) (limits : Limits) (a b : Moment) (es tail : List Event) (r : Result R Error) → IfErr r (RestCause its callee limits a b es tail) → IfErr r IsLate
rest_is_late its callee limits a b es tail (Ok results) h = tt
rest_is_late its callee limits a b es tail (Err error.WrongCount) h = absurd h
rest_is_late its callee limits a b es tail (Err error.AsyncLifted) h = absurd h
rest_is_late its callee limits a b es tail (Err error.CannotEnterComponent) h = absurd h
rest_is_late its callee limits a b es tail (Err error.WrongWords) h = refl
rest_is_late its callee limits a b es tail (Err (error.UnknownImport n)) h = refl
rest_is_late its callee limits a b es tail (Err error.TurnsExhausted) h = refl
rest_is_late its callee limits a b es tail (Err (error.ImportFault n f)) h = refl
rest_is_late its callee limits a b es tail (Err (error.HostRefused n)) h = refl
rest_is_late its callee limits a b es tail (Err (error.Fault f)) h = refl

pub lowered_is_late : (args : Arguments) (callee : Callee) (a b : Moment) (l l2 : LedgerState) (es : List Event) (e : Error) → LoweredArgs args callee a b l l2 (Err e) es → IsLate e
lowered_is_late args callee a b l l2 es (error.Fault f) h = refl
lowered_is_late args callee a b l l2 es error.WrongCount h = absurd h
lowered_is_late args callee a b l l2 es error.AsyncLifted h = absurd h
lowered_is_late args callee a b l l2 es error.CannotEnterComponent h = absurd h
lowered_is_late args callee a b l l2 es error.WrongWords h = absurd h
lowered_is_late args callee a b l l2 es (error.UnknownImport n) h = absurd h
lowered_is_late args callee a b l l2 es error.TurnsExhausted h = absurd h
lowered_is_late args callee a b l l2 es (error.ImportFault n f) h = absurd h
lowered_is_late args callee a b l l2 es (error.HostRefused n) h = absurd h

module _ {T R : Type 0} (args : Arguments) (its : ReturnedValues R) (gives : Giving T) (callee : Callee) (limits : Limits) (Lives : List Leg → List Event → Type 0) (Leaves : List ℕ → List ℕ → Type 0) where
  -- memory ran out for the scope
  pub scope_short : (s : Seen) (bytes : List ℕ) (l0 l2 : HostSide T) → l2 ≡ l0 → Lives [] []
      → Adding (moment s bytes) (moment s bytes) (Lives []) (IsCallOf args its Lives Leaves gives callee limits (moment s bytes) (moment s bytes) l0 l2 (Err (error.Fault fault.OutOfMemory)))
  scope_short s bytes l0 l2 same stays = record {
    events = [];
    added = (goes_none s bytes bytes (omega arith)).events;
    moves = stays;
    so = short_call args its gives callee limits Lives Leaves (moment s bytes) (moment s bytes) l0 l2 stays refl (inl (refl, refl, same));
  }

  core_refused : BlamesRightly args → (a b : Moment) (l0 l2 : HostSide T) → l2 ≡ record l0 { ledger = l2.ledger } → (e : Error) (es : List Event) → Lives [] es → LoweredArgs args callee a b (enter l0.ledger) l2.ledger (Err e) es
      → IsCallOf args its Lives Leaves gives callee limits a b l0 l2 (Err e) es
  core_refused law a b l0 l2 left (error.Fault f) es moves (inl (short, same, kept, none)) = subst (λ fs. IsCallOf args its Lives Leaves gives callee limits a b l0 l2 (Err (error.Fault f)) fs) (sym none)
      (subst (λ g. IsCallOf args its Lives Leaves gives callee limits a b l0 l2 (Err (error.Fault g)) []) (sym short)
      (short_call args its gives callee limits Lives Leaves a b l0 l2 (subst (λ fs. Lives [] fs) none moves) same (inr (inl (tt, stops_at_once (enter l0.ledger) l2.ledger args.parts kept, left)))))
  core_refused law a b l0 l2 left (error.Fault f) es moves (inr (words, handles, ending, low, ends, blames, told, is, quiet, stops)) =
      subst (λ fs. IsCallOf args its Lives Leaves gives callee limits a b l0 l2 (Err (error.Fault f)) fs) (sym is)
      (refused_call args its gives callee limits Lives Leaves law a b l0 l2 left f ending words handles low (subst (λ fs. Lives [] fs) is moves) ends blames told quiet stops)
  core_refused law a b l0 l2 left error.WrongCount es moves h = absurd h
  core_refused law a b l0 l2 left error.AsyncLifted es moves h = absurd h
  core_refused law a b l0 l2 left error.CannotEnterComponent es moves h = absurd h
  core_refused law a b l0 l2 left error.WrongWords es moves h = absurd h
  core_refused law a b l0 l2 left (error.UnknownImport n) es moves h = absurd h
  core_refused law a b l0 l2 left error.TurnsExhausted es moves h = absurd h
  core_refused law a b l0 l2 left (error.ImportFault n f) es moves h = absurd h
  core_refused law a b l0 l2 left (error.HostRefused n) es moves h = absurd h

  -- a call in the scope that was opened on its ledger
  abbrev pub InScope : HostSide T → Moment → Moment → HostSide T → Result R Error → List Event → Type 0
  InScope l a b l2 answer es = (before : LedgerState) → enter before ≡ l.ledger → IsCallOf args its Lives Leaves gives callee limits a b (record l { ledger = before }) l2 answer es

  -- the parameters were lowered
  pub call_started : (P : List Leg → List Event → Type 0) (a b c : Moment) (l l1 l2 : HostSide T) → l1 ≡ record l { ledger = l1.ledger } → (words : Vec ℕ Global) (answer : Result R Error) (M : List Event → Type 0)
      → ((xs ys : List Event) → M xs → P [] ys → Lives [] (xs ++ ys))
      → ((xs : List Event) → M xs → (leg : Leg) (legs : List Leg) (ys : List Event) → P (leg ∷ legs) ys → Lives (record { events = xs ++ leg.events; live = leg.live } ∷ legs) ys)
      → Adding a b M (LoweredArgs args callee a b l.ledger l1.ledger (Ok words)) → Serving b c (P []) (IsRest its gives callee limits P Leaves words.items b c l1 l2 answer) → Adding a c (Lives []) (InScope l a c l2 answer)
  call_started P a b c l l1 l2 same words answer M f g first second =
      let low : LowersArgs false (bare a) (bare b) (host_texts callee.encoding) callee.params args.are words.items first.so.0 done = first.so.1 in
      let xs : List Event = events_of low.answers low.trap in
      let ys : List Event = second.events in
      record {
        events = xs ++ ys;
        added = (goes_then a b c (marks_of low.answers) (marks_of second.answers) xs ys low.lowering.goes second.goes).events;
        moves = f xs ys (subst M first.so.2 first.moves) second.moves;
        so = λ before entered. subst (λ o. IsCallOf args its Lives Leaves gives callee limits a c (record l { ledger = before }) l2 answer (events_of low.answers o ++ ys)) (sym low.lowering.cause)
            (joined args its gives callee limits P Lives Leaves a b c (record l { ledger = before }) l1 l2 same words.items low.answers first.so.0 ys second.answers answer
            (let moved : M (events_of low.answers None) = subst (λ o. M (events_of low.answers o)) low.lowering.cause (subst M first.so.2 first.moves) in
            (λ es h. f (events_of low.answers None) es moved h, g (events_of low.answers None) moved)) (call_ready args callee a b words.items low first.so.3 first.so.4 first.so.5)
            (subst (λ k. LeavesTake k args.parts first.so.0 l1.ledger) (sym entered) first.so.6)
            (goes_advance a b _ _ low.lowering.goes) (goes_advance b c _ _ second.goes) second.goes.marks second.so);
      }

  -- they weren't
  pub call_refused : BlamesRightly args → (a b : Moment) (l l2 : HostSide T) → l2 ≡ record l { ledger = l2.ledger } → (e : Error)
      → Adding a b (Lives []) (LoweredArgs args callee a b l.ledger l2.ledger (Err e)) → Adding a b (Lives []) (InScope l a b l2 (Err e))
  call_refused law a b l l2 same e low = record {
    events = low.events;
    added = low.added;
    moves = low.moves;
    so = λ before entered. core_refused law a b (record l { ledger = before }) l2 same e low.events low.moves (subst (λ k. LoweredArgs args callee a b k l2.ledger (Err e) low.events) (sym entered) low.so);
  }

  -- the scope was opened
  pub entered_call : (a b : Moment) (l0 l l2 : HostSide T) (answer : Result R Error) (M : List Event → Type 0) → l ≡ record l0 { ledger = enter l0.ledger } → Adding a b M (InScope l a b l2 answer)
      → Adding a b M (IsCallOf args its Lives Leaves gives callee limits a b l0 l2 answer)
  entered_call a b l0 l l2 answer M entered h = record {
    events = h.events;
    added = h.added;
    moves = h.moves;
    so = subst (λ (k : HostSide T). IsCallOf args its Lives Leaves gives callee limits a b (record k { ledger = l0.ledger }) l2 answer h.events) entered (h.so l0.ledger (sym (ap (λ k. k.ledger) entered)));
  }
