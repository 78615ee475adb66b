-- What a call did, from what its steps did.
use Rattle.std.proofs.Common.{Err, inl, inr, List, None, Ok, Result, [], ap, append_assoc, arith, length, refl, subst, sym, true, ℕ, ◌++◌, ◌∷◌, ◌∙◌, ◌≡◌, ◌≤◌}
use Rattle.std.specs.Prelude.{false}
use Rattle.std.proofs.lemmas.List.{append-nil}
use Rattle.canon_model.specs.Flat.{max_params}
use Rattle.canon_model.specs.Homes.{ParamsHome, PointsTo, host_texts}
use Rattle.canon_model.specs.Shape.{Members}
use Rattle.canon_model.specs.Requests.{Request, host_asks, params_requests}
use Rattle.canon_model.specs.Tree.{Trees}
use Rattle.canon_model.proofs.Frames.{blocks_are_read}
use Rattle.canon_memory.specs.declared.event.Event.{Event}
use Rattle.canon_memory.specs.declared.event.Event.TheVariants as event
use Rattle.canon_memory.specs.Guest.{Moment}
use Rattle.canon_ledger.specs.Ledger.{enter}
use Rattle.canon_resources.proofs.Leaves.{leaves_same}
use Rattle.canon_resources.specs.Parts.{LeavesTake}
use Rattle.canon_lowering.proofs.Lowerings.{lawful_second, lowering_marks_append}
use Rattle.canon_model.specs.Homes.{AnyPointer}
use Rattle.canon_lowering.specs.Attempt.{LowersArgs}
use Rattle.canon_lowering.specs.Lowering.{Accepted, AllGood, Answer, Ending, Meets, addresses_of, done, short, events_of, marks_of}
use Rattle.canon_lowering.specs.Storing.{narrow}
use Rattle.canon_context.specs.declared.fault.Fault.TheVariants as fault
use Rattle.canon_host.specs.HostSide.{Giving, HostSide}
use Rattle.canon_func.specs.Asks.{AreServed, Limits}
use Rattle.canon_func.specs.Call.{Accepts, AcceptsLater, Advances, AfterTurns, AskCause, AsksByTypes, Cause, IsCallOf, IsStart, lowering_ending, words_within}
use Rattle.canon_func.specs.Passing.{Arguments, ReturnedValues}
use Rattle.canon_func.specs.Runs.{AskTurn, Each, IsNoPost, IsTrap, OnReturn, OnStart, Leg, asks_in, living}
use Rattle.canon_func.specs.Steps.{IsRest, RestCause}
use Rattle.canon_func.specs.Stores.{Callee}
use Rattle.canon_func.specs.declared.error.Error.{Error}
use Rattle.canon_func.specs.declared.error.Error.TheVariants as error
use Rattle.canon_func.proofs.Legs.{asks_after}
use Rattle.canon_func.proofs.Turns.{counts_earlier, err_same, not_ok}
use Rattle.canon_func.proofs.Prefixes.{IsEarly, answers_are, answers_early, asks_answers, each_after, each_answer, each_then, ends_after, grows_answers, grows_from, post_then, prefix_after, return_then, run_after}
use Rattle.canon_lowering.specs.Stages.{bare}

pub advances_then : (a b c : Moment) → Advances a b → Advances b c → Advances a c
advances_then a b c f g = record {
  no_shorter = omega (arith, f.no_shorter, g.no_shorter);
  traps_later = omega (arith, f.traps_later, g.traps_later);
  shortages_later = omega (arith, f.shortages_later, g.shortages_later);
}

-- ---- the start

-- a fact of what a guest was started with
on_start : (words memory : List ℕ) (P : List ℕ → List ℕ → Type 0) → P words memory → (events : List Event)
    → Each (OnStart (λ ws m. (ws ≡ words) × (m ≡ memory))) events → Each (OnStart P) events
on_start words memory P p [] h = tt
on_start words memory P p (event.Start f ws m ∷ events) h = (subst (λ us. P us m) (sym h.0.0) (subst (λ n. P words n) (sym h.0.1) p), on_start words memory P p events h.1)
on_start words memory P p (e ∷ events) h = (tt, on_start words memory P p events h.1)

-- these answers met all of the requests
abbrev pub MetAll : List Request → List Answer → Type 0
MetAll requests answers = (last : ℕ) → Meets last requests answers None []

-- The parameters were lowered into these words, with these answers and these handles.
pub record IsReady (args : Arguments) (callee : Callee) (entry mid : Moment) (words : List ℕ) (answers : List Answer) (given : List ℕ) : Type 0 where
  pub start : IsStart args callee entry answers given words mid.bytes
  pub marks : mid.guest.marks ≡ entry.guest.marks ++ marks_of answers
  pub quiet : AsksByTypes callee.params done answers None
  pub requested : (ts : Trees) → args.are ts → MetAll (params_requests false (host_asks callee.encoding) callee.params ts) answers

module _ (args : Arguments) (callee : Callee) (entry mid : Moment) (words : List ℕ) where
  pub call_ready : {handles : List ℕ} (low : LowersArgs false (bare entry) (bare mid) (host_texts callee.encoding) callee.params args.are words handles done) → length words ≡ words_within max_params callee.params
      → AsksByTypes callee.params done low.answers low.trap → args.small → IsReady args callee entry mid words low.answers handles
  call_ready low count quiet small = record {
    start = record {
      trees = low.shown.it;
      have = low.shown.is;
      handles = low.shown.handles;
      small = small;
      represented = λ lawful. blocks_are_read.values low.fresh max_params true callee.encoding (narrow mid.bytes) words callee.params low.shown.it (low.shown.rep lawful (inl (λ i h. absurd h)));
      homes = subst (λ xs. ParamsHome AnyPointer (host_texts callee.encoding) false words callee.params low.shown.it xs []) (append-nil (addresses_of low.answers)) (low.shown.homes []);
      memory_homes =
          λ lawful. subst (λ xs. ParamsHome (PointsTo (narrow mid.bytes)) (host_texts callee.encoding) false words callee.params low.shown.it xs []) (append-nil (addresses_of low.answers))
          (low.shown.memory_homes lawful (inl (λ i h. absurd h)) []);
      no_shorter = low.lowering.goes.no_shorter;
      count = count;
      good = low.lowering.accepted;
      frame = λ tidy i h out. low.lowering.tidy tt tidy i h (λ q. q) out;
      kept = λ lawful i h. (low.lowering.lawful tt lawful).kept i h (λ q. q);
    };
    marks = low.lowering.goes.marks;
    quiet = subst (λ o. AsksByTypes callee.params done low.answers o) low.lowering.cause quiet;
    requested = λ ts have last. subst (λ o. Meets last (params_requests false (host_asks callee.encoding) callee.params ts) low.answers o []) low.lowering.cause
        (subst (λ rs. Meets last (params_requests false (host_asks callee.encoding) callee.params ts) low.answers low.trap rs) (low.requested ts have).all ((low.requested ts have).met last));
  }

-- ---- the guest was to be started

ask_cause_after : (callee : Callee) (limits : Limits) (entry mid after : Moment) (xs ys tail : List Event) (e : Error) → asks_in (xs ++ ys) ≡ asks_in ys → entry.guest.traps ≤ mid.guest.traps
    → AskCause callee limits mid after ys tail e → AskCause callee limits entry after (xs ++ ys) tail e
ask_cause_after callee limits entry mid after xs ys tail error.TurnsExhausted none g h = (h.0, none ∙ h.1)
ask_cause_after callee limits entry mid after xs ys tail (error.UnknownImport n) none g h = h
ask_cause_after callee limits entry mid after xs ys tail error.WrongWords none g h = h
ask_cause_after callee limits entry mid after xs ys tail (error.ImportFault n f) none g h = (h.0, λ trapped. let w = h.1 trapped in (omega (arith, g, w.0), ends_after IsTrap xs ys w.1))
ask_cause_after callee limits entry mid after xs ys tail (error.HostRefused n) none g h = h
ask_cause_after callee limits entry mid after xs ys tail e none g h = absurd h

cause_after : {R : Type 0} (args : Arguments) (its : ReturnedValues R) (callee : Callee) (limits : Limits) (entry mid after : Moment) (xs ys tail : List Event) (e : Error)
    → asks_in (xs ++ ys) ≡ asks_in ys → entry.guest.traps ≤ mid.guest.traps
    → RestCause its callee limits mid after ys tail e → Cause args its callee limits entry after (xs ++ ys) tail e
cause_after args its callee limits entry mid after xs ys tail error.WrongWords none g (inl h) = inl (ends_after _ xs ys h)
cause_after args its callee limits entry mid after xs ys tail error.WrongWords none g (inr h) = inr (ask_cause_after callee limits entry mid after xs ys tail error.WrongWords none g h)
cause_after args its callee limits entry mid after xs ys tail (error.Fault fault.GuestTrap) none g h = (omega (arith, h.0), ends_after IsTrap xs ys h.1)
cause_after args its callee limits entry mid after xs ys tail (error.Fault (fault.PointerMisaligned at)) none g h = ends_after _ xs ys h
cause_after args its callee limits entry mid after xs ys tail (error.Fault (fault.PointerOutOfBounds at)) none g h = ends_after _ xs ys h
cause_after args its callee limits entry mid after xs ys tail (error.Fault (fault.InvalidUtf8 at)) none g h = ends_after _ xs ys h
cause_after args its callee limits entry mid after xs ys tail (error.Fault (fault.InvalidUtf16 at)) none g h = ends_after _ xs ys h
cause_after args its callee limits entry mid after xs ys tail (error.Fault (fault.InvalidChar at)) none g h = ends_after _ xs ys h
cause_after args its callee limits entry mid after xs ys tail (error.Fault (fault.BadDiscriminant at d)) none g h = ends_after _ xs ys h
cause_after args its callee limits entry mid after xs ys tail (error.Fault fault.HostcallFuelExhausted) none g h = ends_after _ xs ys h
cause_after args its callee limits entry mid after xs ys tail (error.Fault fault.OutOfMemory) none g h = tt
cause_after args its callee limits entry mid after xs ys tail (error.Fault (fault.Resource q)) none g h = (h.0, inr (ends_after _ xs ys h.1))
cause_after args its callee limits entry mid after xs ys tail (error.Fault f) none g h = absurd h
cause_after args its callee limits entry mid after xs ys tail e none g h = ask_cause_after callee limits entry mid after xs ys tail e none g h

-- good answers stay good in a longer memory
good_later : (m n : ℕ) (answers : List Answer) → m ≤ n → AllGood m answers → AllGood n answers
good_later m n [] le good = tt
good_later m n (x ∷ xs) le good = ((good.0.0, omega (arith, le, good.0.1)), good_later m n xs le good.1)

-- a call that was refused after its parameters were lowered accepted each answer
accepted_after : {R : Type 0} (its : ReturnedValues R) (callee : Callee) (limits : Limits) (mid after : Moment) (ys tail : List Event) (answers : List Answer) (e : Error) → RestCause its callee limits mid after ys tail e
    → AllGood (length after.bytes) answers → Accepted (lowering_ending {R = R} (Err e)) (length after.bytes) answers
accepted_after its callee limits mid after ys tail answers (error.Fault (fault.ReallocMisaligned a)) h good = absurd h
accepted_after its callee limits mid after ys tail answers (error.Fault (fault.ReallocOutOfBounds a)) h good = absurd h
accepted_after its callee limits mid after ys tail answers e h good = good

not_short : done ≡ short → ⊥
not_short e = cc

-- once the parameters were lowered, what was asked for stays so however the call ends
asks_started : (ms : Members) (e : Ending) (answers : List Answer) → AsksByTypes ms done answers None → AsksByTypes ms e answers None
asks_started ms e [] h = (h.0, λ far. absurd (not_short (h.1 far).0))
asks_started ms e (x ∷ answers) h = h

-- a fact for each start, of whatever words
each_start : (P : Type 0) → P → (events : List Event) → Each (OnStart (λ ws m. P)) events
each_start P p [] = tt
each_start P p (event.Start f ws m ∷ events) = (p, each_start P p events)
each_start P p (e ∷ events) = (tt, each_start P p events)

module _ {T R : Type 0} (args : Arguments) (its : ReturnedValues R) (gives : Giving T) (callee : Callee) (limits : Limits) (P Q : List Leg → List Event → Type 0) (Leaves : List ℕ → List ℕ → Type 0)
    (entry mid after : Moment) (l0 l1 l2 : HostSide T)
    (same : l1 ≡ record l0 { ledger = l1.ledger }) (words : List ℕ) (answers : List Answer) (given : List ℕ) (later : List Event) where
  abbrev call_first : List Event
  call_first = events_of answers None

  early : Each IsEarly call_first
  early = answers_early answers

  posted_after : (¬ Each IsNoPost later → Each (OnReturn (λ ws m. (left : ℕ) × (lifted : R) × its.are ws m limits.fuel left lifted)) later)
      → ¬ Each IsNoPost (call_first ++ later) → Each (OnReturn (λ ws m. (left : ℕ) × (lifted : R) × its.are ws m limits.fuel left lifted)) (call_first ++ later)
  posted_after told some = return_then _ call_first later early (told (λ none. some (post_then call_first later early none)))

  -- answers are no asks
  asks_later : asks_in (call_first ++ later) ≡ asks_in later
  asks_later = asks_answers answers None later

  at_most : (n m k : ℕ) → n ≡ m → m ≤ k → n ≤ k
  at_most n m k e h = omega (arith, e, h)

  -- what is accepted, from the start on
  accepts_rest : (turns : List AskTurn) (tail : List Event) → LeavesTake (enter l0.ledger) args.parts given l1.ledger → Accepts args its gives callee limits.fuel turns l0 tail
      → (served : HostSide T) → AreServed gives callee limits.fuel turns l1 served → AcceptsLater its gives callee limits.fuel served tail
  accepts_rest turns tail took (hs, lowered, takes, accepts) served serves =
      let lowered_is = (leaves_same (enter l0.ledger) l1.ledger lowered args.parts given hs took takes).1 in
      accepts served (subst (λ k. AreServed gives callee limits.fuel turns (record l0 { ledger = k }) served) lowered_is (subst (λ (k : HostSide T). AreServed gives callee limits.fuel turns k served) same serves))

  -- from the start on, said of the host that lowered the parameters
  after_turns : (turns : List AskTurn) (P : HostSide T → Type 0) → AfterTurns gives callee limits.fuel turns l1 P → AfterTurns gives callee limits.fuel turns (record l0 { ledger = l1.ledger }) P
  after_turns turns P h = subst (λ (k : HostSide T). AfterTurns gives callee limits.fuel turns k P) same h

  -- the marks of all answers
  all_marks : (more : List Answer) → mid.guest.marks ≡ entry.guest.marks ++ marks_of answers → after.guest.marks ≡ mid.guest.marks ++ marks_of more → after.guest.marks ≡ entry.guest.marks ++ marks_of (answers ++ more)
  all_marks more call_first second = second ∙ (ap (λ ms. ms ++ marks_of more) call_first ∙ (append_assoc entry.guest.marks (marks_of answers) (marks_of more) ∙ ap (λ ms. entry.guest.marks ++ ms) (sym (lowering_marks_append answers more))))

  pub joined : (more : List Answer) (answer : Result R Error) → (((xs : List Event) → P [] xs → Q [] (call_first ++ xs))
      × ((leg : Leg) (legs : List Leg) (xs : List Event) → P (leg ∷ legs) xs → Q (record { events = call_first ++ leg.events; live = leg.live } ∷ legs) xs))
      → IsReady args callee entry mid words answers given → LeavesTake (enter l0.ledger) args.parts given l1.ledger → Advances entry mid → Advances mid after
      → after.guest.marks ≡ mid.guest.marks ++ marks_of more → IsRest its gives callee limits P Leaves words mid after l1 l2 answer more later
      → IsCallOf args its Q Leaves gives callee limits entry after l0 l2 answer (events_of answers None ++ later)
  joined more (Ok results) earlier low took goes on marks rest = record {
    one_run = run_after callee.func callee.post (events_of answers None) later (answers_are answers) rest.one_run;
    prefix = prefix_after callee.func callee.post (length entry.bytes) (events_of answers None) later (answers_are answers) (rest.prefix (length entry.bytes));
    advances = advances_then entry mid after goes on;
    grows = grows_answers (length entry.bytes) (length after.bytes) answers later (grows_from (length entry.bytes) (length mid.bytes) (length after.bytes) later goes.no_shorter rest.grows);
    answers = answers;
    trap = None;
    later = later;
    in_parts = refl;
    turns = rest.turns;
    late_guest = rest.late_guest;
    late_counts = counts_earlier entry mid after rest.late_guest goes rest.late_counts;
    late = rest.late;
    late_trap = rest.late_trap;
    tail = rest.tail;
    starts = rest.starts;
    lived = let (ends, goes) = earlier in asks_after P Q call_first ends goes rest.turns (living rest.late_guest) rest.tail later rest.lived;
    asks = λ none. at_most (asks_in (call_first ++ later)) (asks_in later) limits.turns asks_later (rest.asks (λ is. not_ok results error.TurnsExhausted is));
    accepted = good_later (length mid.bytes) (length after.bytes) answers on.no_shorter low.start.good;
    marks = all_marks more low.marks marks ∙ ap (λ xs. entry.guest.marks ++ marks_of (answers ++ xs)) rest.answers_are;
    requested = λ ts have. record { left = []; met = low.requested ts have; all = each_start ([] ≡ []) refl later };
    quiet = low.quiet;
    given = given;
    handles = (l1.ledger, took, after_turns rest.turns _ rest.handles);
    start = each_then _ call_first later (each_answer _ (λ c a. tt) (λ c n. tt) answers None) (on_start words mid.bytes _ low.start later rest.start);
    only_results = return_then _ call_first later early rest.only_results;
    posted = posted_after rest.posted;
    leaves = return_then _ call_first later early rest.leaves;
    unstarted = λ other none calm. absurd (rest.started other (each_after _ call_first later none));
    returned = λ other none. return_then _ call_first later early (rest.returned other (each_after _ call_first later none));
    cause = tt;
    valid = λ ts have small lawful none calm quiet right accepted. tt;
  }
  joined more (Err e) earlier low took goes on marks rest = record {
    one_run = tt;
    prefix = prefix_after callee.func callee.post (length entry.bytes) (events_of answers None) later (answers_are answers) (rest.prefix (length entry.bytes));
    advances = advances_then entry mid after goes on;
    grows = grows_answers (length entry.bytes) (length after.bytes) answers later (grows_from (length entry.bytes) (length mid.bytes) (length after.bytes) later goes.no_shorter rest.grows);
    answers = answers;
    trap = None;
    later = later;
    in_parts = refl;
    turns = rest.turns;
    late_guest = rest.late_guest;
    late_counts = counts_earlier entry mid after rest.late_guest goes rest.late_counts;
    late = rest.late;
    late_trap = rest.late_trap;
    tail = rest.tail;
    starts = rest.starts;
    lived = let (ends, goes) = earlier in asks_after P Q call_first ends goes rest.turns (living rest.late_guest) rest.tail later rest.lived;
    asks = λ none. at_most (asks_in (call_first ++ later)) (asks_in later) limits.turns asks_later (rest.asks (λ is. none (ap Err (err_same {T = R} e error.TurnsExhausted is))));
    accepted = accepted_after its callee limits mid after later rest.tail answers e rest.cause (good_later (length mid.bytes) (length after.bytes) answers on.no_shorter low.start.good);
    marks = all_marks more low.marks marks ∙ ap (λ xs. entry.guest.marks ++ marks_of (answers ++ xs)) rest.answers_are;
    requested = λ ts have. record { left = []; met = low.requested ts have; all = each_start ([] ≡ []) refl later };
    quiet = asks_started callee.params (lowering_ending {R = R} (Err e)) answers low.quiet;
    given = given;
    handles = inr (inr (l1.ledger, took, after_turns rest.turns _ rest.handles));
    start = each_then _ call_first later (each_answer _ (λ c a. tt) (λ c n. tt) answers None) (on_start words mid.bytes _ low.start later rest.start);
    only_results = tt;
    posted = posted_after rest.posted;
    leaves = tt;
    unstarted = λ other none calm. absurd (rest.started other (each_after _ call_first later none));
    returned = λ other none. return_then _ call_first later early (rest.returned other (each_after _ call_first later none));
    cause = cause_after args its callee limits entry mid after (events_of answers None) later rest.tail e asks_later goes.traps_later rest.cause;
    valid = λ ts have small lawful none calm few right accepted. rest.valid (lawful_second answers rest.late lawful) none (λ h. calm (ends_after IsTrap call_first later h))
        (at_most (asks_in later) (asks_in (call_first ++ later)) limits.turns (sym asks_later) few) (each_after _ call_first later right) (accepts_rest rest.turns rest.tail took accepted);
  }
