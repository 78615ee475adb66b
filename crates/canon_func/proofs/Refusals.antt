-- What a call did whose parameters weren't lowered.
use Rattle.std.proofs.Common.{Err, inl, inr, List, None, Option, Some, [], ap, arith, length, refl, subst, sym, ℕ, ◌++◌, ◌%◌, ◌+◌, ◌∷◌, ◌∙◌, ◌≡◌, ◌≤◌}
use Rattle.std.specs.Prelude.{false, slice_index}
use Rattle.std.proofs.lemmas.List.{append-nil}
use Rattle.canon_model.specs.Homes.{host_texts}
use Rattle.canon_model.specs.Requests.{Call, Request, host_asks, params_requests}
use Rattle.canon_model.specs.Tree.{Trees}
use Rattle.canon_memory.specs.declared.event.Event.{Event}
use Rattle.canon_memory.specs.Guest.{Moment, Seen}
use Rattle.canon_ledger.specs.Ledger.{enter}
use Rattle.canon_ledger.specs.declared.fault.ResourceFault.{ResourceFault}
use Rattle.canon_ledger.specs.declared.fault.ResourceFault.TheVariants as resource
use Rattle.canon_resources.specs.Parts.{LeavesStop, refusal_of}
use Rattle.canon_lowering.specs.Attempt.{LowersArgs}
use Rattle.canon_lowering.specs.Lowering.{Accepted, AllLawful, Answer, BeginsWith, Calm, CauseOf, Ending, Meets, Trap, done, refused, short, events_of, marks_of}
use Rattle.canon_passing.specs.Passed.{told_fault}
use Rattle.canon_context.specs.Faults.{stop_of}
use Rattle.canon_context.specs.Lowers.{fault_ending}
use Rattle.canon_context.specs.declared.fault.Fault.{Fault}
use Rattle.canon_context.specs.declared.fault.Fault.TheVariants as fault
use Rattle.canon_host.specs.HostSide.{Giving, HostSide}
use Rattle.canon_func.specs.Asks.{Limits}
use Rattle.canon_func.specs.Call.{Accepts, Advances, AsksByTypes, FaultCause, HandlesPassOf, IsCallOf, KeepsLive, Stands}
use Rattle.canon_func.specs.Passing.{Arguments, ReturnedValues}
use Rattle.canon_func.specs.Runs.{Each, EndsIn, IsNoPost, IsNoStart, IsTrap, Leg, asks_in}
use Rattle.canon_func.specs.Steps.{EndsFor, TrapsLate}
use Rattle.canon_func.specs.Stores.{Callee}
use Rattle.canon_func.specs.declared.error.Error.TheVariants as error
use Rattle.canon_func.proofs.Turns.{counts_first, goes_advance}
use Rattle.canon_resources.proofs.Leaves.{leaves_excluded}
use Rattle.canon_func.specs.Passed.{BlamesRightly, Unfit}
use Rattle.canon_func.proofs.Prefixes.{asks_answers, each_answer, ends_in_answer, ends_in_trap, grows_request, last_lawful, none_trapped, prefix_requests}
use Rattle.canon_lowering.specs.Stages.{bare}

-- where no count rose, none did however it ended
pub calm_so : (e : Ending) (before after : Seen) → Calm refused before after → Calm e before after
calm_so done before after h = tt
calm_so e before after h = h

refused_not_short : refused ≡ short → ⊥
refused_not_short e = cc

-- where a refused lowering asked for the block first, so did one that memory ended
begins_short : (c : Call) (answers : List Answer) (trap : Option Trap) → BeginsWith c refused answers trap → BeginsWith c short answers trap
begins_short c [] None h = absurd (refused_not_short h)
begins_short c [] (Some t) h = h
begins_short c (x ∷ answers) trap h = h

-- why a lowering was refused, and that a valid call isn't
record Refused {T R : Type 0} (args : Arguments) (its : ReturnedValues R) (gives : Giving T) (callee : Callee) (limits : Limits) (entry after : Moment) (before : HostSide T) (events : List Event) (answers : List Answer)
    (trap : Option Trap) (f : Fault) : Type 0 where
  late : TrapsLate (length entry.bytes) trap
  accepted : Accepted (fault_ending f) (length after.bytes) answers
  cause : FaultCause args its callee limits.fuel entry after events f
  valid : (ts : Trees) → args.are ts → args.small → AllLawful answers → ¬ EndsIn IsTrap events → Accepts args its gives callee limits.fuel [] before [] → f ≡ fault.OutOfMemory

module _ {T R : Type 0} (args : Arguments) (its : ReturnedValues R) (gives : Giving T) (callee : Callee) (limits : Limits) (Lives : List Leg → List Event → Type 0) (Leaves : List ℕ → List ℕ → Type 0)
    (entry after : Moment) (before left : HostSide T) where
  no_asks : (answers : List Answer) (trap : Option Trap) → asks_in (events_of answers trap) ≤ limits.turns
  no_asks answers trap =
      let none : asks_in (events_of answers trap) ≡ 0 = ap asks_in (sym (append-nil (events_of answers trap))) ∙ asks_answers answers trap [] in
      omega (arith, none)

  made : (f : Fault) (answers : List Answer) (trap : Option Trap) → Lives [] (events_of answers trap) → Advances entry after →
      (Calm refused entry.guest after.guest → Stands entry.bytes after.bytes answers × KeepsLive entry after.bytes answers) →
      AsksByTypes callee.params (fault_ending f) answers trap → after.guest.marks ≡ entry.guest.marks ++ marks_of answers
      → ((ts : Trees) → args.are ts → (left : List Request) × ((last : ℕ) → Meets last (params_requests false (host_asks callee.encoding) callee.params ts) answers trap left))
      → HandlesPassOf args its gives callee limits.fuel [] entry.guest after [] None before left [] (Err (error.Fault f)) (events_of answers trap) []
      → Refused args its gives callee limits entry after before (events_of answers trap) answers trap f → IsCallOf args its Lives Leaves gives callee limits entry after before left (Err (error.Fault f)) (events_of answers trap)
  made f answers trap moves advances stands quiet marks met handles because = record {
    one_run = tt;
    prefix = prefix_requests callee.func callee.post (length entry.bytes) answers trap because.late;
    advances = advances;
    grows = grows_request (length entry.bytes) (length after.bytes) answers trap because.late advances.no_shorter;
    answers = answers;
    trap = trap;
    later = [];
    in_parts = sym (append-nil (events_of answers trap));
    turns = [];
    late_guest = entry.guest;
    late_counts = counts_first entry after advances;
    late = [];
    late_trap = None;
    tail = [];
    starts = inl (refl, refl, refl, refl, refl);
    lived = (events_of answers trap, sym (append-nil (events_of answers trap)), subst (λ es. Lives [] es) (sym (append-nil (events_of answers trap))) moves);
    asks = λ none. no_asks answers trap;
    accepted = because.accepted;
    marks = marks ∙ ap (λ xs. entry.guest.marks ++ marks_of xs) (sym (append-nil answers));
    quiet = quiet;
    requested = λ ts have. record { left = (met ts have).0; met = (met ts have).1; all = tt };
    given = [];
    handles = handles;
    start = each_answer _ (λ c a. tt) (λ c n. tt) answers trap;
    only_results = tt;
    posted = λ some. absurd (some (each_answer IsNoPost (λ c a. tt) (λ c n. tt) answers trap));
    leaves = tt;
    unstarted = λ other none. stands;
    returned = λ other none. each_answer _ (λ c a. tt) (λ c n. tt) answers trap;
    cause = because.cause;
    valid = λ ts have small lawful none calm quiet right accepted. ap error.Fault (because.valid ts have small (subst AllLawful (append-nil answers) lawful) calm accepted);
  }

  -- memory ran out before a request
  pub short_call : Lives [] [] → after ≡ entry → HandlesPassOf args its gives callee limits.fuel [] entry.guest after [] None before left [] (Err (error.Fault fault.OutOfMemory)) [] []
      → IsCallOf args its Lives Leaves gives callee limits entry after before left (Err (error.Fault fault.OutOfMemory)) []
  short_call moves e handles =
      made fault.OutOfMemory [] None moves (subst (λ m. Advances entry m) (sym e) (record { no_shorter = omega arith; traps_later = omega arith; shortages_later = omega arith }))
      (λ calm. (λ tidy i h out. ap (λ m. slice_index m.bytes i) e, λ lawful i h. ap (λ m. slice_index m.bytes i) e)) (λ near none. (refl, refl), λ far. (refl, λ none. tt))
      (ap (λ m. m.guest.marks) e ∙ sym (append-nil entry.guest.marks))
      (λ ts have. (params_requests false (host_asks callee.encoding) callee.params ts, λ last. refl)) handles
      (record { late = tt; accepted = tt; cause = tt; valid = λ ts have small lawful calm accepted. refl })

module _ {T R : Type 0} (args : Arguments) (its : ReturnedValues R) (gives : Giving T) (callee : Callee) (limits : Limits) (Lives : List Leg → List Event → Type 0) (Leaves : List ℕ → List ℕ → Type 0)
    (law : BlamesRightly args) (entry after : Moment) (before left : HostSide T) where
  abbrev RefusalLow : List ℕ → List ℕ → Ending → Type 0
  RefusalLow words handles ending = LowersArgs false (bare entry) (bare after) (host_texts callee.encoding) callee.params args.are words handles ending

  abbrev Why : (f : Fault) (ending : Ending) (words handles : List ℕ) → RefusalLow words handles ending → Type 0
  Why f ending words handles low = Refused args its gives callee limits entry after before (events_of low.answers low.trap) low.answers low.trap f

  -- no request trapped, and the value is to blame
  blamed : (f : Fault) (answers : List Answer) (trap : Option Trap) → trap ≡ None → Accepted (fault_ending f) (length after.bytes) answers → Unfit args → FaultCause args its callee limits.fuel entry after (events_of answers trap) f
      → Refused args its gives callee limits entry after before (events_of answers trap) answers trap f
  blamed f answers trap none accepted unlike cause = record {
    late = subst (λ o. TrapsLate (length entry.bytes) o) (sym none) tt;
    accepted = accepted;
    cause = cause;
    valid = λ ts have small lawful calm accepted. absurd (unlike ts have small);
  }

  none_started : (answers : List Answer) (trap : Option Trap) → Each IsNoStart (events_of answers trap)
  none_started answers trap = each_answer IsNoStart (λ c a. tt) (λ c n. tt) answers trap

  -- memory ran out, in the guest or in the ledger
  short_by : (ending : Ending) (words handles : List ℕ) (low : RefusalLow words handles ending) → low.trap ≡ None → Accepted short (length after.bytes) low.answers → Why fault.OutOfMemory ending words handles low
  short_by ending words handles low none accepted = record {
    late = subst (λ o. TrapsLate (length entry.bytes) o) (sym none) tt;
    accepted = accepted;
    cause = tt;
    valid = λ ts have small lawful calm accepts. refl;
  }

  -- the ledger refused a handle
  ledger_by : (r : ResourceFault) (answers : List Answer) (trap : Option Trap) → trap ≡ None → Accepted refused (length after.bytes) answers → refusal_of r ≡ Some r → LeavesStop (refusal_of r) (enter before.ledger) args.parts left.ledger
      → Refused args its gives callee limits entry after before (events_of answers trap) answers trap (fault.Resource r)
  ledger_by r answers trap none accepted told stops = record {
    late = subst (λ o. TrapsLate (length entry.bytes) o) (sym none) tt;
    accepted = accepted;
    cause = (told, inl (none_started answers trap, none_trapped answers trap none));
    valid = λ ts have small lawful calm accepts. absurd (leaves_excluded r (enter before.ledger) left.ledger accepts.1 args.parts accepts.0 (subst (λ why. LeavesStop why (enter before.ledger) args.parts left.ledger) told stops) accepts.2);
  }

  -- the value is to blame
  value_by : (f : Fault) (words handles : List ℕ) (low : RefusalLow words handles refused) → fault_ending f ≡ refused → Unfit args
      → (Each IsNoStart (events_of low.answers low.trap) → ¬ EndsIn IsTrap (events_of low.answers low.trap) → FaultCause args its callee limits.fuel entry after (events_of low.answers low.trap) f) → Why f refused words handles low
  value_by f words handles low e unfit cause =
      blamed f low.answers low.trap low.lowering.cause (subst (λ end. Accepted end (length after.bytes) low.answers) (sym e) low.lowering.accepted) unfit
      (cause (none_started low.answers low.trap) (none_trapped low.answers low.trap low.lowering.cause))

  -- how a lowering ended that was refused for a fault of its own
  refused_by : (f : Fault) (words handles : List ℕ) (low : RefusalLow words handles (fault_ending f)) → args.blames f → told_fault f ≡ f → LeavesStop (stop_of f) (enter before.ledger) args.parts left.ledger
      → Why f (fault_ending f) words handles low
  refused_by (fault.TypeMismatch k) words handles low blames told stops = value_by (fault.TypeMismatch k) words handles low refl (law (fault.TypeMismatch k) blames) (λ unstarted calm. (unstarted, calm, blames))
  refused_by (fault.FieldName k) words handles low blames told stops = value_by (fault.FieldName k) words handles low refl (law (fault.FieldName k) blames) (λ unstarted calm. (unstarted, calm, blames))
  refused_by (fault.UnknownCase k) words handles low blames told stops = value_by (fault.UnknownCase k) words handles low refl (law (fault.UnknownCase k) blames) (λ unstarted calm. (unstarted, calm, blames))
  refused_by (fault.UnknownFlag k) words handles low blames told stops = value_by (fault.UnknownFlag k) words handles low refl (law (fault.UnknownFlag k) blames) (λ unstarted calm. (unstarted, calm, blames))
  refused_by (fault.PayloadExpected k) words handles low blames told stops = value_by (fault.PayloadExpected k) words handles low refl (law (fault.PayloadExpected k) blames) (λ unstarted calm. (unstarted, calm, blames))
  refused_by (fault.PayloadNotExpected k) words handles low blames told stops = value_by (fault.PayloadNotExpected k) words handles low refl (law (fault.PayloadNotExpected k) blames) (λ unstarted calm. (unstarted, calm, blames))
  refused_by (fault.LengthMismatch k) words handles low blames told stops = value_by (fault.LengthMismatch k) words handles low refl (law (fault.LengthMismatch k) blames) (λ unstarted calm. (unstarted, calm, blames))
  refused_by (fault.StringTooLong n) words handles low blames told stops = value_by (fault.StringTooLong n) words handles low refl (law (fault.StringTooLong n) blames) (λ unstarted calm. (unstarted, calm, blames))
  refused_by (fault.SizeOverflow n) words handles low blames told stops = value_by (fault.SizeOverflow n) words handles low refl (law (fault.SizeOverflow n) blames) (λ unstarted calm. (unstarted, calm, blames))
  refused_by (fault.ReallocMisaligned a) words handles low blames told stops = record {
    late = subst (λ o. TrapsLate (length entry.bytes) o) (sym low.lowering.cause.0) tt;
    accepted = low.lowering.accepted;
    cause = (
      none_started low.answers low.trap,
      ends_in_answer (λ c answer. (answer ≡ a) × ¬ (a % c.align ≡ 0)) low.answers low.trap a _ low.lowering.cause.0 (λ x is bad. (is, λ q. bad.0 (subst (λ n. n % x.call.align ≡ 0) (sym is) q))) low.lowering.cause.1,
    );
    valid = λ ts have small lawful calm accepted. absurd (last_lawful low.answers a _ (λ x bad. bad.1) low.lowering.cause.1 lawful);
  }
  refused_by (fault.ReallocOutOfBounds a) words handles low blames told stops = record {
    late = subst (λ o. TrapsLate (length entry.bytes) o) (sym low.lowering.cause.0) tt;
    accepted = low.lowering.accepted;
    cause = (
      none_started low.answers low.trap,
      ends_in_answer (λ c answer. (answer ≡ a) × (a % c.align ≡ 0) × ¬ (a + c.new_size ≤ length after.bytes)) low.answers low.trap a _ low.lowering.cause.0
          (λ x is bad. (is, subst (λ n. n % x.call.align ≡ 0) is bad.0, λ q. bad.1 (subst (λ n. n + x.call.new_size ≤ length after.bytes) (sym is) q))) low.lowering.cause.1,
    );
    valid = λ ts have small lawful calm accepted. absurd (last_lawful low.answers a _ (λ x bad. bad.2) low.lowering.cause.1 lawful);
  }
  refused_by fault.GuestTrap words handles low blames told stops =
      let (rose, (t, is, late)) = low.lowering.cause in
      record {
        late = subst (λ o. TrapsLate (length entry.bytes) o) (sym is) late;
        accepted = low.lowering.accepted;
        cause = (rose, subst (λ o. EndsIn IsTrap (events_of low.answers o)) (sym is) (ends_in_trap low.answers t));
        valid = λ ts have small lawful calm accepted. absurd (calm (subst (λ o. EndsIn IsTrap (events_of low.answers o)) (sym is) (ends_in_trap low.answers t)));
      }
  refused_by fault.OutOfMemory words handles low blames told stops = short_by short words handles low low.lowering.cause.0 low.lowering.accepted
  refused_by (fault.PointerMisaligned at) words handles low blames told stops = absurd (law (fault.PointerMisaligned at) blames)
  refused_by (fault.PointerOutOfBounds at) words handles low blames told stops = absurd (law (fault.PointerOutOfBounds at) blames)
  refused_by (fault.InvalidUtf8 at) words handles low blames told stops = absurd (law (fault.InvalidUtf8 at) blames)
  refused_by (fault.InvalidUtf16 at) words handles low blames told stops = absurd (law (fault.InvalidUtf16 at) blames)
  refused_by (fault.InvalidChar at) words handles low blames told stops = absurd (law (fault.InvalidChar at) blames)
  refused_by (fault.BadDiscriminant at d) words handles low blames told stops = absurd (law (fault.BadDiscriminant at d) blames)
  refused_by fault.HostcallFuelExhausted words handles low blames told stops = absurd (law fault.HostcallFuelExhausted blames)
  refused_by (fault.Resource resource.OutOfMemory) words handles low blames told stops = cc
  refused_by (fault.Resource r) words handles low blames told stops = ledger_by r low.answers low.trap low.lowering.cause low.lowering.accepted refl stops

  ended_by : (f : Fault) (ending : Ending) (words handles : List ℕ) (low : RefusalLow words handles ending) → ending ≡ fault_ending f → args.blames f → told_fault f ≡ f
      → LeavesStop (stop_of f) (enter before.ledger) args.parts left.ledger → Why f ending words handles low
  ended_by f ending words handles low is blames told stops =
      subst (λ end. (mine : RefusalLow words handles end) → Why f end words handles mine) (sym is) (λ mine. refused_by f words handles mine blames told stops) low

  -- however it ended
  refused_so : (f : Fault) (ending : Ending) (words handles : List ℕ) (low : RefusalLow words handles ending) → EndsFor f ending → args.blames f → told_fault f ≡ f
      → LeavesStop (stop_of f) (enter before.ledger) args.parts left.ledger → Why f ending words handles low
  refused_so fault.OutOfMemory ending words handles low (inl is) blames told stops =
      short_by ending words handles low (subst (λ end. CauseOf entry after low.answers low.trap end) is low.lowering.cause).0 (subst (λ end. Accepted end (length after.bytes) low.answers) is low.lowering.accepted)
  refused_so fault.OutOfMemory ending words handles low (inr is) blames told stops =
      short_by ending words handles low (subst (λ end. CauseOf entry after low.answers low.trap end) is low.lowering.cause) (subst (λ end. Accepted end (length after.bytes) low.answers) is low.lowering.accepted)
  refused_so f ending words handles low is blames told stops = ended_by f ending words handles low is blames told stops

  asks_short : (answers : List Answer) (trap : Option Trap) → AsksByTypes callee.params refused answers trap → AsksByTypes callee.params short answers trap
  asks_short answers trap h = (h.0, λ far. (begins_short _ answers trap (h.1 far).0, (h.1 far).1))

  -- what it asked for by its types alone
  asks_as : (f : Fault) (ending : Ending) (answers : List Answer) (trap : Option Trap) → EndsFor f ending → AsksByTypes callee.params ending answers trap → AsksByTypes callee.params (fault_ending f) answers trap
  asks_as fault.OutOfMemory ending answers trap (inl is) h = subst (λ end. AsksByTypes callee.params end answers trap) is h
  asks_as fault.OutOfMemory ending answers trap (inr is) h = asks_short answers trap (subst (λ end. AsksByTypes callee.params end answers trap) is h)
  asks_as f ending answers trap is h = subst (λ end. AsksByTypes callee.params end answers trap) is h

  pub refused_call : left ≡ record before { ledger = left.ledger } → (f : Fault) (ending : Ending) (words handles : List ℕ) (low : RefusalLow words handles ending)
      → Lives [] (events_of low.answers low.trap) → EndsFor f ending → args.blames f → told_fault f ≡ f
      → AsksByTypes callee.params ending low.answers low.trap → LeavesStop (stop_of f) (enter before.ledger) args.parts left.ledger
      → IsCallOf args its Lives Leaves gives callee limits entry after before left (Err (error.Fault f)) (events_of low.answers low.trap)
  refused_call kept f ending words handles low moves is blames told quiet stops =
      made args its gives callee limits Lives Leaves entry after before left f low.answers low.trap moves (goes_advance entry after _ _ low.lowering.goes)
      (λ calm. (
        λ tidy i h out. low.lowering.tidy (calm_so ending entry.guest after.guest calm) tidy i h (λ q. q) out,
        λ lawful i h. (low.lowering.lawful (calm_so ending entry.guest after.guest calm) lawful).kept i h (λ q. q),
      )) (asks_as f ending low.answers low.trap is quiet) low.lowering.goes.marks
      (λ ts have. ((low.requested ts have).rest, (low.requested ts have).met))
      (inr (inl (none_started low.answers low.trap, stops, kept))) (refused_so f ending words handles low is blames told stops)
