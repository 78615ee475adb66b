-- The record of a call, from what the call ensures.
use Rattle.std.proofs.Common.{◌≡◌, ◌≢◌, ◌++◌, ◌∷◌, ◌∙◌, Bool, Err, List, None, Ok, Option, Result, Some, [], ap, drop, false, length, map, refl, subst, sym, true, true≢false, ℕ}
use Rattle.std.specs.Prelude.{IfSome, IsNone, OnErr, OnOk, Vec, is_err, unwrap_or}
use Rattle.std.specs.Vec.{with_items}
use Rattle.std.specs.declared.alloc.Global.{Global}
use Rattle.std.proofs.lemmas.List.{length-map, with_items_is}
use Rattle.std.proofs.lemmas.Option.{none-some}
use Rattle.canon_lowering.specs.Storing.{narrow}
use Rattle.canon_func.proofs.Legs.{asks_so, legs_as, legs_so}
use Rattle.canon_func.specs.Asks.{Limits}
use Rattle.canon_host.specs.HostSide.{Giving, HostSide, host_side}
use Rattle.canon_imports.specs.Imports.{GivesAnswers, entries_of}
use Rattle.canon_memory.specs.declared.event.Event.{Event}
use Rattle.canon_memory.specs.Guest.{GuestIn, JournaledMoves, Moment, Recorded, Seen, guest_in}
use Rattle.canon_scripted.specs.declared.actions.Action.{Action}
use Rattle.canon_scripted.specs.declared.orders.Ordered.{Ordered}
use Rattle.canon_scripted.specs.Allocator.{Allocator}
use Rattle.canon_scripted.specs.Scripted.{CarriesOut, Doing, Plan, ScriptMoves, seen_of, traps_after}
use Rattle.canon_context.specs.Core.{Parts, guest_of, moment_of}
use Rattle.canon_context.specs.declared.fault.Fault.TheVariants as fault
use Rattle.canon_val.specs.declared.val.Val.{Val}
use Rattle.canon_types.specs.Refusal.{first_error}
use Rattle.canon_func.specs.Call.{Adding, IsCall, IsCallOf, LivesUntil, OnAnswered, call_refusal, dynamic, dynamic_results, refused_by, with_results}
use Rattle.canon_func.specs.Runs.{Leg, living}
use Rattle.canon_func.specs.Passing.{Arguments, ReturnedValues}
use Rattle.canon_func.specs.Typed.{done_by}
use Rattle.canon_func.specs.Stores.{Callee, Named, callee_of}
use Rattle.canon_func.specs.declared.error.Error.{Error}
use Rattle.canon_func.specs.declared.error.Error.TheVariants as error
use Rattle.canon_resources.specs.Held.{Any}
use Rattle.canon_literals.specs.Literals.{listed_resource, literal_view, literals_view, replaced}
use Rattle.canon_script.specs.Script.{ScriptCall}
use Rattle.canon_transcript.specs.declared.transcript.Answer.{Answer}
use Rattle.canon_transcript.specs.declared.transcript.Answer.TheVariants as answer
use Rattle.canon_transcript.specs.declared.transcript.Head.TheVariants as head
use Rattle.canon_transcript.specs.declared.transcript.Record.{Record}
use Rattle.canon_player.specs.Session.{ActsBy, Called, Idle, IsEnd, LeavesSame, LivesBy, State, Tells, Themselves, WasItemCalled, answer_values, entry_view, living_of, host_side_of, answer_outcome, plan_of, plan_with, served_view}
use Rattle.canon_player.specs.Steps.{CallsOnce}
use Rattle.canon_player.specs.Session as session
use Rattle.canon_player.specs.Stores.{ScriptStore, answers_of, callee_at, limits_of, state_of, with_plan}
use Rattle.canon_player.proofs.Logged.{call_logged, none_served, served_logs}

-- ---- refusals

always_refused : (x y : Bool) → first_error ((x, error.WrongCount) ∷ (y, error.AsyncLifted) ∷ (true, error.CannotEnterComponent) ∷ []) ≡ None → ⊥
always_refused true y e = none-some error.WrongCount (sym e)
always_refused false true e = none-some error.AsyncLifted (sym e)
always_refused false false e = none-some error.CannotEnterComponent (sym e)

-- what isn't refused finds the store not trapped
not_trapped : (callee : Callee) (params results : ℕ) (trapped : Bool) → call_refusal callee params results trapped ≡ None → trapped ≡ false
not_trapped callee params results false e = refl
not_trapped callee params results true e = absurd (always_refused _ _ e)

error_in : Result (Unit {0}) Error → Error → Error
error_in (Ok x) other = other
error_in (Err e) other = e

pub answers_error : (a : Answer) (e : Error) → answer_outcome a ≡ Err e → a ≡ answer.Err e
unfolding error_in
answers_error (answer.Ok vals) e h = absurd (true≢false (sym (ap is_err h)))
answers_error answer.Typecheck e h = absurd (true≢false (sym (ap is_err h)))
answers_error answer.Skipped e h = absurd (true≢false (sym (ap is_err h)))
answers_error (answer.Err x) e h = ap (λ o. answer.Err (error_in o x)) h

-- ---- a call

-- it isn't out of memory
abbrev pub IsOtherItem : {R : Type 0} → Result R Error → Type 0
IsOtherItem {R} called = called ≢ Err (error.Fault fault.OutOfMemory)

pub on_answered : {R : Type 0} (called : Result R Error) (P : Type 0) → IsOtherItem called → OnAnswered called P → P
on_answered (Ok x) P n p = p
on_answered (Err (error.Fault fault.OutOfMemory)) P n p = absurd (n refl)
on_answered (Err e) P n p = p

trapped_by : {R : Type 0} (called : Result R Error) (before after : Bool) → before ≡ false → OnOk called (after ≡ before) → OnErr called (after ≡ true) → after ≡ is_err called
trapped_by (Ok x) before after free runs traps = runs ∙ free
trapped_by (Err e) before after free runs traps = traps

told_error : {R : Type 0} (Told : R → List Val → Type 0) (e : Error) (a : Answer) → Tells Told (Err e) a → a ≡ answer.Err e
told_error Told e (answer.Ok values) h = absurd h
told_error Told e (answer.Err f) h = ap answer.Err (sym h)
told_error Told e answer.Typecheck h = absurd h
told_error Told e answer.Skipped h = absurd h

-- how a journaled guest is seen
abbrev pub journaled : Recorded Doing → Seen
journaled j = record (seen_of j.guest) { journal = Some j.events; shortages = j.shortages }

-- by this the journaled guest of a store goes on
abbrev pub StoreMoves : GuestIn (Recorded Doing) → List Event → GuestIn (Recorded Doing) → Type 0
StoreMoves = JournaledMoves ScriptMoves

-- the guest of a store went from ask to ask, and on to that of the other
abbrev pub EnteredLives : {R : Type 0} → ScriptStore → ScriptStore → Result R Error → List Leg → List Event → Type 0
EnteredLives loaded left called = LivesUntil journaled StoreMoves (guest_of loaded.core) (guest_of left.core) called

-- what a store has beside its guest
abbrev pub side_of : ScriptStore → HostSide (Unit {0})
side_of s = host_side s.core (Some (entries_of s.imports.lines.items)) s.imports.refusals

-- ---- the blocks that lived

-- a call whose guest's way is said otherwise
lives_as : {T R : Type 0} (args : Arguments) (its : ReturnedValues R) (P Q : List Leg → List Event → Type 0) (Leaves : List ℕ → List ℕ → Type 0) (gives : Giving T) (callee : Callee) (limits : Limits)
    (before after : Moment) (host left : HostSide T)
    (called : Result R Error) (events : List Event) → ((legs : List Leg) (es : List Event) → P legs es → Q legs es) → IsCallOf args its P Leaves gives callee limits before after host left called events
    → IsCallOf args its Q Leaves gives callee limits before after host left called events
lives_as args its P Q Leaves gives callee limits before after host left called events f h = record {
  one_run = h.one_run;
  prefix = h.prefix;
  advances = h.advances;
  grows = h.grows;
  answers = h.answers;
  trap = h.trap;
  later = h.later;
  in_parts = h.in_parts;
  turns = h.turns;
  late_guest = h.late_guest;
  late_counts = h.late_counts;
  late = h.late;
  late_trap = h.late_trap;
  tail = h.tail;
  starts = h.starts;
  lived = asks_so P Q f h.turns (living h.late_guest) h.tail events h.lived;
  asks = h.asks;
  accepted = h.accepted;
  marks = h.marks;
  requested = h.requested;
  quiet = h.quiet;
  given = h.given;
  handles = h.handles;
  start = h.start;
  only_results = h.only_results;
  posted = h.posted;
  leaves = h.leaves;
  unstarted = h.unstarted;
  returned = h.returned;
  cause = h.cause;
  valid = h.valid;
}

-- what the call ensures once the guest was entered
abbrev pub Entered : {R : Type 0} → Arguments → ReturnedValues R → Callee → ScriptStore → ScriptStore → Result R Error → Type 0
Entered args its callee loaded left called = Adding (moment_of journaled loaded.core) (moment_of journaled left.core)
    (λ events. OnAnswered called (StoreMoves (guest_of loaded.core) events (guest_of left.core)))
    (λ events. IsCallOf args its (EnteredLives loaded left called) LeavesSame (GivesAnswers (answers_of loaded)) callee (limits_of loaded) (moment_of journaled loaded.core) (moment_of journaled left.core) (side_of loaded) (side_of left) called events)

-- what became of a call, where it was refused before the guest was entered or not
abbrev pub Became : {R : Type 0} → Arguments → ReturnedValues R → (R → List Val → Type 0) → Callee → (Allocator → Plan) → ScriptStore → ScriptStore → Record → Option Error → Type 0
Became args its Told callee plan s left r (Some e) = Idle (state_of s) (state_of left) r (answer.Err e)
Became args its Told callee plan s left r None = WasItemCalled args its Told callee (limits_of s) (answers_of s) plan (state_of s) (state_of left) r

-- There were so many lines before the call.
module _ {R : Type 0} (args : Arguments) (its : ReturnedValues R) (Told : R → List Val → Type 0) (callee : Callee) (guest : List Action) (reallocs : List Ordered) (post_trap : Bool)
    (r : Record) (s left : ScriptStore) (called : Result R Error) (asked : ℕ)
    (empty : s.core.guest.events ≡ []) (events : r.events ≡ left.core.guest.events) (told : Tells Told called r.answer) (short : IsOtherItem called)
    (lines : asked ≡ length s.imports.lines.items) (serves : map served_view r.served.items ≡ map entry_view (drop asked (entries_of left.imports.lines.items))) where
  abbrev plan : Allocator → Plan
  plan = plan_with guest reallocs post_trap

  abbrev pub loaded : ScriptStore
  loaded = with_plan s (plan s.core.guest.guest.plan.allocator)

  abbrev starts : GuestIn Plan
  starts = guest_in (plan s.core.guest.guest.plan.allocator) (narrow s.core.memory)

  abbrev player_ends : GuestIn Plan
  player_ends = guest_in left.core.guest.guest.plan (narrow left.core.memory)

  -- the guest acted by its plan from ask to ask
  lives_by : (legs : List Leg) (es : List Event) → EnteredLives loaded left called legs es → LivesBy starts player_ends legs es
  lives_by legs es h =
      legs_as StoreMoves ActsBy (λ j. living (journaled j.guest)) (λ g. living_of g.guest.allocator) (λ j rest. OnAnswered called (StoreMoves j rest (guest_of left.core))) (λ g rest. ActsBy g rest player_ends)
      (λ j. record { guest = j.guest.guest.plan; len = j.len; wide = false }) (λ j xs k moved. (moved.moves.new_marks, moved.moves.does)) (λ j. refl)
      (λ j xs moved. let did : StoreMoves j xs (guest_of left.core) = on_answered called _ short moved in (did.moves.new_marks, did.moves.does)) (guest_of loaded.core) legs es h

  -- the call, by the events before it, those that are printed after it, and the events that it added
  abbrev Calls : List Event → List Event → List Event → Type 0
  Calls earlier later added = IsCallOf args its (LivesBy starts player_ends) LeavesSame (GivesAnswers (answers_of s)) callee (limits_of s) (session.moment_with_events (state_of s) earlier) (session.moment_with_events (state_of left) later)
      (host_side_of (state_of s)) (host_side_of (state_of left)) called added

  was_called : s.trapped ≡ false → Entered args its callee loaded left called → OnOk called (left.trapped ≡ s.trapped) → OnErr called (left.trapped ≡ true)
      → WasItemCalled args its Told callee (limits_of s) (answers_of s) plan (state_of s) (state_of left) r
  was_called free entered runs traps =
      let before = state_of s in
      let after = state_of left in
      let gained : left.core.guest.events ≡ s.core.guest.events ++ entered.events = ap (λ o. unwrap_or o []) entered.added in
      let all : r.events ≡ entered.events = events ∙ (gained ∙ ap (λ (es : List Event). es ++ entered.events) empty) in
      let so : Calls s.core.guest.events left.core.guest.events entered.events =
      lives_as args its (EnteredLives loaded left called) (LivesBy starts player_ends) LeavesSame (GivesAnswers (answers_of s)) callee (limits_of s)
      (session.moment_with_events before s.core.guest.events) (session.moment_with_events after left.core.guest.events) (host_side_of before) (host_side_of after) called entered.events
      lives_by entered.so in
      let one : Calls [] left.core.guest.events entered.events = subst (λ (es : List Event). Calls es left.core.guest.events entered.events) empty so in
      let two : Calls [] r.events entered.events = subst (λ (es : List Event). Calls [] es entered.events) (sym events) one in
      let moved : StoreMoves (guest_of loaded.core) entered.events (guest_of left.core) = on_answered called _ short entered.moves in
      let did = moved.moves in
      record {
        ended = called;
        told = told;
        called = subst (λ (es : List Event). Calls [] r.events es) (sym all) two;
        served = served_logs s.imports.lines.items left.imports.lines.items r.served.items asked
            (call_logged args its (GivesAnswers (answers_of s)) callee s.core.fuel one.turns one.late_guest (session.moment_with_events (state_of left) left.core.guest.events) one.late one.late_trap
            (host_side_of before) (host_side_of after) one.given called entered.events one.tail before.log refl one.handles) lines serves;
        left = left.core.guest.guest.plan;
        new_marks = did.new_marks;
        does = subst (λ (es : List Event). CarriesOut (plan before.allocator) (length before.memory) es did.new_marks left.core.guest.guest.plan (length after.memory)) (sym all) did.does;
        allocator = refl;
        marks = did.marks;
        traps = subst (λ (es : List Event). after.traps ≡ traps_after before.traps es) (sym all) did.traps;
        shortages = moved.shortages;
        trapped = trapped_by called s.trapped left.trapped free runs traps;
        sufficed = short;
      }

  was_refused : (e : Error) → called ≡ Err e → left ≡ loaded → Idle (state_of s) (state_of left) r (answer.Err e)
  was_refused e h same = (
    told_error Told e r.answer (subst (λ (c : Result R Error). Tells Told c r.answer) h told),
    (
      events ∙ (ap (λ (k : ScriptStore). k.core.guest.events) same ∙ empty),
      none_served s.imports.lines.items r.served.items asked lines (subst (λ (k : ScriptStore). map served_view r.served.items ≡ map entry_view (drop asked (entries_of k.imports.lines.items))) same serves),
    ),
    ap state_of same,
  )

  -- by the reason of a refusal, where a call that has none finds the store not trapped
  module _ (why : Option Error) (free : why ≡ None → s.trapped ≡ false) where
    became : (c : Result R Error) → called ≡ c → refused_by (done_by c) ≡ why → IfSome (refused_by (done_by c)) (λ e. left ≡ loaded)
        → (IsNone (refused_by (done_by c)) → Entered args its callee loaded left called) → OnOk called (left.trapped ≡ s.trapped) → (IsNone (refused_by (done_by c)) → OnErr called (left.trapped ≡ true))
        → Became args its Told callee plan s left r (refused_by (done_by c))
    became (Ok x) h is same entered runs traps = was_called (free (sym is)) (entered refl) runs (traps refl)
    became (Err error.WrongCount) h is same entered runs traps = was_refused error.WrongCount h same
    became (Err error.AsyncLifted) h is same entered runs traps = was_refused error.AsyncLifted h same
    became (Err error.CannotEnterComponent) h is same entered runs traps = was_refused error.CannotEnterComponent h same
    became (Err error.WrongWords) h is same entered runs traps = was_called (free (sym is)) (entered refl) runs (traps refl)
    became (Err (error.UnknownImport n)) h is same entered runs traps = was_called (free (sym is)) (entered refl) runs (traps refl)
    became (Err error.TurnsExhausted) h is same entered runs traps = was_called (free (sym is)) (entered refl) runs (traps refl)
    became (Err (error.HostRefused n)) h is same entered runs traps = was_called (free (sym is)) (entered refl) runs (traps refl)
    became (Err (error.ImportFault n f)) h is same entered runs traps = was_called (free (sym is)) (entered refl) runs (traps refl)
    became (Err (error.Fault f)) h is same entered runs traps = was_called (free (sym is)) (entered refl) runs (traps refl)

    -- the store was loaded so before the call
    pub call_became : (before : ScriptStore) → before ≡ loaded → refused_by (done_by called) ≡ why → IfSome (refused_by (done_by called)) (λ e. left ≡ before)
        → (IsNone (refused_by (done_by called)) → Entered args its callee before left called) → OnOk called (left.trapped ≡ before.trapped) → (IsNone (refused_by (done_by called)) → OnErr called (left.trapped ≡ true))
        → Became args its Told callee plan s left r why
    call_became before is cause same entered runs traps =
        subst (λ o. Became args its Told callee plan s left r o) cause (became called refl cause
        (subst (λ (k : ScriptStore). IfSome (refused_by (done_by called)) (λ e. left ≡ k)) is same)
        (λ none. subst (λ (k : ScriptStore). Entered args its callee k left called) is (entered none))
        (subst (λ (k : ScriptStore). OnOk called (left.trapped ≡ k.trapped)) is runs)
        traps)

-- ---- a call with dynamic values

-- its answer with its results
done_with : (called : Result (Unit {0}) Error) (results : List Val) → done_by (with_results called results) ≡ called
done_with (Ok x) results = refl
done_with (Err e) results = refl

told_with : (called : Result (Unit {0}) Error) (results : List Val) (a : Answer) → answer_outcome a ≡ called → OnOk called (answer_values a ≡ results) → IsEnd a → Tells Themselves (with_results called results) a
unfolding error_in
told_with (Ok x) results (answer.Ok values) e h is = h
told_with (Ok x) results (answer.Err f) e h is = absurd (true≢false (ap is_err e))
told_with (Err f) results (answer.Ok values) e h is = absurd (true≢false (sym (ap is_err e)))
told_with (Err f) results (answer.Err g) e h is = sym (ap (λ o. error_in o f) e)
told_with called results answer.Typecheck e h is = absurd is
told_with called results answer.Skipped e h is = absurd is

other_with : (called : Result (Unit {0}) Error) (results : List Val) → IsOtherItem called → IsOtherItem (with_results called results)
other_with (Ok x) results n e = absurd (true≢false (sym (ap is_err e)))
other_with (Err f) results n e = n (ap done_by e)

on_ok_with : (called : Result (Unit {0}) Error) (results : List Val) (P : Type 0) → OnOk called P → OnOk (with_results called results) P
on_ok_with (Ok x) results P p = p
on_ok_with (Err e) results P p = tt

on_err_with : (called : Result (Unit {0}) Error) (results : List Val) (P : Type 0) → OnErr called P → OnErr (with_results called results) P
on_err_with (Ok x) results P p = tt
on_err_with (Err e) results P p = p

on_answered_with : (called : Result (Unit {0}) Error) (results : List Val) (P : Type 0) → OnAnswered called P → OnAnswered (with_results called results) P
on_answered_with (Ok x) results P p = p
on_answered_with (Err (error.Fault fault.OutOfMemory)) results P p = tt
on_answered_with (Err (error.Fault f)) results P p = p
on_answered_with (Err e) results P p = p

-- what a call of dynamic values ensures once the guest was entered
abbrev pub EnteredWith : Callee → List Val → ScriptStore → ScriptStore → Result (Unit {0}) Error → List Val → Type 0
EnteredWith callee params loaded left called results = Adding (moment_of journaled loaded.core) (moment_of journaled left.core)
    (λ events. OnAnswered called (StoreMoves (guest_of loaded.core) events (guest_of left.core)))
    (λ events. IsCall (EnteredLives loaded left called) LeavesSame (GivesAnswers (answers_of loaded)) callee (limits_of loaded) params (moment_of journaled loaded.core) (moment_of journaled left.core) (side_of loaded) (side_of left) called results events)

entered_with : (callee : Callee) (params : List Val) (before left : ScriptStore) (called : Result (Unit {0}) Error) (results : List Val) → EnteredWith callee params before left called results
    → Entered (dynamic callee params) (dynamic_results callee) callee before left (with_results called results)
entered_with callee params before left called results h = record {
  events = h.events;
  added = h.added;
  moves = on_answered_with called results _ h.moves;
  so = lives_as (dynamic callee params) (dynamic_results callee) (EnteredLives before left called) (EnteredLives before left (with_results called results)) LeavesSame (GivesAnswers (answers_of before)) callee (limits_of before)
      (moment_of journaled before.core) (moment_of journaled left.core) (side_of before) (side_of left) (with_results called results) h.events
      (legs_so StoreMoves (λ j. living (journaled j.guest)) (λ j rest. OnAnswered called (StoreMoves j rest (guest_of left.core))) (λ j rest. OnAnswered (with_results called results) (StoreMoves j rest (guest_of left.core)))
      (λ j es moved. on_answered_with called results _ moved) (guest_of before.core)) h.so;
}

-- results in a vector that was lent as a slice
kept_results : (called : Result (Unit {0}) Error) (v : Vec Val Global) (ws vs : List Val) → length ws ≡ v.len → OnOk called (vs ≡ (with_items v ws).items) → OnOk called (vs ≡ ws)
kept_results (Ok x) v ws vs e h = h ∙ with_items_is v ws e
kept_results (Err x) v ws vs e h = tt

-- the store with the guest loaded
pub loaded_is : (plan : Allocator → Plan) (s : ScriptStore) (core : Parts (Unit {0}) (Recorded Doing)) (told : Recorded Doing) (guest after : Doing) → core ≡ s.core → told ≡ core.guest → guest ≡ told.guest
    → after ≡ record guest { plan = plan guest.plan.allocator }
    → record { core = record core { guest = record told { guest = after } }; imports = s.imports; turns = s.turns; trapped = s.trapped } ≡ with_plan s (plan s.core.guest.guest.plan.allocator)
loaded_is plan s core told guest after a b c d = simp (d, c, b, a)

-- the store without its journal
pub taken_is : (left : ScriptStore) (core : Parts (Unit {0}) (Recorded Doing)) (told after : Recorded Doing) → core ≡ left.core → told ≡ core.guest → after ≡ record told { events = [] }
    → state_of (record { core = record core { guest = after }; imports = left.imports; turns = left.turns; trapped = left.trapped }) ≡ state_of left
taken_is left core told after a b c = simp (c, b, a)

-- The store is `s` before the guest is loaded, `before` when the function is called, `left` as the call leaves it, and `final` once
-- the journal is taken.
module _ (call : ScriptCall) (list : List Any) (r : Record) (s before left final : ScriptStore) (f : Named) (params results : List Val) (slots : Vec Val Global) (called : Result (Unit {0}) Error) (asked : ℕ) where
  with_params : (callee : Callee) (why : Option Error) → literals_view params ≡ map (replaced (listed_resource list)) call.params
      → Became (dynamic callee params) (dynamic_results callee) Themselves callee (plan_of call) s left r why → Called callee (limits_of s) (answers_of s) call list (state_of s) (state_of left) r why
  with_params callee (Some e) their h = h
  with_params callee None their h = record { params = params; params_are = their; called = h }

  pub player_record_is : s.core.guest.events ≡ [] → before ≡ with_plan s (plan_of call s.core.guest.guest.plan.allocator) → f.export ≡ call.func → state_of final ≡ state_of left
      → literals_view params ≡ map (replaced (listed_resource list)) call.params → length slots.items ≡ call.slots
      → refused_by called ≡ call_refusal (callee_of before f) (length params) (length slots.items) before.trapped → IfSome (refused_by called) (λ e. left ≡ before)
      → (IsNone (refused_by called) → EnteredWith (callee_of before f) params before left called results) → OnOk called (left.trapped ≡ before.trapped) → (IsNone (refused_by called) → OnErr called (left.trapped ≡ true))
      → r.head ≡ head.Call call.func → r.live ≡ left.core.ledger.handles.counter.live → r.events ≡ left.core.guest.events → answer_outcome r.answer ≡ called
      → length results ≡ slots.len → OnOk called (answer_values r.answer ≡ (with_items slots results).items) → IsOtherItem called → IsEnd r.answer
      → asked ≡ length s.imports.lines.items → map served_view r.served.items ≡ map entry_view (drop asked (entries_of left.imports.lines.items))
      → CallsOnce (callee_at s.core.component call.func) (limits_of s) (answers_of s) call list (state_of s) (state_of final) r
  player_record_is empty is export end their count why same entered runs traps hd lv events out many vals short ended lines serves =
      let callee = callee_at s.core.component call.func in
      let it : callee_of before f ≡ callee = ap (λ (k : ScriptStore). callee_of k f) is ∙ ap (λ n. callee_at s.core.component n) export in
      let many2 : length params ≡ length call.params = sym (length-map params literal_view) ∙ (ap length their ∙ length-map call.params (replaced (listed_resource list))) in
      let all = with_results called results in
      let done : refused_by (done_by all) ≡ refused_by called = ap refused_by (done_with called results) in
      let why2 : refused_by (done_by all) ≡ call_refusal callee (length call.params) call.slots s.trapped =
      done ∙ (why ∙ (ap (λ (c : Callee). call_refusal c (length params) (length slots.items) before.trapped) it ∙ (ap (λ n. call_refusal callee n (length slots.items) before.trapped) many2
      ∙ (ap (λ n. call_refusal callee (length call.params) n before.trapped) count ∙ ap (λ (k : ScriptStore). call_refusal callee (length call.params) call.slots k.trapped) is)))) in
      let undone : (IsNone (refused_by (done_by all))) → IsNone (refused_by called) = λ none. subst IsNone done none in
      let became : Became (dynamic callee params) (dynamic_results callee) Themselves callee (plan_of call) s left r (call_refusal callee (length call.params) call.slots s.trapped) =
      call_became (dynamic callee params) (dynamic_results callee) Themselves callee call.guest call.reallocs call.post_trap r s left all asked empty events
      (told_with called results r.answer out (kept_results called slots results (answer_values r.answer) many vals) ended) (other_with called results short) lines serves
      (call_refusal callee (length call.params) call.slots s.trapped) (not_trapped callee (length call.params) call.slots s.trapped) before is why2
      (subst (λ o. IfSome o (λ e. left ≡ before)) (sym done) same)
      (λ none. entered_with callee params before left called results (subst (λ (c : Callee). EnteredWith c params before left called results) it (entered (undone none))))
      (on_ok_with called results _ runs)
      (λ none. on_err_with called results _ (traps (undone none))) in
      subst (λ (k : State). CallsOnce callee (limits_of s) (answers_of s) call list (state_of s) k r) (sym end)
      (record { head = hd; called = with_params callee (call_refusal callee (length call.params) call.slots s.trapped) their became; live = lv })
