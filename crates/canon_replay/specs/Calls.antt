-- Recorded calls that are made again, one after another.
use Rattle.std.specs.Prelude.{Bool, Err, IfSome, IsSome, List, None, Ok, Option, Result, Some, Vec, [], false, flat_map, length, map, slice_get, take, true, ℕ, ⊤, ◌+◌, ◌<◌, ◌^◌, ◌∷◌, ◌≡◌, ◌≢◌, ◌≤◌, ◌⊎◌}
use Rattle.std.specs.declared.alloc.Global.{Global}
use Rattle.canon_model.specs.Shape.{Shape, of_places, product}
use Rattle.canon_types.specs.Table.{TypeTable, no_shape, shape_of, types_of}
use Rattle.canon_types.specs.declared.types.InterfaceType.TheVariants as ty
use Rattle.canon_types.specs.declared.types.TypeFunc.{TypeFunc}
use Rattle.canon_memory.specs.declared.event.Event.{Event}
use Rattle.canon_replay_guest.specs.Fitting.{CanReplayFrom}
use Rattle.canon_replay_guest.specs.Following.{IsBefore, Leaves}
use Rattle.canon_replay_guest.specs.Passing.{AreAlike}
use Rattle.canon_replay_guest.specs.Replaying.{call_events}
use Rattle.canon_replay_guest.specs.declared.stop.Stop.{Stop}
use Rattle.canon_replay_guest.specs.declared.stop.Stop.TheVariants as stop
use Rattle.canon_context.specs.Core.{component_types, guest_of, moment_of}
use Rattle.canon_context.specs.declared.component.Component.{Component}
use Rattle.canon_context.specs.declared.fault.Fault.TheVariants as fault
use Rattle.canon_val.specs.declared.val.Val.{Val}
use Rattle.canon_val.specs.declared.val.Val.TheVariants as val
use Rattle.canon_image_parts.specs.Written.{IsImaged}
use Rattle.canon_host.specs.HostSide.{HostSide, host_side}
use Rattle.canon_imports.specs.Imports.{entries_of}
use Rattle.canon_func.specs.Asks.{allowed}
use Rattle.canon_func.specs.Call.{IsCall, LivesUntil, OnAnswered, call_refusal, entry_refusal}
use Rattle.canon_func.specs.Steps.{SameButHost}
use Rattle.canon_func.specs.Stores.{Named, callee_in, callee_of, type_in, type_of}
use Rattle.canon_func.specs.declared.error.Error.{Error}
use Rattle.canon_func.specs.declared.error.Error.TheVariants as call_error
use Rattle.canon_recording_parts.specs.declared.error.ReplayError.{ReplayError}
use Rattle.canon_recording_parts.specs.declared.error.ReplayError.TheVariants as error
use Rattle.canon_recording.specs.Recordings.{RecordedCall, ServedAsk}
use Rattle.canon_replay.specs.Imports.{GivesNext}
use Rattle.canon_replay.specs.Outcomes.{has_passed, outcome_at}
use Rattle.canon_replay.specs.Stores.{IsNewStore, JournaledReplays, ReplayStore, asks_in_store, guest_in_store, journaled_seen, named_export}
use Rattle.canon_replay.specs.declared.again.Again.{Again}
use Rattle.canon_replay.specs.declared.outcome.Outcome.{Outcome}
use Rattle.canon_replay.specs.declared.outcome.Outcome.TheVariants as outcome

-- ---- what is made again

-- a call: its export and its parameters, and the recorded events and results
pub record MadeCall : Type 0 where
  pub export : ℕ
  pub params : List Val
  pub events : List Event
  pub results : List Val

abbrev pub made_call_of : RecordedCall → MadeCall
made_call_of call = record { export = call.export; params = call.params; events = call.events; results = call.results }

-- the same of call k, whose events the guest has
abbrev pub made_again : List (List Event) → ℕ → Again → MadeCall
made_again recorded k a = record { export = a.export; params = a.params.items; events = call_events recorded k; results = a.results.items }

-- calls from call k on
abbrev pub all_made : List (List Event) → ℕ → List Again → List MadeCall
all_made recorded k [] = []
all_made recorded k (a ∷ others) = made_again recorded k a ∷ all_made recorded (k + 1) others

-- what stands in both: the export, the parameters and the results
abbrev pub told_again : Again → ℕ × (List Val × List Val)
told_again a = (a.export, (a.params.items, a.results.items))

abbrev pub told_call : RecordedCall → ℕ × (List Val × List Val)
told_call call = (call.export, (call.params, call.results))

abbrev pub events_of_call : RecordedCall → List Event
events_of_call call = call.events

abbrev pub asks_of_calls : List RecordedCall → List ServedAsk
asks_of_calls = flat_map (λ (call : RecordedCall). call.served)

-- ---- bit for bit

-- the values, as a tuple of this shape, have this image
abbrev pub HaveImage : Shape → List Val → List ℕ → Type 0
HaveImage s vs bytes = (v : Vec Val Global) × (b : Vec ℕ Global) × (v.items ≡ vs) × (b.items ≡ bytes) × IsImaged s (val.Tuple v) (Ok b)

abbrev pub HaveOneImage : Shape → List Val → List Val → Type 0
HaveOneImage s vs ws = (bytes : List ℕ) × HaveImage s vs bytes × HaveImage s ws bytes

abbrev pub HaveOtherImages : Shape → List Val → List Val → Type 0
HaveOtherImages s vs ws = (bytes others : List ℕ) × HaveImage s vs bytes × HaveImage s ws others × (bytes ≢ others)

-- the answer says whether they have one image, or memory was short
abbrev pub ComparesImages : Shape → List Val → List Val → Result Bool ReplayError → Type 0
ComparesImages s vs ws (Ok true) = HaveOneImage s vs ws
ComparesImages s vs ws (Ok false) = HaveOtherImages s vs ws
ComparesImages s vs ws (Err error.OutOfMemory) = ⊤
ComparesImages s vs ws (Err _) = ⊥

-- the shape of the tuple of a function's results
abbrev pub results_shape_in : TypeTable → Option TypeFunc → Shape
results_shape_in t None = no_shape
results_shape_in t (Some f) = shape_of t (ty.Tuple f.results)

abbrev pub results_shape_of : ReplayStore → ℕ → Shape
results_shape_of store export = results_shape_in (component_types store.core) (type_of store (named_export store export))

-- the shape of a function's results is that of the tuple of them
abbrev pub IsResultTuple : Component → ℕ → Type 0
IsResultTuple c export = results_shape_in c.types.types (type_in c (slice_get c.exports.items export)) ≡ product of_places (callee_in c (slice_get c.exports.items export)).results

-- ---- one call

-- the host beside the guest
abbrev pub replay_host : ReplayStore → HostSide (Unit {0})
replay_host store = host_side store.core (Some (entries_of store.imports.lines.items)) store.imports.refusals

-- Its function, which isn't async, was called with its parameters in a store that isn't trapped; it answered so, and left these results; the guest's
-- events were these, by which it moved. Its imports gave the recorded answers.
pub record WasMadeAgain (call : MadeCall) (before after : ReplayStore) (result : Result (Unit {0}) Error) (results : List Val) (events : List Event) : Type 0 where
  pub entered : entry_refusal (callee_of before (named_export before call.export)) before.trapped ≡ None
  pub is : IsCall (LivesUntil journaled_seen JournaledReplays (guest_of before.core) (guest_of after.core) result) (λ m n. n ≡ m) (GivesNext (asks_in_store before)) (callee_of before (named_export before call.export))
      (allowed before.core.fuel before.turns) call.params (moment_of journaled_seen before.core) (moment_of journaled_seen after.core) (replay_host before) (replay_host after) result results events
  pub moves : OnAnswered result (JournaledReplays (guest_of before.core) events (guest_of after.core))

-- The store has the component, the fuel, the limit of turns and what was recorded as before, and is trapped where it was.
pub record KeepsPlan (before after : ReplayStore) : Type 0 where
  pub same_core : SameButHost before.core after.core
  pub turns_kept : after.turns ≡ before.turns
  pub asks : asks_in_store after ≡ asks_in_store before
  pub recorded : (guest_in_store after).recorded ≡ (guest_in_store before).recorded
  pub trapped : after.trapped ≡ before.trapped

-- It answered Ok with the recorded results, bit for bit, and the guest's events were alike the recorded ones, all of them.
pub record CallReplayed (call : MadeCall) (before after : ReplayStore) : Type 0 where
  pub results : List Val
  pub events : List Event
  pub made : WasMadeAgain call before after (Ok tt) results events
  pub alike : AreAlike events call.events
  pub kept : KeepsPlan before after
  pub same : HaveOneImage (results_shape_of before call.export) results call.results

-- The events are alike the recorded ones up to this place, and the request there isn't followed, for this reason, in the memory that is left.
abbrev pub LeavesAt : Stop → ℕ → MadeCall → ReplayStore → ReplayStore → List Event → Type 0
LeavesAt why place call before after events = Leaves why call.events place (guest_in_store before).live (length after.core.memory) events

-- an error; or Ok where more events are recorded, or with other results
abbrev pub AnswersOtherwise : ℕ → MadeCall → ReplayStore → List Val → Result (Unit {0}) Error → Type 0
AnswersOtherwise place call before results (Err e) = ⊤
AnswersOtherwise place call before results (Ok x) = (place < length call.events) ⊎ (HaveOtherImages (results_shape_of before call.export) results call.results × IsResultTuple before.core.component call.export)

-- the events are alike the recorded ones up to this place, and the answer isn't the recorded one
abbrev pub EndsOtherwise : ℕ → MadeCall → ReplayStore → List Val → Result (Unit {0}) Error → List Event → Type 0
EndsOtherwise place call before results result events = AreAlike events (take place call.events) × AnswersOtherwise place call before results result

-- it was refused before the guest was entered, with as many slots for results as the function has
abbrev pub IsNotEntered : MadeCall → ReplayStore → Type 0
IsNotEntered call before = (slots : ℕ) × IfSome (type_of before (named_export before call.export)) (λ t. slots ≡ length (types_of (component_types before.core) t.results))
    × IsSome (call_refusal (callee_of before (named_export before call.export)) (length call.params) slots before.trapped)

-- it isn't out of memory
abbrev pub IsNotShort : Result (Unit {0}) Error → Type 0
IsNotShort result = result ≢ Err (call_error.Fault fault.OutOfMemory)

-- What was done in the call, which isn't out of memory, where it isn't as it was recorded.
abbrev pub DepartsAt : (ReplayStore → List Val → Result (Unit {0}) Error → List Event → Type 0) → MadeCall → ReplayStore → Type 0
DepartsAt IsSo call before = (after : ReplayStore) × (result : Result (Unit {0}) Error) × (results : List Val) × (events : List Event)
    × WasMadeAgain call before after result results events × IsNotShort result × IsSo after results result events

-- The request at the place isn't the recorded one, or none is recorded there, behind the last event; or none is made there, and the answer isn't the
-- recorded one.
abbrev pub CallDiffers : ℕ → MadeCall → ReplayStore → Type 0
CallDiffers place call before = (place ≤ length call.events) × (((place ≡ 0) × IsNotEntered call before)
    ⊎ DepartsAt (λ after results result events. LeavesAt stop.Differs place call before after events ⊎ EndsOtherwise place call before results result events) call before)

-- the recorded answer at the place isn't lawful
abbrev pub CallIsUnlawful : ℕ → MadeCall → ReplayStore → Type 0
CallIsUnlawful place call before = DepartsAt (λ after results result events. LeavesAt stop.Unlawful place call before after events) call before

-- call k isn't as it was recorded
abbrev pub Departs : ℕ → MadeCall → ReplayStore → Outcome → Type 0
Departs k call before outcome.Same = ⊥
Departs k call before (outcome.Differs i place) = (i ≡ k) × CallDiffers place call before
Departs k call before (outcome.Unlawful i place) = (i ≡ k) × CallIsUnlawful place call before

-- ---- all calls

-- From call k on: each was replayed, one after another, or those before one that wasn't.
abbrev pub ReplaysFrom : ℕ → List MadeCall → ReplayStore → Outcome → Type 0
ReplaysFrom k [] store o = o ≡ outcome.Same
ReplaysFrom k (call ∷ calls) store o = ((next : ReplayStore) × CallReplayed call store next × ReplaysFrom (k + 1) calls next o) ⊎ Departs k call store o

-- `replay` of these calls answers so
abbrev pub IsReplayed : Component → List RecordedCall → ℕ → ℕ → Result Outcome ReplayError → Type 0
IsReplayed c calls fuel turns (Ok o) = (store : ReplayStore) × IsNewStore c (map events_of_call calls) (asks_of_calls calls) fuel turns store × ReplaysFrom 0 (map made_call_of calls) store o
IsReplayed c calls fuel turns (Err error.OutOfMemory) = ⊤
IsReplayed c calls fuel turns (Err _) = ⊥

-- ---- before a call

-- there is an event, and fewer than 2^32 are there
abbrev pub HasEvents : List Event → Type 0
HasEvents events = (0 < length events) × (length events < 2 ^ 32)

-- The guest is before call k, and has steps to make and memories that it can make; and no call was refused.
pub record IsReady (k : ℕ) (store : ReplayStore) : Type 0 where
  pub going : (guest_in_store store).stop ≡ None
  pub before : IsBefore k (guest_in_store store)
  pub can : CanReplayFrom (guest_in_store store) (length store.core.memory)
  pub small : length store.core.memory ≤ 2 ^ 32
  pub untrapped : store.trapped ≡ false

-- After a function answered Ok with these results: all recorded events of call k were passed and the results are the recorded ones; or where the guest is.
abbrev pub EndsOk : ℕ → Named → ReplayStore → List Val → List Val → Option Outcome → Type 0
EndsOk k f store results recorded None = (has_passed k (guest_in_store store) ≡ true) × HaveOneImage (results_shape_in (component_types store.core) (type_of store f)) results recorded
EndsOk k f store results recorded (Some o) = (o ≡ outcome_at k (guest_in_store store))
    × ((has_passed k (guest_in_store store) ≡ false) ⊎ (HaveOtherImages (results_shape_in (component_types store.core) (type_of store f)) results recorded × IsResultTuple store.core.component f.export))

-- Making call k answered so: nothing, where it was replayed and the store is before the next call; or how it isn't as it was recorded.
abbrev pub MakesAgain : ℕ → MadeCall → ReplayStore → ReplayStore → Option Outcome → Type 0
MakesAgain k call before after None = CallReplayed call before after × IsReady (k + 1) after
MakesAgain k call before after (Some o) = Departs k call before o
