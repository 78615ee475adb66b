-- Recordings of calls that `Func::call` made. The law is proved as the contract of a function in src/laws.rt.
use Rattle.std.specs.Prelude.{List, None, Ok, Option, Some, [], length, ℕ, ⊤, ◌++◌, ◌∷◌, ◌≡◌, map}
use Rattle.canon_model.specs.Flat.{AreWords}
use Rattle.canon_model.specs.Memory.{Block}
use Rattle.canon_memory.specs.declared.event.Event.{Event}
use Rattle.canon_memory.specs.declared.event.Event.TheVariants as event
use Rattle.canon_memory.specs.Guest.{GuestIn, Seen}
use Rattle.canon_memory.specs.Realloc.{call}
use Rattle.canon_memory.specs.Watch.{relisted}
use Rattle.canon_context.specs.Component.{IsComponent}
use Rattle.canon_context.specs.declared.component.Component.{Component}
use Rattle.canon_host.specs.HostSide.{Giving, LoggedEntry}
use Rattle.canon_literals.specs.Literals.{Literal, literals_view}
use Rattle.canon_val.specs.declared.val.Val.{Val}
use Rattle.canon_func.specs.Call.{call_refusal}
use Rattle.canon_func.specs.Called.{CallOf}
use Rattle.canon_func.specs.Runs.{Each, OnStart, asks_in}
use Rattle.canon_func.specs.Stores.{Named, StoreView, callee_of}
use Rattle.canon_recording.specs.Fits.{FitsComponent, IsRecordable, callee_of_call}
use Rattle.canon_recording.specs.Recordings.{RecordedCall, ServedAsk}
use Rattle.canon_replay_guest.specs.Lawful.{IsLawfulAnswer}
use Rattle.canon_replay_guest.specs.Replaying.{start_length}
use Rattle.canon_replay.specs.Calls.{IsReplayed}
use Rattle.canon_replay.specs.declared.outcome.Outcome.{Outcome}
use Rattle.canon_replay.specs.declared.outcome.Outcome.TheVariants as outcome

-- no call of an import is recorded
abbrev pub AskForNothing : List RecordedCall → Type 0
AskForNothing [] = ⊤
AskForNothing (call ∷ calls) = (asks_in call.events ≡ 0) × AskForNothing calls

-- Each answer of `realloc` before the start is lawful in a memory of so many bytes, where these blocks live before them.
abbrev pub AreLawfulAnswers : List Block → ℕ → List Event → Type 0
AreLawfulAnswers live len (event.Realloc old old_size align new_size answer ∷ events) =
    IsLawfulAnswer live len (call old old_size align new_size) answer × AreLawfulAnswers (relisted live (call old old_size align new_size) answer) len events
AreLawfulAnswers live len _ = ⊤

-- the same of each call, in a memory as long as the one in which it was started, and where no block lives before it
abbrev pub HaveLawfulAnswers : List RecordedCall → Type 0
HaveLawfulAnswers [] = ⊤
HaveLawfulAnswers (made ∷ calls) = AreLawfulAnswers [] (start_length made.events 0) made.events × HaveLawfulAnswers calls

-- where the event is a resume: of its words and its memory
abbrev pub OnResume : (List ℕ → List ℕ → Type 0) → Event → Type 0
OnResume P (event.Resume words memory) = P words memory
OnResume P _ = ⊤

-- an ask that was served, apart from how its values are kept: of the log, and of a recording
abbrev pub logged_view : LoggedEntry → ℕ × List Literal × List Literal
logged_view e = (e.index, literals_view e.params, literals_view e.results)

abbrev pub asked_view : ServedAsk → ℕ × List Literal × List Literal
asked_view a = (a.import, literals_view a.params, literals_view a.results)

-- the recording lists the asks of these entries, in order
abbrev pub AreRecordedAs : List LoggedEntry → List ServedAsk → Type 0
AreRecordedAs entries served = map logged_view entries ≡ map asked_view served

-- it isn't told that a call differs
abbrev pub IsNoDifference : Outcome → Type 0
IsNoDifference (outcome.Differs k place) = ⊥
IsNoDifference _ = ⊤

-- Of a guest and of imports these are what the traits' ghost members say, as in the contract of `Func::call` (`CallOf`).
module _ {T G I P : Type 0} (seen : G → Seen) (moves : GuestIn G → List Event → GuestIn G → Type 0) (leaves : List ℕ → List ℕ → Type 0)
    (plan : I → P) (gives : P → Giving T) (log : I → Option (List LoggedEntry)) (refusals : I → ℕ) where
  -- `Func::call` was called with the recorded parameters, in a store in which its function is the one that the recorded export is in this component,
  -- with this fuel and this limit of turns, and with so many slots for results. It answered Ok with the recorded results, and its guest added the recorded events; the words of the
  -- start have 64 bits. The recorded values are those of the call apart from how they are kept.
  pub record IsFaithfulCall (c : Component) (fuel turns : ℕ) (call : RecordedCall) : Type 0 where
    pub before : StoreView T G I
    pub after : StoreView T G I
    pub func : Named
    pub slots : ℕ
    pub params : List Val
    pub results : List Val
    pub params_are : literals_view params ≡ literals_view call.params
    pub results_are : literals_view results ≡ literals_view call.results
    pub callee : callee_of before func ≡ callee_of_call c call
    pub fuel_is : before.core.fuel ≡ fuel
    pub turns_is : before.turns ≡ turns
    pub entered : call_refusal (callee_of before func) (length params) slots before.trapped ≡ None
    pub calls : CallOf seen moves leaves plan gives log refusals before func params (Ok tt) results after
    pub events : calls.events ≡ call.events
    pub words : Each (OnStart (λ words memory. AreWords words)) call.events

  -- each call was made so, in whichever store
  abbrev pub AreFaithful : Component → ℕ → ℕ → List RecordedCall → Type 0
  AreFaithful c fuel turns [] = ⊤
  AreFaithful c fuel turns (call ∷ calls) = IsFaithfulCall c fuel turns call × AreFaithful c fuel turns calls

  -- Where such calls asked for no import, `replay` with this fuel and this limit of turns doesn't answer `Differs`.
  abbrev pub RecordedNeverDiffer : Type 0
  RecordedNeverDiffer = (c : Component) (calls : List RecordedCall) (fuel turns : ℕ) (o : Outcome) → IsComponent c → IsRecordable c → FitsComponent c calls
      → AreFaithful c fuel turns calls → AskForNothing calls → IsReplayed c calls fuel turns (Ok o) → IsNoDifference o

  -- Where also the recorded answers before each start are lawful, it answers `Same`.
  abbrev pub RecordedAreSame : Type 0
  RecordedAreSame = (c : Component) (calls : List RecordedCall) (fuel turns : ℕ) (o : Outcome) → IsComponent c → IsRecordable c → FitsComponent c calls
      → AreFaithful c fuel turns calls → AskForNothing calls → HaveLawfulAnswers calls → IsReplayed c calls fuel turns (Ok o) → o ≡ outcome.Same

  -- Its imports exposed their log, which gained what is recorded as its asks; and the words of each resume have 64 bits.
  pub record IsLoggedCall (c : Component) (fuel turns : ℕ) (call : RecordedCall) : Type 0 where
    pub faithful : IsFaithfulCall c fuel turns call
    pub entries : List LoggedEntry
    pub logged : log faithful.before.imports ≡ Some entries
    pub gained : List LoggedEntry
    pub grown : log faithful.after.imports ≡ Some (entries ++ gained)
    pub told : AreRecordedAs gained call.served
    pub resumed : Each (OnResume (λ words memory. AreWords words)) call.events

  abbrev pub AreLogged : Component → ℕ → ℕ → List RecordedCall → Type 0
  AreLogged c fuel turns [] = ⊤
  AreLogged c fuel turns (call ∷ calls) = IsLoggedCall c fuel turns call × AreLogged c fuel turns calls

  -- Where the calls were logged, whatever imports they asked for, `replay` with this fuel and this limit of turns doesn't answer `Differs`.
  abbrev pub LoggedNeverDiffer : Type 0
  LoggedNeverDiffer = (c : Component) (calls : List RecordedCall) (fuel turns : ℕ) (o : Outcome) → IsComponent c → IsRecordable c → FitsComponent c calls
      → AreLogged c fuel turns calls → IsReplayed c calls fuel turns (Ok o) → IsNoDifference o

  -- Where also the recorded answers before each start are lawful, it answers `Same`.
  abbrev pub LoggedAreSame : Type 0
  LoggedAreSame = (c : Component) (calls : List RecordedCall) (fuel turns : ℕ) (o : Outcome) → IsComponent c → IsRecordable c → FitsComponent c calls
      → AreLogged c fuel turns calls → HaveLawfulAnswers calls → IsReplayed c calls fuel turns (Ok o) → o ≡ outcome.Same
