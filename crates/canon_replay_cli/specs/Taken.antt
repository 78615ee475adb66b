-- The calls of a script that was played, as a recording.
use Rattle.std.specs.Prelude.{Bool, List, None, Option, Some, [], false, map, take, true, ℕ, ⊤, ◌+◌, ◌∷◌, ◌≡◌}
use Rattle.canon_memory.specs.declared.event.Event.{Event}
use Rattle.canon_memory.specs.declared.event.Event.TheVariants as event
use Rattle.canon_scripted.specs.declared.orders.Ordered.{Ordered}
use Rattle.canon_scripted.specs.declared.orders.Ordered.TheVariants as ordered
use Rattle.canon_literals.specs.Literals.{literals_view}
use Rattle.canon_script.specs.Script.{ScriptCall, ScriptItem, call_item}
use Rattle.canon_transcript.specs.Text.{Served}
use Rattle.canon_transcript.specs.declared.transcript.Answer.{Answer}
use Rattle.canon_transcript.specs.declared.transcript.Answer.TheVariants as answer
use Rattle.canon_transcript.specs.declared.transcript.Record.{Record}
use Rattle.canon_player.specs.Session.{answer_values}
use Rattle.canon_recording.specs.Recordings.{RecordedCall, ServedAsk, recorded_call}
use Rattle.canon_recording.specs.declared.recording.Recorded.{Recorded}

-- ---- orders

-- how often `realloc` answered
abbrev pub reallocs_in : List Event → ℕ
reallocs_in [] = 0
reallocs_in (event.Realloc old old_size align new_size answer ∷ events) = 1 + reallocs_in events
reallocs_in (e ∷ events) = reallocs_in events

-- an address is among these orders
abbrev pub orders_address : List Ordered → Bool
orders_address [] = false
orders_address (ordered.Answer a ∷ orders) = true
orders_address (order ∷ orders) = orders_address orders

-- `realloc` answered an address that the script orders, whatever was asked: that breaks its law.
abbrev pub breaks_law : List Ordered → List Event → Bool
breaks_law orders events = orders_address (take (reallocs_in events) orders)

-- ---- calls

abbrev pub asked_of_served : Served → ServedAsk
asked_of_served s = record { import = s.0; params = s.1.items; results = s.2.items }

abbrev pub IsOkAnswer : Answer → Type 0
IsOkAnswer (answer.Ok results) = ⊤
IsOkAnswer _ = ⊥

-- a call that answered Ok, and whose guest broke no law by order of the script
abbrev pub IsTakenOf : ScriptItem → Record → Type 0
IsTakenOf (call_item c) r = (breaks_law c.reallocs r.events ≡ false) × IsOkAnswer r.answer
IsTakenOf _ r = ⊥

-- the recorded call is the one of this item and this record; its parameters are the script's, apart from how they are kept
pub record IsCallOfRecord (c : ScriptCall) (r : Record) (call : RecordedCall) : Type 0 where
  pub export : call.export ≡ c.func
  pub params : literals_view call.params ≡ c.params
  pub events : call.events ≡ r.events
  pub served : call.served ≡ map asked_of_served r.served.items
  pub results : call.results ≡ answer_values r.answer

abbrev pub IsCallOfItem : ScriptItem → Record → RecordedCall → Type 0
IsCallOfItem (call_item c) r call = IsCallOfRecord c r call
IsCallOfItem _ r call = ⊥

-- The calls of these items and their records, in order, up to the first that isn't kept.
abbrev pub TakesCalls : List ScriptItem → List Record → List RecordedCall → Type 0
TakesCalls [] records calls = calls ≡ []
TakesCalls (i ∷ items) [] calls = calls ≡ []
TakesCalls (i ∷ items) (r ∷ records) [] = ¬ IsTakenOf i r
TakesCalls (i ∷ items) (r ∷ records) (call ∷ calls) = IsTakenOf i r × IsCallOfItem i r call × TakesCalls items records calls

-- ---- how it is kept

abbrev pub IsTakenCall : ScriptItem → Record → Option Recorded → Type 0
IsTakenCall i r None = ¬ IsTakenOf i r
IsTakenCall i r (Some call) = IsTakenOf i r × IsCallOfItem i r (recorded_call call)
