-- The steps of an item.
use Rattle.std.specs.Prelude.{Bool, Err, List, None, Ok, Result, [], false, length, true, ℕ, ◌≡◌, ◌++◌, ◌∷◌, ◌⊎◌}
use Rattle.canon_types.specs.declared.resource.ResourceType.TheVariants.{HostDynamic}
use Rattle.canon_ledger.specs.Index.{GivenIndex}
use Rattle.canon_ledger.specs.Ledger.{Done, LedgerState, given, host_resource_lower_own}
use Rattle.canon_ledger.specs.declared.fault.ResourceFault.{ResourceFault}
use Rattle.canon_ledger.specs.declared.fault.ResourceFault.TheVariants as refusal
use Rattle.canon_resources.specs.Held.{Any, any, table_handle}
use Rattle.canon_resources.specs.declared.any.ResourceAnyHandle.TheVariants.{Synthetic}
use Rattle.canon_context.specs.declared.fault.Fault.TheVariants as fault
use Rattle.canon_val.specs.declared.val.Val.TheVariants as val
use Rattle.canon_value_parts.specs.Resources.{all_resources}
use Rattle.canon_func.specs.Asks.{Limits}
use Rattle.canon_func.specs.Call.{call_refusal}
use Rattle.canon_func.specs.Stores.{Callee}
use Rattle.canon_func.specs.declared.error.Error.TheVariants as error
use Rattle.canon_script.specs.Imports.{HostAnswer}
use Rattle.canon_script.specs.Script.{ScriptCall, ScriptItem}
use Rattle.canon_script.specs.declared.script.NewItem.{NewItem}
use Rattle.canon_transcript.specs.declared.transcript.Answer.{Answer}
use Rattle.canon_transcript.specs.declared.transcript.Answer.TheVariants as answer
use Rattle.canon_transcript.specs.declared.transcript.Head.TheVariants as head
use Rattle.canon_transcript.specs.declared.transcript.Record.{Record}
use Rattle.canon_player.specs.Session.{AnswersOk, Called, IsPlayed, Plays, State, answer_values}
use Rattle.canon_player.specs.Stores.{ScriptStore, answers_of, callee_at, limits_of, state_of}

-- items were played on a store, from no resources on
abbrev pub PlaysItems : ScriptStore → List ScriptItem → List Record → Type 0
PlaysItems store items records = Plays (callee_at store.core.component) (limits_of store) (answers_of store) items [] (state_of store) records

-- an item was played on a store, with this list of resources
abbrev pub PlaysItem : ScriptStore → ScriptItem → List Any → ScriptStore → Record → Type 0
PlaysItem before i list after r = IsPlayed (callee_at before.core.component) (limits_of before) (answers_of before) i list (state_of before) (state_of after) r

-- an item was played on a store, with this list of resources; its record was added, and the resources of its answer
pub record PlaysNext (before : ScriptStore) (i : ScriptItem) (list : List Any) (records : List Record) (after : ScriptStore) (longer : List Any) (more : List Record) : Type 0 where
  pub added : Record
  pub played : PlaysItem before i list after added
  pub longer_by : longer ≡ list ++ all_resources (answer_values added.answer)
  pub more_by : more ≡ records ++ added ∷ []

-- the record of a call that wasn't skipped
pub record CallsOnce (callee : Callee) (limits : Limits) (answers : List (List HostAnswer)) (call : ScriptCall) (list : List Any) (before after : State) (r : Record) : Type 0 where
  pub head : r.head ≡ head.Call call.func
  pub called : Called callee limits answers call list before after r (call_refusal callee (length call.params) call.slots before.trapped)
  pub live : r.live ≡ after.ledger.handles.counter.live

abbrev pub MakesCall : ScriptStore → ScriptCall → List Any → ScriptStore → Record → Type 0
MakesCall before call list after r = CallsOnce (callee_at before.core.component call.func) (limits_of before) (answers_of before) call list (state_of before) (state_of after) r

-- an own handle of this type, at the index that the host's table gave, or the ledger's refusal
abbrev pub Owns : ℕ → Result GivenIndex ResourceFault → Result Any ResourceFault → Type 0
Owns ty (Ok x) result = result ≡ Ok (any (table_handle x true) (HostDynamic ty))
Owns ty (Err e) result = result ≡ Err e

-- the step was done, or memory ran out
abbrev pub Inserts : ℕ → Done GivenIndex → Result Any ResourceFault → LedgerState → LedgerState → Type 0
Inserts ty step result before after = (Owns ty step.answer result × (after ≡ step.after)) ⊎ (result ≡ Err refusal.OutOfMemory)

-- a resource is made: a borrow has no handle
abbrev pub MakesResource : Bool → NewItem → LedgerState → Result Any ResourceFault → LedgerState → Type 0
MakesResource true n before result after = (result ≡ Ok (any (Synthetic n.rep) (HostDynamic n.ty))) × (after ≡ before)
MakesResource false n before result after = Inserts n.ty (given before (host_resource_lower_own before n.rep None None)) result before after

-- what a resource that was made answers; out of memory has no record
abbrev pub MadeAnswer : Result Any ResourceFault → Answer → Type 0
MadeAnswer (Ok x) a = AnswersOk a (val.Resource x ∷ [])
MadeAnswer (Err refusal.OutOfMemory) a = ⊥
MadeAnswer (Err e) a = a ≡ answer.Err (error.Fault (fault.Resource e))
