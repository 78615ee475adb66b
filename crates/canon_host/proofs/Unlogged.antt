-- Asks that were served, where no log is exposed.
use Rattle.std.proofs.Common.{Err, List, None, Ok, Option, Result, Some, Vec, refl, subst, sym, ℕ, ◌≡◌}
use Rattle.std.specs.Prelude.{IfSome}
use Rattle.std.specs.declared.alloc.Global.{Global}
use Rattle.canon_context.specs.declared.fault.Fault.TheVariants as fault
use Rattle.canon_context.specs.declared.host.HostStop.{HostStop}
use Rattle.canon_ledger.specs.Ledger.{LedgerState}
use Rattle.canon_context.specs.Core.{Parts}
use Rattle.canon_memory.specs.Guest.{GuestIn, Seen}
use Rattle.canon_memory.specs.declared.event.Event.{Event}
use Rattle.canon_types.specs.declared.types.TypeFunc.{TypeFunc}
use Rattle.canon_val.specs.declared.val.Val.{Val}
use Rattle.canon_host.specs.Forms.{HostFuncForm, InView, ValuesAnswering, over_values}
use Rattle.canon_host.specs.HostSide.{Giving}
use Rattle.canon_host.specs.Imports.{CallsImport, ServesForm, ServesImport, ServesWith, steps_of_values}
use Rattle.canon_host.specs.Serves.{AskValues, LiftsAsked}
use Rattle.canon_host.specs.declared.asked.Asked.{Asked}
use Rattle.canon_host.specs.declared.error.HostError.{HostError}
use Rattle.canon_host.specs.declared.error.HostError.TheVariants as error
use Rattle.canon_host.proofs.Importing.{Answered, AskDone, host_asked_by}
use Rattle.canon_host.proofs.Serving.{serves_changed}

module _ {T G : Type 0} (gives : Giving T) (may : ValuesAnswering T) (n : ℕ) (seen : G → Seen) (moves : GuestIn G → List Event → GuestIn G → Type 0) (ty options r : ℕ) (before after : Parts T G) (words words2 : List ℕ) where
  pub unlogged : (o : Option TypeFunc) (values : Vec Val Global) → IfSome o (AskDone gives may None None n seen moves ty options r r before after words words2 (Ok values))
      → IfSome o (Answered gives may None None n seen moves ty options r r before after words words2 (Ok tt))
  unlogged (Some t) values (told, row, served) = (told, served, refl, refl)
  unlogged None values done = tt

-- ---- what another says of the same import

-- whatever the one allows, the other does
module _ {T G : Type 0} (gives gives2 : Giving T) (may may2 : ValuesAnswering T)
    (so : (type : TypeFunc) (reached : InView T) (params : List Val) (answer : Result (List Val) HostStop) (state : T) (ledger : LedgerState) → may type reached params answer state ledger → may2 type reached params answer state ledger)
    (n : ℕ) (seen : G → Seen) (moves : GuestIn G → List Event → GuestIn G → Type 0) (asked : Asked) where
  calls_as : (b a : Parts T G) (params results : List Val) (r : Result (Unit {0}) HostStop) → CallsImport gives may None n asked b params r a results → CallsImport gives2 may2 None n asked b params r a results
  calls_as b a params results r h = record { steps = h.steps; same = h.same; may_give = so _ _ _ _ _ _ h.may_give; counted = h.counted; by_log = tt }

  serves_as : (before after : Parts T G) (words words2 : List ℕ) (r : Result AskValues HostError) → ServesWith gives None n seen moves asked may before words r after words2
      → ServesWith gives2 None n seen moves asked may2 before words r after words2
  serves_as before after words words2 r h =
      serves_changed (steps_of_values gives None n seen moves asked may) (λ b e. e ≡ error.Fault fault.OutOfMemory) (LiftsAsked asked) (λ b params a results. CallsImport gives2 may2 None n asked b params (Ok tt) a results)
      (λ b params why a results. CallsImport gives2 may2 None n asked b params (Err why) a results) asked before (λ e is. is) (λ a ws x lifts. lifts)
      (λ b a params results calls. calls_as b a params results (Ok tt) calls) (λ b a params why results calls. calls_as b a params results (Err why) calls) after words words2 r h

  answers_as : (r r2 : ℕ) (before after : Parts T G) (words words2 : List ℕ) (result : Result (Unit {0}) HostError) → ServesForm gives None n seen moves asked (over_values may) None r r2 before words result after words2
      → ServesForm gives2 None n seen moves asked (over_values may2) None r r2 before words result after words2
  answers_as r r2 before after words words2 (Ok x) (told, served, logged, same) = (told, serves_as before after words words2 (Ok told) served, refl, same)
  answers_as r r2 before after words words2 (Err error.Refused) (same, once, served) = (same, once, serves_as before after words words2 (Err error.Refused) served)
  answers_as r r2 before after words words2 (Err (error.Fault e)) (same, count, served) = (same, count, serves_as before after words words2 (Err (error.Fault e)) served)

module _ {T G : Type 0} (gives gives2 : Giving T) (may may2 : ValuesAnswering T)
    (so : (type : TypeFunc) (reached : InView T) (params : List Val) (answer : Result (List Val) HostStop) (state : T) (ledger : LedgerState) → may type reached params answer state ledger → may2 type reached params answer state ledger)
    (n : ℕ) (seen : G → Seen) (moves : GuestIn G → List Event → GuestIn G → Type 0) (form : gives.form n ≡ over_values may) (form2 : gives2.form n ≡ over_values may2) where
  pub import_as : (ty options r r2 : ℕ) (before after : Parts T G) (words words2 : List ℕ) (result : Result (Unit {0}) HostError) (o : Option TypeFunc)
      → IfSome o (λ t. ServesImport gives None n seen moves (host_asked_by ty t options) None r r2 before words result after words2)
      → IfSome o (λ t. ServesImport gives2 None n seen moves (host_asked_by ty t options) None r r2 before words result after words2)
  import_as ty options r r2 before after words words2 result None h = tt
  import_as ty options r r2 before after words words2 result (Some t) h =
      let asked = host_asked_by ty t options in
      let first = subst (λ (f : HostFuncForm T). ServesForm gives None n seen moves asked f None r r2 before words result after words2) form h in
      subst (λ (f : HostFuncForm T). ServesForm gives2 None n seen moves asked f None r r2 before words result after words2) (sym form2) (answers_as gives gives2 may may2 so n seen moves asked r r2 before after words words2 result first)
