-- The resources that are passed on the way, in order, and how they go through the ledger.
use Rattle.std.specs.Prelude.{List, Option, false, ℕ, ◌<◌, ◌≡◌, ◌⊎◌, ◌^◌, Bool, Err, IfErr, IfOk, None, Ok, Result, Some, [], ◌∷◌, map, true}
use Rattle.canon_context.specs.declared.fault.Fault.{Fault}
use Rattle.canon_lowering.specs.Lowering.{Ending, refused, short}
use Rattle.canon_context.specs.Core.{Parts}
use Rattle.canon_context.specs.Lowers.{ending_of, fault_ending}
use Rattle.canon_resources.specs.Parts.{LeavesLift, LeavesStop, LeavesTake, PassedResource, lift_parts, lower_parts}
use Rattle.canon_ledger.specs.Ledger.{LedgerState}
use Rattle.canon_ledger.specs.declared.fault.ResourceFault.{ResourceFault}
use Rattle.canon_model.specs.Leaves.{Leaf}
use Rattle.canon_resources.specs.Held.{Any}
use Rattle.canon_types.specs.Instance.{Instance}
use Rattle.canon_context.specs.Faults.{stop_of}
use Rattle.canon_context.specs.declared.fault.Fault.TheVariants as fault
use Rattle.canon_ledger.specs.declared.fault.ResourceFault.TheVariants as resource

-- what the ledger answered, if the fault is the ledger's
abbrev pub ledger_fault : Fault → Option ResourceFault
ledger_fault (fault.Resource e) = Some e
ledger_fault _ = None

-- the number, where there is one
abbrev pub number_given : Result ℕ Fault → List ℕ
number_given (Ok h) = h ∷ []
number_given (Err e) = []

-- What was passed went through the ledger in order, as far as the walk went, and was given these handles. The ledger stops a walk
-- only where something is passed.
abbrev pub LowersHandles : {T : Type 0} → Instance → LedgerState → LedgerState → List PassedResource → List ℕ → Result T Fault → Type 0
LowersHandles types before after ps hs (Ok x) = LeavesTake before (map (lower_parts types) ps) hs after
LowersHandles types before after ps hs (Err e) = LeavesStop (stop_of e) before (map (lower_parts types) ps) after × (ledger_fault e ≡ None ⊎ ¬ (ps ≡ []))

-- one resource was passed: the number that the guest is given for it, and nothing but the ledger changed
pub record GivesHandle {T G : Type 0} (before after : Parts T G) (p : PassedResource) (result : Result ℕ Fault) : Type 0 where
  pub passed : LowersHandles before.component.types before.ledger after.ledger (p ∷ []) (number_given result) result
  pub only_ledger : after ≡ record before { ledger = after.ledger }
  pub refusal : IfErr result (λ e. (r : ResourceFault) × (e ≡ fault.Resource r))
  pub narrow : IfOk result (λ h. h < 2 ^ 32)

-- what was passed on the way from one core to another, and the lowering, which gave these handles
pub record PartsLower {T G X : Type 0} (before after : Parts T G) (ps : List PassedResource) (Lowered : List ℕ → Type 0) (result : Result X Fault) : Type 0 where
  pub handles : List ℕ
  pub lowered : Lowered handles
  pub passed : LowersHandles before.component.types before.ledger after.ledger ps handles result

-- a fault as callers see it
abbrev pub told_fault : Fault → Fault
told_fault (fault.Resource resource.OutOfMemory) = fault.OutOfMemory
told_fault e = e

-- handles are reached by the types, and some are passed
abbrev pub UsesLedger : Bool → List PassedResource → Type 0
UsesLedger handles ps = (handles ≡ true) × ¬ (ps ≡ [])

-- How a lowering ended with this answer. Memory that the ledger wanted ended it as a fault of the value does; that is kept apart from
-- want of the guest's memory only inside.
abbrev pub EndsAs : {T : Type 0} → Bool → List PassedResource → Result T Fault → Ending → Type 0
EndsAs handles ps (Err fault.OutOfMemory) ending = (ending ≡ short) ⊎ (UsesLedger handles ps × (ending ≡ refused))
EndsAs handles ps result ending = ending ≡ ending_of result

-- A lowering of a value, or of values, that reach handles or not and pass these resources: it ended so, and gave these handles.
pub record Crosses {T : Type 0} (types : Instance) (handles : Bool) (ps : List PassedResource) (Attempted : List ℕ → Ending → Type 0) (before after : LedgerState) (result : Result T Fault) : Type 0 where
  pub given : List ℕ
  pub ending : Ending
  pub ends : EndsAs handles ps result ending
  pub lowered : Attempted given ending
  pub passed : LowersHandles types before after ps given result
  -- a shortage of the ledger's memory isn't reported as a refusal
  pub as_told : IfErr result (λ e. told_fault e ≡ e)

-- where no text, list or map is reached, the same is there as before, and a refusal is for the value alone, or a shortage of memory in
-- the ledger where handles are passed
abbrev pub QuietBut : {T : Type 0} → Bool → List PassedResource → Bool → Type 0 → Result T Fault → Type 0
QuietBut handles ps blocks same result = blocks ≡ false → same × IfErr result (λ e. (fault_ending e ≡ refused) ⊎ (UsesLedger handles ps × (e ≡ fault.OutOfMemory)))

-- The handles at these leaves went through the ledger in order, as far as the walk went; what was lifted has the resources that
-- the host was given for them.
abbrev pub LiftsHandles : {T : Type 0} → (T → List Any) → Instance → LedgerState → LedgerState → List Leaf → Result T Fault → Type 0
LiftsHandles its types before after leaves (Ok x) = LeavesLift types before leaves (its x) after
LiftsHandles its types before after leaves (Err e) = LeavesStop (stop_of e) before (map (lift_parts types) leaves) after
