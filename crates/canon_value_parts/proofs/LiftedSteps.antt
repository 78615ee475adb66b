-- Handles that are lifted do steps of the ledger.
use Rattle.std.proofs.Common.{Err, List, Ok, Result, map}
use Rattle.canon_context.proofs.LedgerSteps.{partway_after, through_after}
use Rattle.canon_context.specs.Lifter.{IsAfterSteps}
use Rattle.canon_context.specs.declared.fault.Fault.{Fault}
use Rattle.canon_resources.proofs.Lifts.{lifts_take}
use Rattle.canon_resources.proofs.Through.{leaves_partway, leaves_through}
use Rattle.canon_resources.specs.Parts.{lift_parts}
use Rattle.canon_resources.specs.Steps.{leaves_steps}
use Rattle.canon_ledger.specs.Ledger.{LedgerState}
use Rattle.canon_model.specs.Leaves.{Leaf}
use Rattle.canon_resources.specs.Held.{Any}
use Rattle.canon_types.specs.Instance.{Instance}
use Rattle.canon_passing.specs.Passed.{LiftsHandles}
use Rattle.canon_context.specs.Faults.{stop_of}

pub lifted_after : {T : Type 0} (its : T → List Any) (i : Instance) (l n : LedgerState) (leaves : List Leaf) (r : Result T Fault) → LiftsHandles its i l n leaves r → IsAfterSteps l n
lifted_after its i l n leaves (Ok x) h =
    let parts = map (lift_parts i) leaves in
    let (hs, takes) = lifts_take i l n leaves (its x) h in
    through_after l n (leaves_steps l parts) (leaves_through l n parts hs takes)
lifted_after its i l n leaves (Err e) h =
    let parts = map (lift_parts i) leaves in
    partway_after l n (leaves_steps l parts) (leaves_partway (stop_of e) l n parts h)
