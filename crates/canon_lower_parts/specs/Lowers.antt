-- What lowering a typed value, or values in a row, does. A core goes from one to another.
use Rattle.std.specs.Prelude.{Bool, Err, IfErr, List, None, Ok, OnOk, Result, [], false, ℕ, ◌≡◌, ◌⊎◌}
use Rattle.canon_context.specs.Asks.{SameButHandles}
use Rattle.canon_context.specs.Core.{Parts, stage_of}
use Rattle.canon_context.specs.Lowers.{ending_of}
use Rattle.canon_context.specs.declared.fault.Fault.{Fault}
use Rattle.canon_context.specs.declared.fault.Fault.TheVariants as fault
use Rattle.canon_lower_parts.specs.Blames.{IsElsewhere}
use Rattle.canon_resources.specs.Parts.{LeavesStop, LeavesTake, Part}
use Rattle.canon_ledger.specs.Ledger.{LedgerState}
use Rattle.canon_passing.specs.Passed.{ledger_fault}
use Rattle.canon_context.specs.Faults.{stop_of}
use Rattle.canon_lowering.specs.Attempt.{Aim, Attempt}
use Rattle.canon_lowering.specs.Lowering.{Ending, refused}
use Rattle.canon_memory.specs.Guest.{GuestIn, Seen}
use Rattle.canon_memory.specs.declared.event.Event.{Event}
use Rattle.canon_model.specs.Memory.{Block}

-- How it ended with this answer. Where the ledger ran out of memory, it ended as at a fault of the value; that happens only where
-- handles are given.
abbrev pub EndsBy : {T : Type 0} → List (List Part) → Result T Fault → Ending → Type 0
EndsBy gives result ending = (ending ≡ ending_of result) ⊎ ((result ≡ Err fault.OutOfMemory) × ¬ (gives ≡ []) × (ending ≡ refused))

-- The handles went through the ledger in order, as far as the lowering went, and were given these numbers. The ledger stops it only
-- where there are some.
abbrev pub HandlesCross : {T : Type 0} → LedgerState → LedgerState → List (List Part) → List ℕ → Result T Fault → Type 0
HandlesCross before after gives hs (Ok x) = LeavesTake before gives hs after
HandlesCross before after gives hs (Err e) = LeavesStop (stop_of e) before gives after × (ledger_fault e ≡ None ⊎ ¬ (gives ≡ []))

-- What is aimed at was lowered into these places, or why not: `gives` is what its handles do, `blocks` whether it reaches a text or a
-- list, `still` what stays the same where it reaches none, and `Large` which of what is aimed at has a part that is too large in the way
-- of a fault. It is lowered only where no part is too large.
pub record TypedAttempt {D G X : Type 0} (seen : G → Seen) (moves : GuestIn G → List Event → GuestIn G → Type 0) (before after : Parts D G) (places : List Block) (aim : Aim X) (gives : List (List Part)) (blocks : Bool) (still : Type 0)
    (Large : Fault → X → Type 0) (result : Result (Unit {0}) Fault) : Type 0 where
  pub handles : List ℕ
  pub ending : Ending
  pub ends : EndsBy gives result ending
  pub attempt : Attempt false (stage_of seen moves before) (stage_of seen moves after) places aim handles ending
  pub passed : HandlesCross before.ledger after.ledger gives handles result
  pub same : SameButHandles before after
  pub quiet : blocks ≡ false → still × IfErr result (λ e. ending ≡ refused)
  pub cause : IfErr result (λ e. (x : X) → aim.Is x → IsElsewhere e ⊎ Large e x)
  pub small : OnOk result ((x : X) → aim.Is x → (e : Fault) → ¬ Large e x)
