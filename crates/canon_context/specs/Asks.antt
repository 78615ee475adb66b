-- A request for a block: a core goes from one to another.
use Rattle.std.specs.Prelude.{◌≡◌, ◌≤◌, ◌^◌, List, Result, length, ℕ}
use Rattle.canon_lowering.specs.Lowering.{Reallocated}
use Rattle.canon_memory.specs.Guest.{GuestIn, Seen}
use Rattle.canon_memory.specs.declared.event.Event.{Event}
use Rattle.canon_model.specs.Requests.{Call}
use Rattle.canon_context.specs.Core.{Parts, stage_of}
use Rattle.canon_context.specs.Lowers.{answer_of, ending_of}
use Rattle.canon_context.specs.declared.fault.Fault.{Fault}

-- only the guest and its memory may differ
abbrev pub SameBut : {T G : Type 0} → Parts T G → Parts T G → Type 0
SameBut before after = after ≡ record before { guest = after.guest; memory = after.memory }

-- only the guest, its memory and the ledger may differ
abbrev pub SameButHandles : {T G : Type 0} → Parts T G → Parts T G → Type 0
SameButHandles before after = after ≡ record before { guest = after.guest; memory = after.memory; ledger = after.ledger }

-- a block was asked for by this call
pub record AsksFor {T G : Type 0} (seen : G → Seen) (moves : GuestIn G → List Event → GuestIn G → Type 0) (before after : Parts T G) (c : Call) (result : Result ℕ Fault) : Type 0 where
  pub does : Reallocated (stage_of seen moves before) (stage_of seen moves after) c (ending_of result) (answer_of result)
  pub same : SameBut before after
  pub small : length after.memory ≤ 2 ^ 32
