-- Dropping a resource: its handle is removed from the host's table, and the destructor of an own handle runs.
use Rattle.std.specs.Prelude.{Bool, Err, IsSome, List, None, Ok, OnOk, Option, Result, Some, [], false, is_some, length, option_map, true, ℕ, ◌&&◌, ◌∷◌, ◌≡◌, ◌⊎◌}
use Rattle.canon_ledger.specs.declared.fault.ResourceFault.{ResourceFault}
use Rattle.canon_ledger.specs.declared.fault.ResourceFault.TheVariants as refusal
use Rattle.canon_ledger.specs.declared.host.TableSlot.{TableSlot}
use Rattle.canon_ledger.specs.Index.{GivenIndex}
use Rattle.canon_ledger.specs.Ledger.{Enter, HostDrop, Leave, LedgerState, Through, enter, host_resource_drop, is_stale, slot_at}
use Rattle.canon_memory.specs.declared.event.Event.{Event}
use Rattle.canon_memory.specs.declared.event.Event.TheVariants as event
use Rattle.canon_memory.specs.Counts.{Rose}
use Rattle.canon_memory.specs.Guest.{Goes, GuestIn, Seen}
use Rattle.canon_memory.specs.Journal.{trap_event}
use Rattle.canon_types.specs.Refusal.{first_error}
use Rattle.canon_context.specs.Core.{Parts, guest_of, moment_of}
use Rattle.canon_context.specs.declared.fault.Fault.TheVariants as fault
use Rattle.canon_func.specs.Call.{OnAnswered}
use Rattle.canon_func.specs.Stores.{StoreView}
use Rattle.canon_func.specs.declared.dropping.Destructor.{Destructor}
use Rattle.canon_func.specs.declared.error.Error.{Error}
use Rattle.canon_func.specs.declared.error.Error.TheVariants as error

-- ---- before a scope is entered

-- the slot names an instance
abbrev pub names_instance : Option TableSlot → Bool
names_instance None = false
names_instance (Some slot) = is_some slot.instance

-- Why the handle at an index isn't dropped, before a scope is entered: the first reason counts.
abbrev pub drop_refusal : LedgerState → Bool → GivenIndex → Option Error
drop_refusal l trapped x = first_error (
    (is_stale l.host x, error.Fault (fault.Resource refusal.HostDeallocated))
    ∷ (names_instance (slot_at l.host x.index) && trapped, error.CannotEnterComponent)
    ∷ [])

-- ---- the destructor

-- the destructor of a removed own handle, where its slot has one, with the handle's representation
abbrev pub destructor_of : Option (ℕ × TableSlot) → Option Destructor
destructor_of None = None
destructor_of (Some (rep, slot)) = option_map (λ func. record { func = func; rep = rep }) slot.dtor

-- the same, by what the removal answers
abbrev pub destructor_by : Result (Option (ℕ × TableSlot)) ResourceFault → Option Destructor
destructor_by (Ok removed) = destructor_of removed
destructor_by (Err e) = None

-- the destructor that dropping the handle at an index runs, if it runs one
abbrev pub destructor_at : LedgerState → GivenIndex → Option Destructor
destructor_at l x = destructor_by (host_resource_drop l x).answer

-- What it adds to an exposed journal, by the answer: its run, with the trap after it where it trapped; nothing where memory was short.
abbrev pub destructor_events : Option Destructor → List ℕ → Result (Unit {0}) Error → List Event
destructor_events None memory answer = []
destructor_events (Some d) memory (Ok _) = event.Dtor d.func d.rep ∷ []
destructor_events (Some d) memory (Err (error.Fault fault.GuestTrap)) = event.Dtor d.func d.rep ∷ trap_event (length memory) ∷ []
destructor_events (Some d) memory (Err _) = []

-- a destructor may make this of memory; without one it stays
abbrev pub LeavesMemory : (List ℕ → List ℕ → Type 0) → Option Destructor → List ℕ → List ℕ → Type 0
LeavesMemory Leaves None before after = after ≡ before
LeavesMemory Leaves (Some d) before after = Leaves before after

-- The guest ran a destructor once and did nothing else; without a destructor nothing of it changes.
pub record Ran {T G : Type 0} (seen : G → Seen) (moves : GuestIn G → List Event → GuestIn G → Type 0) (Leaves : List ℕ → List ℕ → Type 0)
    (destructor : Option Destructor) (before after : Parts T G) (answer : Result (Unit {0}) Error) : Type 0 where
  pub goes : Goes (moment_of seen before) (moment_of seen after) [] (destructor_events destructor before.memory answer)
  pub moved : OnAnswered answer (moves (guest_of before) (destructor_events destructor before.memory answer) (guest_of after))
  pub memory : OnOk answer (LeavesMemory Leaves destructor before.memory after.memory)
  pub idle : destructor ≡ None → (after.guest ≡ before.guest) × (after.memory ≡ before.memory)

-- ---- the whole

-- The handle is gone, and the scope in which it was removed was left.
pub record IsDropped (x : GivenIndex) (before after : LedgerState) (was_trapped trapped : Bool) : Type 0 where
  pub steps : Through before (Enter ∷ HostDrop x ∷ Leave ∷ []) after
  pub ledger : after ≡ (host_resource_drop before x).after
  pub same_trapped : trapped ≡ was_trapped

-- The handle is gone, but its destructor failed: the scope in which it ran stays open, and the store is trapped.
pub record IsCutOff (x : GivenIndex) (before after : LedgerState) (trapped : Bool) : Type 0 where
  pub has_destructor : IsSome (destructor_at before x)
  pub steps : Through before (Enter ∷ HostDrop x ∷ []) after
  pub ledger : after ≡ enter (host_resource_drop before x).after
  pub now_trapped : trapped ≡ true

-- a store with another ledger
abbrev pub with_ledger : {T G I : Type 0} → StoreView T G I → LedgerState → StoreView T G I
with_ledger store l = record store { core = record store.core { ledger = l } }

-- What became of the handle and of the store, by the answer: a refused removal leaves what the ledger's step does.
abbrev pub DropAnswers : {T G I : Type 0} → (G → Seen) → GivenIndex → StoreView T G I → StoreView T G I → Result (Unit {0}) Error → Type 0
DropAnswers seen x before after (Ok _) = IsDropped x before.core.ledger after.core.ledger before.trapped after.trapped
DropAnswers seen x before after (Err (error.Fault fault.GuestTrap)) = IsCutOff x before.core.ledger after.core.ledger after.trapped × Rose (seen before.core.guest).traps (seen after.core.guest).traps
DropAnswers seen x before after (Err (error.Fault fault.OutOfMemory)) = (after ≡ before) ⊎ IsCutOff x before.core.ledger after.core.ledger after.trapped
DropAnswers seen x before after (Err (error.Fault (fault.Resource e))) =
    ((host_resource_drop before.core.ledger x).answer ≡ Err e) × (after ≡ with_ledger before (host_resource_drop before.core.ledger x).after)
DropAnswers seen x before after (Err _) = ⊥

-- A drop of the handle at an index that wasn't refused before a scope was entered.
pub record IsDrop {T G I : Type 0} (seen : G → Seen) (moves : GuestIn G → List Event → GuestIn G → Type 0) (Leaves : List ℕ → List ℕ → Type 0)
    (x : GivenIndex) (before after : StoreView T G I) (answer : Result (Unit {0}) Error) : Type 0 where
  pub outcome : DropAnswers seen x before after answer
  pub destructor : Ran seen moves Leaves (destructor_at before.core.ledger x) before.core after.core answer
  pub same : after.core ≡ record before.core { guest = after.core.guest; memory = after.core.memory; ledger = after.core.ledger }

-- ---- the steps

-- A scope was entered and the handle removed in it, with this destructor to run.
pub record IsRemoved (l : LedgerState) (x : GivenIndex) (destructor : Option Destructor) (l' : LedgerState) : Type 0 where
  pub removed : Option (ℕ × TableSlot)
  pub answered : (host_resource_drop l x).answer ≡ Ok removed
  pub asks : destructor ≡ destructor_of removed
  pub ledger : l' ≡ enter (host_resource_drop l x).after

-- what a removal in a scope leaves, by its answer; where it is refused, the scope was left
abbrev pub Removes : LedgerState → GivenIndex → LedgerState → Result (Option Destructor) Error → Type 0
Removes l x l' (Ok destructor) = IsRemoved l x destructor l'
Removes l x l' (Err (error.Fault fault.OutOfMemory)) = l' ≡ l
Removes l x l' (Err (error.Fault (fault.Resource e))) = ((host_resource_drop l x).answer ≡ Err e) × (l' ≡ (host_resource_drop l x).after)
Removes l x l' (Err _) = ⊥

-- why a destructor failed: there is one, and it trapped or was out of memory
abbrev pub Failed : {T G : Type 0} → (G → Seen) → Option Destructor → Parts T G → Parts T G → Error → Type 0
Failed seen destructor before after (error.Fault fault.GuestTrap) = IsSome destructor × Rose (seen before.guest).traps (seen after.guest).traps
Failed seen destructor before after (error.Fault fault.OutOfMemory) = IsSome destructor
Failed seen destructor before after _ = ⊥
