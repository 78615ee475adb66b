-- Faults of a guest, and refusals of the ledger.
use Rattle.std.specs.Prelude.{◌≡◌, Bool, Err, Ok, Result, false, true, ℕ, Option, None}
use Rattle.canon_ledger.specs.declared.fault.ResourceFault.{ResourceFault}
use Rattle.canon_ledger.specs.declared.fault.ResourceFault.TheVariants as resource
use Rattle.canon_ledger.specs.Ledger.{Did, Done, LedgerState}
use Rattle.canon_resources.specs.Parts.{Part, borrow_in, is_defined_here, refusal_of, table_for, tell}
use Rattle.canon_types.specs.Instance.{Instance}
use Rattle.canon_memory.specs.declared.error.GuestFault.{GuestFault}
use Rattle.canon_memory.specs.declared.error.GuestFault.TheVariants as guest
use Rattle.canon_context.specs.declared.fault.Fault.{Fault}
use Rattle.canon_context.specs.declared.fault.Fault.TheVariants as fault

abbrev pub fault_of : GuestFault → Fault
fault_of guest.Trap = fault.GuestTrap
fault_of guest.OutOfMemory = fault.OutOfMemory

-- out of memory is reported as such, and any other refusal as it is
abbrev pub resource_fault : ResourceFault → Fault
resource_fault resource.OutOfMemory = fault.OutOfMemory
resource_fault e = fault.Resource e

abbrev pub faulted : {A : Type 0} → Result A ResourceFault → Result A Fault
faulted (Ok a) = Ok a
faulted (Err e) = Err (resource_fault e)

-- the refusal that stopped a walk, if it was the ledger's; out of memory is none
abbrev pub stop_of : Fault → Option ResourceFault
stop_of (fault.Resource e) = refusal_of e
stop_of _ = None

-- a step of the ledger, its refusal reported as a fault
pub record Stepped {A : Type 0} (d : Done A) (result : Result A Fault) (l l2 : LedgerState) : Type 0 where
  pub told : Result A ResourceFault
  pub result_is : result ≡ faulted told
  pub did : Did d told l l2

-- the same of a step that never wants memory
abbrev pub SteppedSurely : {A : Type 0} → Done A → Result A Fault → LedgerState → Type 0
SteppedSurely d result l2 = (result ≡ faulted d.answer) × (l2 ≡ d.after)

-- a borrow of a representation for an instance: a handle of its table, or where it defines the type the representation itself
abbrev pub part_for : Bool → Instance → ℕ → ℕ → Part
part_for true i ty rep = tell rep
part_for false i ty rep = borrow_in (table_for i ty) ty

abbrev pub borrow_part : Instance → ℕ → ℕ → Part
borrow_part i ty rep = part_for (is_defined_here i ty) i ty rep
