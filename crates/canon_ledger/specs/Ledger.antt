-- The ledger: the handles of a store, and the generations by which the host's indexes are kept apart.
use Rattle.std.specs.Prelude.{◌≡◌, ℕ, zero, suc, ◌+◌, ◌*◌, ◌==◌, nat_le, Bool, true, false, not, List, [], ◌∷◌, length, ◌⊎◌, Option, Some, None, Result, Ok, Err, slice_index_or, replicate, is_some, IfSome, ◌<◌, ◌≤◌}
use Rattle.canon_ledger.specs.declared.host.TableSlot.{TableSlot}
use Rattle.canon_handles.specs.declared.handle.TypedResource.{TypedResource}
use Rattle.canon_handles.specs.declared.handle.TypedResource.TheVariants.{Host}
use Rattle.canon_handles.specs.declared.handle.TypedResourceIndex.{TypedResourceIndex}
use Rattle.canon_handles.specs.declared.handle.TypedResourceIndex.TheVariants.{Host as HostIndex}
use Rattle.canon_ledger.specs.declared.fault.ResourceFault.{ResourceFault}
use Rattle.canon_ledger.specs.declared.fault.ResourceFault.TheVariants as fault
use Rattle.canon_handles.specs.Step.{refuse_if, and_then, put}
use Rattle.canon_handles.specs.declared.handle.Entry.{Entry}
use Rattle.canon_handles.specs.Table.{entry_at, empty_table, max_handle}
use Rattle.canon_ledger.specs.Handles as handles
use Rattle.canon_ledger.specs.Index.{GivenIndex}
use Rattle.canon_ledger.specs.Handles.{Handles, StepAnswer, host_table, table_at}

-- slots has what the host remembers of each index that its table gave, and generation is the current one
pub record HostIndexes : Type 0 where
  pub slots : List (Option TableSlot)
  pub generation : ℕ

pub record LedgerState : Type 0 where
  pub handles : Handles
  pub host : HostIndexes

-- what a call answers, and the ledger after it
pub record Done (A : Type 0) : Type 0 where
  pub answer : Result A ResourceFault
  pub after : LedgerState

abbrev pub last_generation : ℕ
last_generation = 4294967292

abbrev pub slot_at : HostIndexes → ℕ → Option TableSlot
slot_at host i = slice_index_or host.slots i None

abbrev pub slot_is_stale : Option TableSlot → ℕ → Bool
slot_is_stale None generation = false
slot_is_stale (Some slot) generation = not (slot.generation == generation)

-- the index was given again since
abbrev pub is_stale : HostIndexes → GivenIndex → Bool
is_stale host x = slot_is_stale (slot_at host x.index) x.generation

-- an insertion at index i
abbrev pub with_slot : HostIndexes → ℕ → Option ℕ → Option ℕ → HostIndexes
with_slot host i instance dtor =
    record { slots = put host.slots i (Some (record { generation = host.generation; instance = instance; dtor = dtor })); generation = host.generation }

-- a removal
abbrev pub raised : HostIndexes → HostIndexes
raised host = record { slots = host.slots; generation = host.generation + 1 }

-- Calls of the resource tables

abbrev pub refused : {A : Type 0} → ResourceFault → LedgerState → Done A
refused e l = record { answer = Err e; after = l }

-- a call that leaves the host's generations
abbrev pub plainly : {A : Type 0} → StepAnswer A → LedgerState → Done A
plainly (Ok (a, h)) l = record { answer = Ok a; after = record { handles = h; host = l.host } }
plainly (Err e) l = refused e l

-- an insertion into table p, which at the host's writes the slot of its index
abbrev pub inserting : ℕ → Option ℕ → Option ℕ → StepAnswer ℕ → LedgerState → Done ℕ
inserting zero instance dtor (Ok (i, h)) l = record { answer = Ok i; after = record { handles = h; host = with_slot l.host i instance dtor } }
inserting zero instance dtor (Err e) l = refused e l
inserting (suc n) instance dtor r l = plainly r l

-- a removal at the host's table, which raises the generation even where it is refused then
abbrev pub host_removing : {A : Type 0} → Bool → (Handles → StepAnswer A) → LedgerState → Done A
host_removing true step l = refused fault.GenerationExhausted l
host_removing false step l = plainly (step l.handles) (record { handles = l.handles; host = raised l.host })

abbrev pub removing : {A : Type 0} → ℕ → (Handles → StepAnswer A) → LedgerState → Done A
removing zero step l = host_removing (nat_le last_generation l.host.generation) step l
removing (suc n) step l = plainly (step l.handles) l

abbrev pub resource_new : LedgerState → ℕ → TypedResource → Done ℕ
resource_new l p resource = inserting p None None (handles.resource_new l.handles p resource) l

abbrev pub resource_rep : LedgerState → ℕ → TypedResourceIndex → Result ℕ ResourceFault
resource_rep l p idx = handles.resource_rep l.handles p idx

abbrev pub resource_drop : LedgerState → ℕ → TypedResourceIndex → Done (Option ℕ)
resource_drop l p idx = removing p (λ h. handles.resource_drop h p idx) l

abbrev pub resource_lift_own : LedgerState → ℕ → TypedResourceIndex → Done ℕ
resource_lift_own l p idx = removing p (λ h. handles.resource_lift_own h p idx) l

abbrev pub resource_lift_borrow : Option ℕ → LedgerState → ℕ → TypedResourceIndex → Done ℕ
resource_lift_borrow scope l p idx = plainly (handles.resource_lift_borrow scope l.handles p idx) l

abbrev pub resource_lower_borrow : Option ℕ → LedgerState → ℕ → TypedResource → Done ℕ
resource_lower_borrow scope l p resource = inserting p None None (handles.resource_lower_borrow scope l.handles p resource) l

abbrev pub validate_scope_exit : Option ℕ → LedgerState → Done (Unit {0})
validate_scope_exit scope l = plainly (handles.validate_scope_exit scope l.handles) l

abbrev pub enter : LedgerState → LedgerState
enter l = record { handles = handles.enter l.handles; host = l.host }

abbrev pub leave : LedgerState → LedgerState
leave l = record { handles = handles.leave l.handles; host = l.host }

abbrev pub set_limit : LedgerState → ℕ → LedgerState
set_limit l n = record { handles = handles.set_limit l.handles n; host = l.host }

-- Calls by host indexes

abbrev pub unless_stale : {A : Type 0} → LedgerState → Bool → Done A → Done A
unless_stale l true d = refused fault.HostDeallocated l
unless_stale l false d = d

abbrev pub host_resource_lift_own : LedgerState → GivenIndex → Done ℕ
host_resource_lift_own l x = unless_stale l (is_stale l.host x) (resource_lift_own l host_table (HostIndex x.index))

abbrev pub host_resource_lift_borrow : Option ℕ → LedgerState → GivenIndex → Done ℕ
host_resource_lift_borrow scope l x = unless_stale l (is_stale l.host x) (resource_lift_borrow scope l host_table (HostIndex x.index))

-- a removed own handle's representation, with what the host remembers of its index
abbrev pub with_its_slot : Option TableSlot → Option ℕ → Option (ℕ × TableSlot)
with_its_slot (Some s) (Some rep) = Some (rep, s)
with_its_slot (Some s) None = None
with_its_slot None rep = None

abbrev pub with_slot_answered : Option TableSlot → Done (Option ℕ) → Done (Option (ℕ × TableSlot))
with_slot_answered s d = record { answer = and_then d.answer (λ rep. Ok (with_its_slot s rep)); after = d.after }

abbrev pub host_resource_drop : LedgerState → GivenIndex → Done (Option (ℕ × TableSlot))
host_resource_drop l x = unless_stale l (is_stale l.host x) (with_slot_answered (slot_at l.host x.index) (resource_drop l host_table (HostIndex x.index)))

-- what f makes of the answer
abbrev pub mapped : {A B : Type 0} → (A → B) → Done A → Done B
mapped f d = record { answer = and_then d.answer (λ a. Ok (f a)); after = d.after }

-- where the handle's representation was answered, the handle is removed
abbrev pub removed_once_told : Result ℕ ResourceFault → LedgerState → GivenIndex → Done ℕ
removed_once_told (Ok rep) l x = mapped (λ _. rep) (host_resource_drop l x)
removed_once_told (Err e) l x = refused e l

-- a handle is removed, and its representation is answered first, which changes nothing
abbrev pub host_resource_remove : LedgerState → GivenIndex → Done ℕ
host_resource_remove l x = unless_stale l (is_stale l.host x) (removed_once_told (resource_rep l host_table (HostIndex x.index)) l x)

abbrev pub slot : LedgerState → GivenIndex → Result (Option TableSlot) ResourceFault
slot l x = refuse_if (is_stale l.host x) fault.HostDeallocated (Ok (slot_at l.host x.index))

abbrev pub host_resource_lower_own : LedgerState → ℕ → Option ℕ → Option ℕ → Done ℕ
host_resource_lower_own l rep dtor instance = inserting host_table instance dtor (handles.resource_new l.handles host_table (Host rep)) l

abbrev pub host_resource_lower_borrow : Option ℕ → LedgerState → ℕ → Done ℕ
host_resource_lower_borrow scope l rep = resource_lower_borrow scope l host_table (Host rep)

-- an insertion's index, with the generation before it, in which it is given
abbrev pub given : LedgerState → Done ℕ → Done GivenIndex
given l d = record { answer = and_then d.answer (λ i. Ok (record { index = i; generation = l.host.generation })); after = d.after }

-- Lists of steps

-- A step of the ledger. The first argument of most is the number of a table.
pub data LedgerStep : Type 0 where
  Enter : LedgerStep
  Leave : LedgerStep
  SetLimit : ℕ → LedgerStep
  New : ℕ → TypedResource → LedgerStep
  Rep : ℕ → TypedResourceIndex → LedgerStep
  Drop : ℕ → TypedResourceIndex → LedgerStep
  LiftOwn : ℕ → TypedResourceIndex → LedgerStep
  LiftBorrow : Option ℕ → ℕ → TypedResourceIndex → LedgerStep
  LowerBorrow : Option ℕ → ℕ → TypedResource → LedgerStep
  ExitScope : Option ℕ → LedgerStep
  HostLiftOwn : GivenIndex → LedgerStep
  HostLiftBorrow : Option ℕ → GivenIndex → LedgerStep
  HostDrop : GivenIndex → LedgerStep
  HostRemove : GivenIndex → LedgerStep
  HostLowerOwn : ℕ → Option ℕ → Option ℕ → LedgerStep
  HostLowerBorrow : Option ℕ → ℕ → LedgerStep

-- a step that answers nothing
abbrev pub done : LedgerState → Done ℕ
done l = record { answer = Ok 0; after = l }

-- what canon resource.drop answers the guest: for a removed own handle that its destructor is to run, and on what
abbrev pub drop_return : Option ℕ → ℕ
drop_return (Some rep) = 2 * rep + 1
drop_return None = 0

abbrev pub host_drop_return : Option (ℕ × TableSlot) → ℕ
host_drop_return (Some w) = drop_return (Some w.0)
host_drop_return None = drop_return None

-- a step's answer as a number
abbrev pub numbered : {A : Type 0} → (A → ℕ) → Done A → Done ℕ
numbered f d = record { answer = and_then d.answer (λ a. Ok (f a)); after = d.after }

-- a scope that is not empty is not left
abbrev pub leaving : Bool → LedgerState → Done ℕ
leaving true l = done (leave l)
leaving false l = refused fault.NoScope l

-- what a step does; its answer as a number: the representation or the index, and of a drop what canon resource.drop answers
abbrev pub do_step : LedgerStep → LedgerState → Done ℕ
do_step Enter l = done (enter l)
do_step Leave l = leaving (handles.can_leave l.handles) l
do_step (SetLimit n) l = done (set_limit l n)
do_step (New p resource) l = resource_new l p resource
do_step (Rep p idx) l = record { answer = resource_rep l p idx; after = l }
do_step (Drop p idx) l = numbered drop_return (resource_drop l p idx)
do_step (LiftOwn p idx) l = resource_lift_own l p idx
do_step (LiftBorrow scope p idx) l = resource_lift_borrow scope l p idx
do_step (LowerBorrow scope p resource) l = resource_lower_borrow scope l p resource
do_step (ExitScope scope) l = numbered (λ _. 0) (validate_scope_exit scope l)
do_step (HostLiftOwn x) l = host_resource_lift_own l x
do_step (HostLiftBorrow scope x) l = host_resource_lift_borrow scope l x
do_step (HostDrop x) l = numbered host_drop_return (host_resource_drop l x)
do_step (HostRemove x) l = host_resource_remove l x
do_step (HostLowerOwn rep dtor instance) l = host_resource_lower_own l rep dtor instance
do_step (HostLowerBorrow scope rep) l = host_resource_lower_borrow scope l rep

-- the ledger after steps, refused or not
abbrev pub run_steps : List LedgerStep → LedgerState → LedgerState
run_steps [] l = l
run_steps (call ∷ calls) l = run_steps calls (do_step call l).after

-- what each step answers
abbrev pub answers : List LedgerStep → LedgerState → List (Result ℕ ResourceFault)
answers [] l = []
answers (call ∷ calls) l = (do_step call l).answer ∷ answers calls (do_step call l).after

-- every step is accepted, and the last leaves l'
abbrev pub Through : LedgerState → List LedgerStep → LedgerState → Type 0
Through l [] l' = l' ≡ l
Through l (call ∷ calls) l' = (a : ℕ) × ((do_step call l).answer ≡ Ok a) × Through (do_step call l).after calls l'

-- the steps are accepted up to some step, and if a step is refused there, l' is what it leaves
abbrev pub Partway : LedgerState → List LedgerStep → LedgerState → Type 0
Partway l [] l' = l' ≡ l
Partway l (call ∷ calls) l' =
    (l' ≡ l)
    ⊎ ((e : ResourceFault) × ((do_step call l).answer ≡ Err e) × (l' ≡ (do_step call l).after))
    ⊎ ((a : ℕ) × ((do_step call l).answer ≡ Ok a) × Partway (do_step call l).after calls l')

-- a ledger before its first step
abbrev pub new_ledger : ℕ → ℕ → ℕ → LedgerState
new_ledger instances limit generation =
    record {
      handles = record { tables = replicate (suc instances) (empty_table max_handle); counter = record { live = 0; limit = limit }; scopes = [] };
      host = record { slots = None ∷ []; generation = generation };
    }

-- Host indexes

-- what stands at an index of the host's table
abbrev pub host_entry : LedgerState → ℕ → Option Entry
host_entry l i = entry_at (table_at l.handles host_table) i

-- an index that an access takes, and at which there is an entry
pub record IsAccepted (x : GivenIndex) (l : LedgerState) : Type 0 where
  pub current : is_stale l.host x ≡ false
  pub stands : is_some (host_entry l x.index) ≡ true

-- what every step keeps of the host's generations
pub record IsHostSound (l : LedgerState) : Type 0 where
  pub one_slot_each : length l.host.slots ≡ length (table_at l.handles host_table).array
  pub no_slot_above : (i : ℕ) → IfSome (slot_at l.host i) (λ s. s.generation ≤ l.host.generation)
  pub entries_have_slots : (i : ℕ) → is_some (host_entry l i) ≡ true → is_some (slot_at l.host i) ≡ true
  pub spent_slots_below : (i : ℕ) → is_some (host_entry l i) ≡ false → IfSome (slot_at l.host i) (λ s. s.generation < l.host.generation)

-- Contracts

-- a call answers what the step does, or wants memory and changes nothing
abbrev pub Did : {A : Type 0} → Done A → Result A ResourceFault → LedgerState → LedgerState → Type 0
Did d (Ok a) l l' = (d.answer ≡ Ok a) × (l' ≡ d.after)
Did d (Err e) l l' = ((d.answer ≡ Err e) × (l' ≡ d.after)) ⊎ ((e ≡ fault.OutOfMemory) × (l' ≡ l))
