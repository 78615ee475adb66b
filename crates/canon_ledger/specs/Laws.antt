-- Laws of the ledger: of one in hand, and over every list of its steps.
use Rattle.std.specs.Prelude.{◌≡◌, ℕ, ◌<◌, ◌≤◌, ◌==◌, Bool, true, false, All, List, [], ◌++◌, ◌∷◌, length, ◌⊎◌, Option, Some, None, option_map, Ok, Err}
use Rattle.canon_handles.specs.declared.handle.Scope.TheVariants.{Id}
use Rattle.canon_handles.specs.declared.handle.TypedResource.{TypedResource}
use Rattle.canon_handles.specs.declared.handle.TypedResource.TheVariants.{Host}
use Rattle.canon_handles.specs.declared.handle.Entry.{Entry}
use Rattle.canon_handles.specs.declared.handle.Entry.TheVariants.{ResourceOwn, ResourceBorrow}
use Rattle.canon_ledger.specs.declared.host.TableSlot.{TableSlot}
use Rattle.canon_ledger.specs.declared.fault.ResourceFault.{ResourceFault}
use Rattle.canon_handles.specs.Table.{entry_at}
use Rattle.canon_handles.specs.Calls.{is_own, lends_of, raw_index}
use Rattle.canon_ledger.specs.Handles.{Handles, Lender, IsConsistent, table_at, scope_at, sum_over_tables, stands}
use Rattle.canon_ledger.specs.Index.{GivenIndex}
use Rattle.canon_ledger.specs.Ledger.{LedgerState, LedgerStep, New, Drop, LiftOwn, LowerBorrow, HostLiftOwn, HostLiftBorrow, HostDrop, HostRemove, HostLowerOwn, HostLowerBorrow, do_step, run_steps, raised, slot_at, host_entry, last_generation, Through, Partway, IsAccepted, IsHostSound, new_ledger}

-- A ledger in hand

-- at the lender's table and index stands an own handle, which is lent
abbrev pub IsLent : Handles → Lender → Type 0
IsLent h lender = let o = entry_at (table_at h lender.table) (raw_index lender.index) in (is_own o ≡ true) × (0 < lends_of o)

-- What holds of each ledger that calls have made.
pub record LedgerLaws (l : LedgerState) : Type 0 where
  -- there are the host's table and those of 256 instances
  pub tables : length l.handles.tables ≡ 257
  -- what is counted: live handles are entries and lends, a lend count is the number of its handle's lenders in open scopes,
  -- and a scope's borrow count the number of borrow handles that name it; and each table's indexes are sound
  pub handles : IsConsistent l.handles
  -- what stands among a scope's lenders is an own handle that is lent
  pub lenders_are_lent : (k : ℕ) → All (IsLent l.handles) (scope_at l.handles k).lenders
  -- a borrow handle names an open scope
  pub borrows_are_open : (p i k : ℕ) (resource : TypedResource) → entry_at (table_at l.handles p) i ≡ Some (ResourceBorrow resource (Id k)) → k < length l.handles.scopes
  -- while no scope is open, nothing is lent, and the live handles are the entries
  pub none_lent_at_rest : l.handles.scopes ≡ [] → l.handles.counter.live ≡ sum_over_tables stands l.handles
  -- the host's slots: none is newer than the current generation, each handle has one, and that of an index without a handle is older
  pub host : IsHostSound l
  pub last_generation_at_most : l.host.generation ≤ last_generation
  -- an index that is accepted has the generation of the slot that stands there
  pub accepted_are_current : (x : GivenIndex) → IsAccepted x l → option_map (λ (s : TableSlot). s.generation) (slot_at l.host x.index) ≡ Some x.generation

-- Refusals

abbrev pub is_host_removal : LedgerStep → Bool
is_host_removal (Drop p idx) = p == 0
is_host_removal (LiftOwn p idx) = p == 0
is_host_removal (HostLiftOwn x) = true
is_host_removal (HostDrop x) = true
is_host_removal (HostRemove x) = true
is_host_removal _ = false

abbrev pub with_generation_raised : LedgerState → LedgerState
with_generation_raised l = record { handles = l.handles; host = raised l.host }

-- a refused step leaves the ledger as it was, but for the generation where it was a removal from the host's table
abbrev pub RefusalsChangeNothing : Type 0
RefusalsChangeNothing = (call : LedgerStep) (l : LedgerState) (e : ResourceFault) → (do_step call l).answer ≡ Err e →
    let l' = (do_step call l).after in
    (l' ≡ l) ⊎ ((is_host_removal call ≡ true) × (l' ≡ with_generation_raised l))

-- Handles

abbrev pub NewLedgersAreSound : Type 0
NewLedgersAreSound = (instances limit generation : ℕ) → IsConsistent (new_ledger instances limit generation).handles × IsHostSound (new_ledger instances limit generation)

-- every list of steps keeps the counts of live handles, of lends and of borrows
abbrev pub StepsKeepHandlesSound : Type 0
StepsKeepHandlesSound = (calls : List LedgerStep) (l : LedgerState) → IsConsistent l.handles → IsConsistent (run_steps calls l).handles

-- Host indexes

abbrev pub StepsKeepHostSound : Type 0
StepsKeepHostSound = (calls : List LedgerStep) (l : LedgerState) → IsConsistent l.handles → IsHostSound l → IsHostSound (run_steps calls l)

abbrev pub is_host_insertion : LedgerStep → Bool
is_host_insertion (New p resource) = p == 0
is_host_insertion (LowerBorrow scope p resource) = p == 0
is_host_insertion (HostLowerOwn rep dtor instance) = true
is_host_insertion (HostLowerBorrow scope rep) = true
is_host_insertion _ = false

-- the step is an insertion into the host's table, and gives this index
pub record GivesIndex (call : LedgerStep) (l : LedgerState) (x : GivenIndex) : Type 0 where
  pub insertion : is_host_insertion call ≡ true
  pub index : (do_step call l).answer ≡ Ok x.index
  pub generation : x.generation ≡ l.host.generation

-- a host index is accepted only while the entry of the insertion that gave it stands: where it is accepted after more steps, it was accepted all along
abbrev pub IndexesAnswerForTheirInsertion : Type 0
IndexesAnswerForTheirInsertion = (l : LedgerState) → IsConsistent l.handles → IsHostSound l → (call : LedgerStep) (x : GivenIndex) → GivesIndex call l x →
    (calls more : List LedgerStep) → IsAccepted x (run_steps (calls ++ more) (do_step call l).after) → IsAccepted x (run_steps calls (do_step call l).after)

-- what a handle is of: its resource, and for a borrow handle its scope
abbrev pub resource_and_scope : Option Entry → Option (TypedResource × Option ℕ)
resource_and_scope (Some (ResourceOwn resource lends)) = Some (resource, None)
resource_and_scope (Some (ResourceBorrow resource (Id k))) = Some (resource, Some k)
resource_and_scope _ = None

-- what the handle is of that an insertion makes
abbrev pub inserted : LedgerStep → Option (TypedResource × Option ℕ)
inserted (New p resource) = Some (resource, None)
inserted (LowerBorrow scope p resource) = Some (resource, scope)
inserted (HostLowerOwn rep dtor instance) = Some (Host rep, None)
inserted (HostLowerBorrow scope rep) = Some (Host rep, scope)
inserted _ = None

-- the slot that an insertion into the host's table writes in a generation
abbrev pub written_slot : LedgerStep → ℕ → TableSlot
written_slot (HostLowerOwn rep dtor instance) generation = record { generation = generation; instance = instance; dtor = dtor }
written_slot _ generation = record { generation = generation; instance = None; dtor = None }

-- at the index stands the handle of the insertion, but for its lends, with the slot of the insertion
pub record Names (call : LedgerStep) (x : GivenIndex) (l : LedgerState) : Type 0 where
  pub handle : resource_and_scope (host_entry l x.index) ≡ inserted call
  pub slot : slot_at l.host x.index ≡ Some (written_slot call x.generation)

-- while an index is accepted, it names what its insertion put there: the resource with its type and representation, the scope of a borrow handle, instance and destructor
abbrev pub IndexesNameTheirInsertion : Type 0
IndexesNameTheirInsertion = (l : LedgerState) → IsConsistent l.handles → IsHostSound l → (call : LedgerStep) (x : GivenIndex) → GivesIndex call l x →
    (calls : List LedgerStep) → IsAccepted x (run_steps calls (do_step call l).after) → Names call x (run_steps calls (do_step call l).after)

-- the index by which a step looks for a handle of the host
abbrev pub accessed : LedgerStep → Option GivenIndex
accessed (HostLiftOwn x) = Some x
accessed (HostLiftBorrow scope x) = Some x
accessed (HostDrop x) = Some x
accessed (HostRemove x) = Some x
accessed _ = None

-- a step that looks for a handle by an index and answers Ok accepted the index
abbrev pub AccessesAccept : Type 0
AccessesAccept = (call : LedgerStep) (x : GivenIndex) (l : LedgerState) (a : ℕ) → accessed call ≡ Some x → (do_step call l).answer ≡ Ok a → IsAccepted x l

-- one of the steps is an insertion that gave this index
pub record IsGivenIn (calls : List LedgerStep) (l : LedgerState) (x : GivenIndex) : Type 0 where
  pub before : List LedgerStep
  pub call : LedgerStep
  pub more : List LedgerStep
  pub split : calls ≡ before ++ call ∷ more
  pub gives : GivesIndex call (run_steps before l) x

-- from a new ledger, only indexes that insertions gave are accepted
abbrev pub AcceptedIndexesWereGiven : Type 0
AcceptedIndexesWereGiven = (instances limit generation : ℕ) (calls : List LedgerStep) (x : GivenIndex) →
    let l = new_ledger instances limit generation in
    IsAccepted x (run_steps calls l) → IsGivenIn calls l x

-- no later insertion gives the index again
abbrev pub IndexesAreGivenOnce : Type 0
IndexesAreGivenOnce = (l : LedgerState) → IsConsistent l.handles → IsHostSound l → (call : LedgerStep) (x : GivenIndex) → GivesIndex call l x →
    (calls : List LedgerStep) (again : LedgerStep) → GivesIndex again (run_steps calls (do_step call l).after) x → ⊥

-- Lists of steps

abbrev pub StepsCompose : Type 0
StepsCompose = (l m n : LedgerState) (calls more : List LedgerStep) → Through l calls m → Through m more n → Through l (calls ++ more) n

abbrev pub PartsCompose : Type 0
PartsCompose = (l m n : LedgerState) (calls more : List LedgerStep) → Through l calls m → Partway m more n → Partway l (calls ++ more) n

abbrev pub WholesAreParts : Type 0
WholesAreParts = (l m : LedgerState) (calls : List LedgerStep) → Through l calls m → Partway l calls m
