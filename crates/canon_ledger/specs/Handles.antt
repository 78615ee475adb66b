-- The handle tables of a store, with the counter of them all and the open scopes.
use Rattle.std.specs.Prelude.{◌≡◌, ℕ, suc, ◌+◌, ◌-◌, ◌==◌, nat_lt, Bool, true, false, not, ◌&&◌, if◌then◌else◌, List, [], ◌∷◌, ◌++◌, length, take, Option, Some, None, Result, Ok, Err, slice_index_or, slice_set, sum_by, is_some, is_ok, ◌⊎◌}
use Rattle.canon_handles.specs.declared.handle.Scope.{Scope}
use Rattle.canon_handles.specs.declared.handle.Scope.TheVariants.{Id}
use Rattle.canon_handles.specs.declared.handle.TypedResource.{TypedResource}
use Rattle.canon_handles.specs.declared.handle.TypedResourceIndex.{TypedResourceIndex}
use Rattle.canon_handles.specs.declared.handle.RemovedResource.{RemovedResource}
use Rattle.canon_handles.specs.declared.handle.RemovedResource.TheVariants.{Own, Borrow}
use Rattle.canon_handles.specs.declared.handle.Entry.{Entry}
use Rattle.canon_handles.specs.declared.handle.Entry.TheVariants.{ResourceBorrow}
use Rattle.canon_handles.specs.declared.error.HandleError.{HandleError}
use Rattle.canon_handles.specs.declared.error.HandleError.TheVariants as error
use Rattle.canon_ledger.specs.declared.fault.ResourceFault.{ResourceFault}
use Rattle.canon_ledger.specs.declared.fault.ResourceFault.TheVariants as fault
use Rattle.canon_handles.specs.Step.{refuse_if, and_then, one_if}
use Rattle.canon_handles.specs.Table.{Table, Counter, Outcome, empty_table, entry_at, with_limit, IsTable}
use Rattle.canon_handles.specs.Calls as table
use Rattle.canon_handles.specs.Calls.{raw_index, lends_of}

-- A lent own handle: the table in which the lending call found it, and its typed index.
pub record Lender : Type 0 where
  pub table : ℕ
  pub index : TypedResourceIndex

-- A borrow scope: the handles lent to its call, and the number of borrow handles that the call has yet to drop.
pub record OpenScope : Type 0 where
  pub lenders : List Lender
  pub borrow_count : ℕ

-- tables has the host's table first, and then that of each instance; scopes has the open scopes, the current one last
pub record Handles : Type 0 where
  pub tables : List (Table Entry)
  pub counter : Counter
  pub scopes : List OpenScope

abbrev pub host_table : ℕ
host_table = 0

abbrev pub instance_table : ℕ → ℕ
instance_table n = suc n

-- a table that there is not gives no index
abbrev pub table_at : Handles → ℕ → Table Entry
table_at h p = slice_index_or h.tables p (empty_table 0)

abbrev pub with_table : Handles → ℕ → Table Entry → Counter → Handles
with_table h p t c = record { tables = slice_set h.tables p t; counter = c; scopes = h.scopes }

abbrev pub no_scope : OpenScope
no_scope = record { lenders = []; borrow_count = 0 }

abbrev pub one_lender_more : OpenScope → Lender → OpenScope
one_lender_more s lender = record { lenders = s.lenders ++ lender ∷ []; borrow_count = s.borrow_count }

abbrev pub one_borrow_more : OpenScope → OpenScope
one_borrow_more s = record { lenders = s.lenders; borrow_count = s.borrow_count + 1 }

abbrev pub one_borrow_less : OpenScope → OpenScope
one_borrow_less s = record { lenders = s.lenders; borrow_count = s.borrow_count - 1 }

abbrev pub scope_at : Handles → ℕ → OpenScope
scope_at h k = slice_index_or h.scopes k no_scope

abbrev pub with_scope : Handles → ℕ → OpenScope → Handles
with_scope h k s = record { tables = h.tables; counter = h.counter; scopes = slice_set h.scopes k s }

-- the fault of a refused call on a table, at an index of it
abbrev pub fault_at : ℕ → HandleError → ResourceFault
fault_at i error.UnknownHandle = fault.UnknownHandle i
fault_at i error.ResourceTypeMismatch = fault.ResourceTypeMismatch
fault_at i error.StillLent = fault.StillLent i
fault_at i error.TooManyLends = fault.TooManyLends i
fault_at i error.HandleLimit = fault.HandleLimit
fault_at i error.IndexOverflow = fault.IndexOverflow
fault_at i error.OutOfMemory = fault.OutOfMemory
-- the others don't come from calls on resources
fault_at i _ = fault.NotAResource i

-- what a call answers, with what it leaves
abbrev pub StepAnswer : Type 0 → Type 0
StepAnswer A = Result (A × Handles) ResourceFault

abbrev pub finished : {A : Type 0} → Handles → ℕ → ℕ → Outcome Entry A → StepAnswer A
finished h p i (Ok (a, t, c)) = Ok (a, with_table h p t c)
finished h p i (Err e) = Err (fault_at i e)

-- a call on table p, about its index i
abbrev pub on_table : {A : Type 0} → Handles → ℕ → ℕ → (Table Entry → Counter → Outcome Entry A) → StepAnswer A
on_table h p i step = finished h p i (step (table_at h p) h.counter)

abbrev pub at_index : {A : Type 0} → ℕ → Result A HandleError → Result A ResourceFault
at_index i (Ok a) = Ok a
at_index i (Err e) = Err (fault_at i e)

-- the current scope, if it is open
abbrev pub opened : Handles → Option ℕ → Option ℕ
opened h None = None
opened h (Some k) = if nat_lt k (length h.scopes) then Some k else None

-- Scopes

-- the top open scope
abbrev pub top_scope : Handles → Option ℕ
top_scope h = if length h.scopes == 0 then None else Some (length h.scopes - 1)

abbrev pub enter : Handles → Handles
enter h = record { tables = h.tables; counter = h.counter; scopes = h.scopes ++ no_scope ∷ [] }

abbrev pub is_empty_scope : OpenScope → Bool
is_empty_scope s = (length s.lenders == 0) && (s.borrow_count == 0)

-- there is a current scope, and it is empty
abbrev pub can_leave : Handles → Bool
can_leave h = nat_lt 0 (length h.scopes) && is_empty_scope (scope_at h (length h.scopes - 1))

abbrev pub leave : Handles → Handles
leave h = record { tables = h.tables; counter = h.counter; scopes = take (length h.scopes - 1) h.scopes }

abbrev pub set_limit : Handles → ℕ → Handles
set_limit h n = record { tables = h.tables; counter = with_limit h.counter n; scopes = h.scopes }

-- Calls on resources

-- canon resource.new, and lower_own
abbrev pub resource_new : Handles → ℕ → TypedResource → StepAnswer ℕ
resource_new h p resource = on_table h p 0 (λ t c. table.resource_own_insert t c resource)

-- canon resource.rep
abbrev pub resource_rep : Handles → ℕ → TypedResourceIndex → Result ℕ ResourceFault
resource_rep h p idx = at_index (raw_index idx) (table.handle_rep (table_at h p) idx)

-- one borrow handle fewer names scope k
abbrev pub borrow_dropped : Handles → ℕ → Handles
borrow_dropped h k = with_scope h k (one_borrow_less (scope_at h k))

abbrev pub borrow_added : Handles → ℕ → Handles
borrow_added h k = with_scope h k (one_borrow_more (scope_at h k))

abbrev pub lender_added : Handles → ℕ → Lender → Handles
lender_added h k lender = with_scope h k (one_lender_more (scope_at h k) lender)

abbrev pub number_of : Scope → ℕ
number_of (Id k) = k

abbrev pub dropped : RemovedResource × Handles → StepAnswer (Option ℕ)
dropped (Own rep, h) = Ok (Some rep, h)
dropped (Borrow scope, h) = Ok (None, borrow_dropped h (number_of scope))

-- a handle is removed, whichever it is
abbrev pub removing_resource : Handles → ℕ → TypedResourceIndex → StepAnswer RemovedResource
removing_resource h p idx = on_table h p (raw_index idx) (λ t c. table.remove_resource t c idx)

-- the index names a borrow handle of its type
abbrev pub names_borrow : Handles → ℕ → TypedResourceIndex → Bool
names_borrow h p idx = is_ok (resource_rep h p idx) && not (table.is_own (entry_at (table_at h p) (raw_index idx)))

-- canon resource.drop: the representation of a removed own handle
abbrev pub resource_drop : Handles → ℕ → TypedResourceIndex → StepAnswer (Option ℕ)
resource_drop h p idx = and_then (removing_resource h p idx) dropped

abbrev pub lifted_own : RemovedResource × Handles → StepAnswer ℕ
lifted_own (Own rep, h) = Ok (rep, h)
lifted_own (Borrow scope, h) = Err fault.BorrowAsOwn

-- lift_own
abbrev pub resource_lift_own : Handles → ℕ → TypedResourceIndex → StepAnswer ℕ
resource_lift_own h p idx = and_then (removing_resource h p idx) lifted_own

-- an own handle is lent once more, and what a borrow handle names is answered
abbrev pub lending : Handles → ℕ → TypedResourceIndex → StepAnswer (ℕ × Bool)
lending h p idx = on_table h p (raw_index idx) (λ t c. table.resource_lend t c idx)

abbrev pub lent : ℕ → Lender → (ℕ × Bool) × Handles → StepAnswer ℕ
lent k lender ((rep, true), h) = Ok (rep, lender_added h k lender)
lent k lender ((rep, false), h) = Ok (rep, h)

-- lift_borrow in a scope that is open, or in none
abbrev pub lift_borrow_in : Option ℕ → Handles → ℕ → TypedResourceIndex → StepAnswer ℕ
lift_borrow_in (Some k) h p idx = and_then (lending h p idx) (lent k (record { table = p; index = idx }))
lift_borrow_in None h p idx =
    and_then (resource_rep h p idx) (λ rep.
    refuse_if (table.is_own (entry_at (table_at h p) (raw_index idx))) fault.NoScope
    (Ok (rep, h)))

abbrev pub resource_lift_borrow : Option ℕ → Handles → ℕ → TypedResourceIndex → StepAnswer ℕ
resource_lift_borrow scope h p idx = lift_borrow_in (opened h scope) h p idx

-- a new borrow handle of scope k
abbrev pub inserting_borrow : Handles → ℕ → TypedResource → ℕ → StepAnswer ℕ
inserting_borrow h p resource k = on_table h p 0 (λ t c. table.resource_borrow_insert t c resource (Id k))

abbrev pub lower_borrow_in : Option ℕ → Handles → ℕ → TypedResource → StepAnswer ℕ
lower_borrow_in (Some k) h p resource =
    and_then (inserting_borrow h p resource k) (λ (i, h'). Ok (i, borrow_added h' k))
lower_borrow_in None h p resource = Err fault.NoScope

-- lower_borrow
abbrev pub resource_lower_borrow : Option ℕ → Handles → ℕ → TypedResource → StepAnswer ℕ
resource_lower_borrow scope h p resource = lower_borrow_in (opened h scope) h p resource

abbrev pub undone : Handles → StepAnswer (Unit {0}) → Handles
undone h (Ok (a, h')) = h'
undone h (Err e) = h

-- the lends are given back, each in the table in which it was found
abbrev pub give_back : List Lender → Handles → Handles
give_back [] h = h
give_back (lender ∷ lenders) h =
    give_back lenders (undone h (on_table h lender.table (raw_index lender.index) (λ t c. table.resource_undo_lend t c lender.index)))

abbrev pub exit_scope : Option ℕ → Handles → StepAnswer (Unit {0})
exit_scope None h = Err fault.NoScope
exit_scope (Some k) h =
    refuse_if (not ((scope_at h k).borrow_count == 0)) fault.BorrowsRemain
    (Ok (tt, give_back (scope_at h k).lenders (with_scope h k no_scope)))

-- the end of a call, in which each borrow handle must have been dropped
abbrev pub validate_scope_exit : Option ℕ → Handles → StepAnswer (Unit {0})
validate_scope_exit scope h = exit_scope (opened h scope) h

-- What holds of the handles of a store

-- 1 where there is an entry
abbrev pub stands : Option Entry → ℕ
stands o = one_if (is_some o)

-- the sum of f over what the indexes of every table name
abbrev pub sum_over_tables : (Option Entry → ℕ) → Handles → ℕ
sum_over_tables f h = sum_by (λ t. sum_by f t.array) h.tables

-- the handle at index i of table p is this lender
abbrev pub is_lender_of : ℕ → ℕ → Lender → Bool
is_lender_of p i lender = (lender.table == p) && (raw_index lender.index == i)

-- how often it stands among the lenders of the open scopes
abbrev pub lenders_of : ℕ → ℕ → List OpenScope → ℕ
lenders_of p i scopes = sum_by (λ s. sum_by (λ lender. one_if (is_lender_of p i lender)) s.lenders) scopes

abbrev pub borrows : ℕ → Option Entry → ℕ
borrows k (Some (ResourceBorrow resource (Id j))) = one_if (j == k)
borrows k _ = 0

-- what every step keeps
pub record IsConsistent (h : Handles) : Type 0 where
  pub tables_sound : (p : ℕ) → IsTable (table_at h p)
  -- the live handles are the entries of all tables and the lends
  pub live_handles : h.counter.live ≡ sum_over_tables stands h + sum_over_tables lends_of h
  -- an own handle's lend count is the number of times it stands among the lenders, and nothing else stands there
  pub lend_counts : (p i : ℕ) → lenders_of p i h.scopes ≡ lends_of (entry_at (table_at h p) i)
  -- a scope's borrow count is the number of borrow handles that name it, and none names a scope that is not open
  pub borrow_counts : (k : ℕ) → (scope_at h k).borrow_count ≡ sum_over_tables (borrows k) h

-- Contracts

-- a call on handles answers and leaves what the step does, or wants memory and changes nothing
abbrev pub Takes : {A : Type 0} → StepAnswer A → Result A ResourceFault → Handles → Handles → Type 0
Takes step (Ok a) h h' = step ≡ Ok (a, h')
Takes step (Err e) h h' = ((step ≡ Err e) ⊎ (e ≡ fault.OutOfMemory)) × (h' ≡ h)

-- the same of a call that never wants memory
abbrev pub TakesSurely : {A : Type 0} → StepAnswer A → Result A ResourceFault → Handles → Handles → Type 0
TakesSurely step (Ok a) h h' = step ≡ Ok (a, h')
TakesSurely step (Err e) h h' = (step ≡ Err e) × (h' ≡ h)
