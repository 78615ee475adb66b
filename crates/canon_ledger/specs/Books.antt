-- What the fields of a ledger stand for.
use Rattle.std.specs.Prelude.{ℕ, zero, suc, Bool, false, nat_le, IfSome, List, [], ◌∷◌, map, ◌<◌, ◌≡◌, length, Option, Some, None, Result}
use Rattle.canon_handles.specs.declared.handle.CurrentScope.{CurrentScope}
use Rattle.canon_handles.specs.declared.handle.CurrentScope.TheVariants as current
use Rattle.canon_handles.specs.declared.handle.Scope.TheVariants.{Id}
use Rattle.canon_handles.specs.declared.handle.Entry.{Entry}
use Rattle.canon_handles.specs.declared.handle.TypedResourceIndex.{TypedResourceIndex}
use Rattle.canon_handles.specs.Table.{Counter, TableState}
use Rattle.canon_ledger.specs.declared.host.TableSlot.{TableSlot}
use Rattle.canon_ledger.specs.declared.fault.ResourceFault.{ResourceFault}
use Rattle.canon_ledger.specs.Handles.{Handles, Lender, OpenScope, IsConsistent}
use Rattle.canon_ledger.specs.Ledger.{LedgerState, HostIndexes, IsHostSound, Done, with_slot, raised, last_generation}

-- A scope, with a number of lends that need no memory.
pub record Context : Type 0 where
  pub scope : OpenScope
  pub room : ℕ

-- What the host keeps of its indexes, with a number of new slots that need no memory.
pub record KeptIndexes : Type 0 where
  pub indexes : HostIndexes
  pub room : ℕ

-- lenders, whose tables and indexes stand in two lists
abbrev pub lenders_from : List ℕ → List TypedResourceIndex → List Lender
lenders_from [] indexes = []
lenders_from (p ∷ tables) [] = []
lenders_from (p ∷ tables) (i ∷ indexes) = record { table = p; index = i } ∷ lenders_from tables indexes

abbrev pub indexes_of : List (Option TableSlot) → ℕ → HostIndexes
indexes_of slots generation = record { slots = slots; generation = generation }

-- no slots yet
abbrev pub no_indexes : ℕ → HostIndexes
no_indexes generation = record { slots = None ∷ []; generation = generation }

abbrev pub handles_of : List (TableState Entry) → Counter → List Context → Handles
handles_of tables counter scopes = record { tables = map (λ t. t.table) tables; counter = counter; scopes = map (λ c. c.scope) scopes }

-- the number of a scope
abbrev pub scope_number : Option CurrentScope → Option ℕ
scope_number None = None
scope_number (Some (current.Id (Id k))) = Some k

abbrev pub ledger_of : List (TableState Entry) → Counter → List Context → HostIndexes → LedgerState
ledger_of tables counter scopes host = record { handles = handles_of tables counter scopes; host = host }

-- what every call keeps of a ledger: its laws, the host's table and those of 256 instances
pub record Holds (l : LedgerState) : Type 0 where
  pub sound : IsConsistent l.handles
  pub host : IsHostSound l
  pub tables : length l.handles.tables ≡ 257

-- a call answers what the step does and leaves what it leaves
abbrev pub DidSurely : {A : Type 0} → Done A → Result A ResourceFault → LedgerState → Type 0
DidSurely d r l = (r ≡ d.answer) × (l ≡ d.after)

-- an insertion into table p, at which the host's writes a slot
abbrev pub written_at : ℕ → ℕ → HostIndexes → HostIndexes
written_at zero i host = with_slot host i None None
written_at (suc n) i host = host

-- a removal from table p, before which the host's raises the generation
abbrev pub raised_at : ℕ → HostIndexes → HostIndexes
raised_at zero host = raised host
raised_at (suc n) host = host

abbrev pub is_spent : ℕ → HostIndexes → Bool
is_spent zero host = nat_le last_generation host.generation
is_spent (suc n) host = false

-- the current scope, if there is one, is open
abbrev pub IsOpen : Option CurrentScope → LedgerState → Type 0
IsOpen s l = IfSome (scope_number s) (λ k. k < length l.handles.scopes)
