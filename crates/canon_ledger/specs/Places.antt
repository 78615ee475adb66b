-- Where a resource is kept: one of the host in the host's table, and one of a component in the table of the instance that its type names.
use Rattle.std.specs.Prelude.{◌≡◌, ◌<◌, ◌∷◌, List, [], ℕ, length, Option, Some, None, slice_get}
use Rattle.std.specs.Option.{option_map_or}
use Rattle.canon_types.specs.Table.{TypeTable, HasResource}
use Rattle.canon_types.specs.declared.types.TypeResourceTable.{TypeResourceTable}
use Rattle.canon_handles.specs.declared.handle.TypedResource.{TypedResource}
use Rattle.canon_handles.specs.declared.handle.TypedResource.TheVariants.{Host, Component}
use Rattle.canon_handles.specs.declared.handle.TypedResourceIndex.{TypedResourceIndex}
use Rattle.canon_handles.specs.declared.handle.TypedResourceIndex.TheVariants.{Host as HostIndex, Component as ComponentIndex}
use Rattle.canon_ledger.specs.Handles.{host_table, instance_table}
use Rattle.canon_ledger.specs.Ledger.{LedgerState}

-- the first of the types that are known, if there is one
abbrev pub first_type : List TypeTable → Option TypeTable
first_type [] = None
first_type (t ∷ ts) = Some t

-- the instance that a resource type names
abbrev pub instance_of : TypeTable → ℕ → ℕ
instance_of types ty = option_map_or (λ (r : TypeResourceTable). r.instance) (slice_get types.resources ty) 0

-- the number of its table
abbrev pub type_table : Option TypeTable → ℕ → ℕ
type_table None ty = host_table
type_table (Some types) ty = instance_table (instance_of types ty)

abbrev pub table_of_resource : Option TypeTable → TypedResource → ℕ
table_of_resource types (Host rep) = host_table
table_of_resource types (Component ty rep) = type_table types ty

abbrev pub table_of_index : Option TypeTable → TypedResourceIndex → ℕ
table_of_index types (HostIndex i) = host_table
table_of_index types (ComponentIndex ty i) = type_table types ty

-- the types are known and have this one, and its instance is one of the ledger's
abbrev pub HasType : Option TypeTable → ℕ → LedgerState → Type 0
HasType None ty l = ⊥
HasType (Some types) ty l = HasResource types ty × (instance_table (instance_of types ty) < length l.handles.tables)

-- where the resource is a component's, its type is known
abbrev pub IsPlaced : Option TypeTable → TypedResource → LedgerState → Type 0
IsPlaced types (Host rep) l = Unit {0}
IsPlaced types (Component ty rep) l = HasType types ty l

abbrev pub IsIndexPlaced : Option TypeTable → TypedResourceIndex → LedgerState → Type 0
IsIndexPlaced types (HostIndex i) l = Unit {0}
IsIndexPlaced types (ComponentIndex ty i) l = HasType types ty l

-- as many open scopes and as many tables as before, so that what is open or placed before a call is so after it
pub record SamePlaces (l l' : LedgerState) : Type 0 where
  pub scopes : length l'.handles.scopes ≡ length l.handles.scopes
  pub tables : length l'.handles.tables ≡ length l.handles.tables
