-- The host's resources as values.
use Rattle.std.specs.Prelude.{ℕ, Bool, true, false, Option, Some, None}
use Rattle.canon_types.specs.declared.resource.ResourceType.{ResourceType}
use Rattle.canon_ledger.specs.Index.{GivenIndex}
use Rattle.canon_resources.specs.declared.host.ResourceState.{ResourceState}
use Rattle.canon_resources.specs.declared.host.ResourceState.TheVariants as state
use Rattle.canon_resources.specs.declared.any.ResourceAnyHandle.{ResourceAnyHandle}
use Rattle.canon_resources.specs.declared.any.ResourceAnyHandle.TheVariants as handle

-- a resource that the host holds: its representation, its type, and where its handle is
pub record HostHandle (D : Type 0) : Type 0 where
  pub rep : ℕ
  pub ty : D
  pub state : ResourceState

abbrev pub held : {D : Type 0} → ResourceState → ℕ → D → HostHandle D
held state rep ty = record { rep = rep; ty = ty; state = state }

-- each is an own handle but a borrow
abbrev pub is_owned : ResourceState → Bool
is_owned state.Borrow = false
is_owned _ = true

-- a resource that carries its type: its handle, and its type
pub record Any : Type 0 where
  pub handle : ResourceAnyHandle
  pub ty : ResourceType

abbrev pub any : ResourceAnyHandle → ResourceType → Any
any handle ty = record { handle = handle; ty = ty }

-- a handle of the host's table
abbrev pub table_handle : GivenIndex → Bool → ResourceAnyHandle
table_handle x true = handle.Own x
table_handle x false = handle.Borrow x

abbrev pub is_own_handle : ResourceAnyHandle → Bool
is_own_handle (handle.Own x) = true
is_own_handle _ = false

abbrev pub host_index : ResourceAnyHandle → Option GivenIndex
host_index (handle.Own x) = Some x
host_index (handle.Borrow x) = Some x
host_index (handle.Synthetic rep) = None

abbrev pub synthetic_rep : ResourceAnyHandle → Option ℕ
synthetic_rep (handle.Synthetic rep) = Some rep
synthetic_rep _ = None
