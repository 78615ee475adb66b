-- What contracts see of a core.
use Rattle.std.specs.Prelude.{Bool, ◌≡◌, List, Some, ℕ}
use Rattle.canon_handles.specs.declared.handle.TypedResourceIndex.{TypedResourceIndex}
use Rattle.canon_handles.specs.declared.handle.TypedResourceIndex.TheVariants.{Component as ComponentIndex, Host as HostIndex}
use Rattle.canon_ledger.specs.Ledger.{LedgerState}
use Rattle.canon_ledger.specs.Places.{table_of_index}
use Rattle.canon_lowering.specs.Stages.{Stage}
use Rattle.canon_memory.specs.Guest.{GuestIn, Moment, Seen, guest_in, moment}
use Rattle.canon_memory.specs.declared.event.Event.{Event}
use Rattle.canon_model.specs.Memory.{memory_of}
use Rattle.canon_model.specs.Text.{Encoding}
use Rattle.canon_types.specs.Table.{HasResource, TypeTable}
use Rattle.canon_context.specs.Component.{encoding_at}
use Rattle.canon_context.specs.declared.component.Component.{Component}

-- The bytes of memory, and whether its pointers have 8 bytes.
pub record Parts (T G : Type 0) : Type 0 where
  pub id : ℕ
  pub state : T
  pub guest : G
  pub memory : List ℕ
  pub wide : Bool
  pub component : Component
  pub ledger : LedgerState
  pub fuel : ℕ

abbrev pub component_types : {T G : Type 0} → Parts T G → TypeTable
component_types core = core.component.types.types

-- where the index is one of a component, its resource type is known
abbrev pub HasKnownType : TypeTable → TypedResourceIndex → Type 0
HasKnownType types (HostIndex i) = Unit {0}
HasKnownType types (ComponentIndex ty i) = HasResource types ty

-- the table that an index is one of
abbrev pub table_by : {T G : Type 0} → Parts T G → TypedResourceIndex → ℕ
table_by core idx = table_of_index (Some (component_types core)) idx

-- only the ledger of its handles may differ
abbrev pub SameButLedger : {T G : Type 0} → Parts T G → Parts T G → Type 0
SameButLedger before after = after ≡ record before { ledger = after.ledger }

-- the guest and its memory
abbrev pub moment_of : {T G : Type 0} → (G → Seen) → Parts T G → Moment
moment_of seen core = moment (seen core.guest) core.memory

-- the same, with how the guest goes on
abbrev pub stage_of : {T G : Type 0} → (G → Seen) → (GuestIn G → List Event → GuestIn G → Type 0) → Parts T G → Stage (GuestIn G)
stage_of seen moves core = record { guest = seen core.guest; bytes = core.memory; on = λ n events k. moves (record { guest = core.guest; len = n; wide = core.wide }) events k }

-- the guest, and the length and the width of its memory
abbrev pub guest_of : {T G : Type 0} → Parts T G → GuestIn G
guest_of core = guest_in core.guest (memory_of core.memory core.wide)

-- the encoding of the options of a number
abbrev pub encoding_by : {T G : Type 0} → Parts T G → ℕ → Encoding
encoding_by core options = encoding_at core.component options
