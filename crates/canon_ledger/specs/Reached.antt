-- What the host's resource tables reach.
use Rattle.std.specs.Prelude.{ℕ, Option}
use Rattle.canon_types.specs.Table.{TypeTable}
use Rattle.canon_handles.specs.declared.handle.CurrentScope.{CurrentScope}
use Rattle.canon_ledger.specs.declared.host_tables.HostResourceTables.{HostResourceTables}
use Rattle.canon_ledger.specs.declared.known.KnownTypes.{KnownTypes}
use Rattle.canon_ledger.specs.Ledger.{LedgerState}
use Rattle.canon_ledger.specs.Places.{first_type}

-- the ledger
abbrev pub ledger_in : HostResourceTables → LedgerState
ledger_in t = t.tables.ledger.now

-- by which reference they reach it
abbrev pub reference_in : HostResourceTables → ℕ
reference_in t = t.tables.ledger.ghost_name

-- the types of the component, where there is one
abbrev pub types_in : HostResourceTables → KnownTypes
types_in t = t.tables.types

abbrev pub known_in : HostResourceTables → Option TypeTable
known_in t = first_type (types_in t).list.now

-- the scope of the call that runs, where there is one
abbrev pub scope_in : HostResourceTables → Option CurrentScope
scope_in t = t.tables.current_scope
