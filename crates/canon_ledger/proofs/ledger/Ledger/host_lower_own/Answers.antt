use Rattle.std.proofs.Common.{◌∙◌, ap}
use Rattle.canon_ledger.specs.Ledger.{HostIndexes, with_slot}
use Rattle.canon_ledger.specs.Books.{handles_of, ledger_of}
use Rattle.canon_ledger.proofs.HoldsLemmas.{kept_host_own, next_slot}
use Rattle.canon_ledger.proofs.ledger.Ledger.host_lower_own.Goals as goal

pub write-requires-clause-next : goal.write-requires-clause-next
write-requires-clause-next c =
    next_slot (ledger_of c.self.inside.handles.tables.items c.self.inside.handles.counter c.self.inside.handles.scopes.items
    c.self.inside.host.indexes) c.host_table-table.result c.args.rep c.in_ok-index.index (handles_of c.insert_own.new.self.tables.items
    c.insert_own.new.self.counter
    c.insert_own.new.self.scopes.items) c.self.invariant c.host_table-table.ensures.number c.in_ok-index.ensures c.reserve.new.self.indexes c.reserve.ensures.indexes

pub invariant_of-self-3 : goal.invariant_of-self-3
invariant_of-self-3 c =
    kept_host_own
    (ledger_of c.self.inside.handles.tables.items c.self.inside.handles.counter c.self.inside.handles.scopes.items c.self.inside.host.indexes)
    c.host_table-table.result c.args.rep c.in_ok-index.index
    (handles_of c.insert_own.new.self.tables.items c.insert_own.new.self.counter c.insert_own.new.self.scopes.items) c.self.invariant
    c.host_table-table.ensures.number c.in_ok-index.ensures c.args.dtor c.args.instance c.write.new.self.indexes
    (c.write.ensures ∙ ap (λ (h : HostIndexes). with_slot h c.in_ok-index.index c.args.instance c.args.dtor) c.reserve.ensures.indexes)
