use Rattle.canon_ledger.specs.Books.{handles_of, ledger_of}
use Rattle.canon_ledger.proofs.HoldsLemmas.{kept_drop}
use Rattle.canon_ledger.proofs.ledger.Ledger.drop_at.Goals as goal

pub invariant_of-self-2 : goal.invariant_of-self-2
invariant_of-self-2 c = kept_drop
    (ledger_of c.self.inside.handles.tables.items c.self.inside.handles.counter c.self.inside.handles.scopes.items c.self.inside.host.indexes)
    c.args.table c.args.index c.in_ok-raise_at.field-0 c.raise_at.result c.raise_at.new.self.indexes
    (handles_of c.drop_handle.new.self.tables.items c.drop_handle.new.self.counter c.drop_handle.new.self.scopes.items) c.drop_handle.result
    c.raise_at.ensures.answer c.in_ok-raise_at.was c.raise_at.ensures.after c.drop_handle.ensures c.self.invariant
