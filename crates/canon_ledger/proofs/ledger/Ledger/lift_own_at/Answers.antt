use Rattle.canon_ledger.specs.Books.{handles_of, ledger_of}
use Rattle.canon_ledger.proofs.HoldsLemmas.{kept_lift_own}
use Rattle.canon_ledger.proofs.ledger.Ledger.lift_own_at.Goals as goal

pub invariant_of-self-2 : goal.invariant_of-self-2
invariant_of-self-2 c = kept_lift_own
    (ledger_of c.self.inside.handles.tables.items c.self.inside.handles.counter c.self.inside.handles.scopes.items c.self.inside.host.indexes)
    c.args.table c.args.index c.in_ok-raise_at.field-0 c.raise_at.result c.raise_at.new.self.indexes
    (handles_of c.lift_own.new.self.tables.items c.lift_own.new.self.counter c.lift_own.new.self.scopes.items) c.lift_own.result
    c.raise_at.ensures.answer c.in_ok-raise_at.was c.raise_at.ensures.after c.lift_own.ensures c.self.invariant
