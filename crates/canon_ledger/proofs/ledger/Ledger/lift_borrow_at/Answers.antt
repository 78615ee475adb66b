use Rattle.std.proofs.Common.{ap, arith, length}
use Rattle.canon_ledger.specs.Ledger.{LedgerState}
use Rattle.canon_ledger.specs.Books.{handles_of, ledger_of}
use Rattle.canon_ledger.proofs.HoldsLemmas.{kept_lift_borrow}
use Rattle.canon_ledger.proofs.ledger.Ledger.lift_borrow_at.Goals as goal

pub invariant_of-self : goal.invariant_of-self
invariant_of-self c = kept_lift_borrow (ledger_of c.self.inside.handles.tables.items c.self.inside.handles.counter c.self.inside.handles.scopes.items
    c.self.inside.host.indexes) c.args.number c.args.table c.args.index
    (handles_of c.lend.new.self.tables.items c.lend.new.self.counter c.lend.new.self.scopes.items) c.lend.result
    (let v = ap (λ (l : LedgerState). length l.handles.scopes) c.self.view_is in let h = c.requires.scope_open in omega arith) c.lend.ensures
    c.self.invariant
