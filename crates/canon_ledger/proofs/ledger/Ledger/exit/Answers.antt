use Rattle.std.proofs.Common.{ap, arith, length}
use Rattle.canon_ledger.specs.Ledger.{LedgerState}
use Rattle.canon_ledger.specs.Books.{handles_of, ledger_of}
use Rattle.canon_ledger.proofs.HoldsLemmas.{kept_exit}
use Rattle.canon_ledger.proofs.ledger.Ledger.exit.Goals as goal

pub invariant_of-self : goal.invariant_of-self
invariant_of-self c = kept_exit (ledger_of c.self.inside.handles.tables.items c.self.inside.handles.counter c.self.inside.handles.scopes.items
    c.self.inside.host.indexes) c.args.number (handles_of c.exit.new.self.tables.items c.exit.new.self.counter c.exit.new.self.scopes.items)
    c.exit.result (let v = ap (λ (l : LedgerState). length l.handles.scopes) c.self.view_is in let h = c.requires in omega arith) c.exit.ensures
    c.self.invariant
