use Rattle.std.proofs.Common.{arith, subst}
use Rattle.canon_ledger.specs.Laws.{LedgerLaws}
use Rattle.canon_ledger.specs.Books.{ledger_of}
use Rattle.canon_ledger.proofs.LawsLemmas.{ledger_laws}
use Rattle.canon_ledger.proofs.ledger.Ledger.laws.Goals as goal

pub returns : goal.returns
returns c = subst LedgerLaws c.self.view_is
    (ledger_laws (ledger_of c.self.inside.handles.tables.items c.self.inside.handles.counter c.self.inside.handles.scopes.items c.self.inside.host.indexes) c.self.invariant
    (let e = c.generation-generation.ensures.generation in let l = c.generation-generation.ensures.last in omega arith))
