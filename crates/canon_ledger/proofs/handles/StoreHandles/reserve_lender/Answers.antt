use Rattle.canon_ledger.proofs.ScopeLemmas.{scope_same}
use Rattle.canon_ledger.proofs.handles.StoreHandles.reserve_lender.Goals as goal

pub returns-clause-same : goal.returns-clause-same
returns-clause-same c =
    scope_same c.args.self.now.tables.items c.args.self.now.counter c.args.self.now.scopes.items c.args.number c.index_mut.result.now c.requires c.index_mut.ensures.value c.reserve.new.self c.reserve.ensures.scope
