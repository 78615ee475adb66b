use Rattle.canon_ledger.specs.Handles.{one_lender_more}
use Rattle.canon_ledger.proofs.ScopeLemmas.{scope_changed}
use Rattle.canon_ledger.proofs.handles.StoreHandles.add_lender.Goals as goal

pub returns : goal.returns
returns c =
    scope_changed c.args.self.now.tables.items c.args.self.now.counter c.args.self.now.scopes.items c.args.number c.index_mut.result.now c.requires.scope_open c.index_mut.ensures.value
    (λ s. one_lender_more s (record { table = c.args.table; index = c.args.index })) c.add_lender.new.self c.add_lender.ensures
