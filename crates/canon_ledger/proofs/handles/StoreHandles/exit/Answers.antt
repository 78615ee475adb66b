use Rattle.std.proofs.Common.{sym, ◌∙◌}
use Rattle.canon_ledger.proofs.ScopeLemmas.{owed_at_exit, exited}
use Rattle.canon_ledger.proofs.handles.StoreHandles.exit.Goals as goal

pub give_back-requires : goal.give_back-requires
give_back-requires c = owed_at_exit c.args.self.now.tables.items c.args.self.now.counter c.args.self.now.scopes.items c.args.number c.index_mut-context.result.now c.requires.scope_open c.index_mut-context.ensures.value c.requires.sound

pub returns : goal.returns
returns c =
    exited c.args.self.now.tables.items c.args.self.now.counter c.args.self.now.scopes.items c.args.number c.index_mut-context.result.now c.requires.scope_open c.index_mut-context.ensures.value
    (sym c.borrow_count.ensures ∙ c.if-borrow_count-ne0.false) c.give_back.new.tables.items c.give_back.new.counter c.clear_lenders.new.self c.clear_lenders.ensures c.give_back.ensures
