use Rattle.canon_func.proofs.store.Store.call_core.Goals as goal

pub returns-clause-call : goal.returns-clause-call
returns-clause-call g c = rw (← c.self.view_is) c.call_core.ensures.call
