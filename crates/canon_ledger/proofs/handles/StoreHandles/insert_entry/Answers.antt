use Rattle.canon_handles.specs.Calls.{resource_borrow_insert}
use Rattle.canon_handles.specs.declared.handle.Scope.TheVariants.{Id}
use Rattle.canon_ledger.proofs.BooksLemmas.{held_le, taken}
use Rattle.canon_ledger.proofs.handles.StoreHandles.insert_entry.Goals as goal

pub resource_borrow_insert-answer-requires : goal.resource_borrow_insert-answer-requires
resource_borrow_insert-answer-requires c =
    held_le c.args.self.now.tables.items c.args.self.now.counter c.args.self.now.scopes.items c.args.table c.index_mut-entries.result.now c.requires.within c.index_mut-entries.ensures.value c.requires.sound

pub returns-clause-step : goal.returns-clause-step
returns-clause-step c =
    taken c.args.self.now.tables.items c.args.self.now.counter c.args.self.now.scopes.items c.args.table c.index_mut-entries.result.now c.requires.within c.index_mut-entries.ensures.value
    (λ t c'. resource_borrow_insert t c' c.args.resource (Id c.args.number)) 0 c.resource_borrow_insert-answer.new.self c.resource_borrow_insert-answer.new.counter c.resource_borrow_insert-answer.result c.at_index.result c.at_index.ensures c.resource_borrow_insert-answer.ensures.step
