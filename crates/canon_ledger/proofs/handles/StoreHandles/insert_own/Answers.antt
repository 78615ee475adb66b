use Rattle.canon_handles.specs.Calls.{resource_own_insert}
use Rattle.canon_ledger.proofs.handles.StoreHandles.insert_own.Goals as goal
use Rattle.canon_ledger.proofs.BooksLemmas.{held_le, taken}

pub resource_own_insert-answer-requires : goal.resource_own_insert-answer-requires
resource_own_insert-answer-requires c =
    held_le c.args.self.now.tables.items c.args.self.now.counter c.args.self.now.scopes.items c.args.table c.index_mut-entries.result.now c.requires.within c.index_mut-entries.ensures.value c.requires.sound

pub returns : goal.returns
returns c =
    taken c.args.self.now.tables.items c.args.self.now.counter c.args.self.now.scopes.items c.args.table c.index_mut-entries.result.now c.requires.within c.index_mut-entries.ensures.value
    (λ t c'. resource_own_insert t c' c.args.resource) 0 c.resource_own_insert-answer.new.self c.resource_own_insert-answer.new.counter c.resource_own_insert-answer.result c.at_index.result c.at_index.ensures c.resource_own_insert-answer.ensures.step
