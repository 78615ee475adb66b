use Rattle.std.proofs.Common.{ap, ◌∙◌}
use Rattle.canon_handles.specs.Calls.{resource_lend, raw_index}
use Rattle.canon_ledger.specs.Handles.{at_index}
use Rattle.canon_ledger.proofs.BooksLemmas.{held_le, taken_surely}
use Rattle.canon_ledger.proofs.handles.StoreHandles.lend_entry.Goals as goal

pub resource_lend-answer-requires : goal.resource_lend-answer-requires
resource_lend-answer-requires c =
    held_le c.args.self.now.tables.items c.args.self.now.counter c.args.self.now.scopes.items c.args.table c.index_mut-entries.result.now c.requires.within c.index_mut-entries.ensures.value c.requires.sound

pub returns-clause-step : goal.returns-clause-step
returns-clause-step c =
    taken_surely c.args.self.now.tables.items c.args.self.now.counter c.args.self.now.scopes.items c.args.table c.index_mut-entries.result.now c.requires.within c.index_mut-entries.ensures.value
    (λ t c'. resource_lend t c' c.args.index) (raw_index c.args.index) c.resource_lend-answer.new.self c.resource_lend-answer.new.counter
    c.resource_lend-answer.result c.at_index.result
    (c.at_index.ensures ∙ ap (λ i. at_index i c.resource_lend-answer.result) c.raw_index-raw.ensures) c.resource_lend-answer.ensures.step
