use Rattle.std.proofs.Common.{ap, ◌∙◌}
use Rattle.canon_handles.specs.Calls.{remove_resource, raw_index}
use Rattle.canon_ledger.specs.Handles.{at_index}
use Rattle.canon_ledger.proofs.BooksLemmas.{held_le, taken_surely}
use Rattle.canon_ledger.proofs.handles.StoreHandles.remove.Goals as goal

pub remove_resource-answer-requires : goal.remove_resource-answer-requires
remove_resource-answer-requires c =
    held_le c.args.self.now.tables.items c.args.self.now.counter c.args.self.now.scopes.items c.args.table c.index_mut-entries.result.now c.requires.within c.index_mut-entries.ensures.value c.requires.sound

pub returns : goal.returns
returns c =
    taken_surely c.args.self.now.tables.items c.args.self.now.counter c.args.self.now.scopes.items c.args.table c.index_mut-entries.result.now c.requires.within c.index_mut-entries.ensures.value
    (λ t c'. remove_resource t c' c.args.index) (raw_index c.args.index) c.remove_resource-answer.new.self c.remove_resource-answer.new.counter
    c.remove_resource-answer.result c.at_index.result
    (c.at_index.ensures ∙ ap (λ i. at_index i c.remove_resource-answer.result) c.raw_index-raw.ensures) c.remove_resource-answer.ensures.step
