use Rattle.std.proofs.Common.{length, sym, ap, ◌∙◌}
use Rattle.canon_handles.proofs.CellsLemmas.{fresh_next}
use Rattle.canon_handles.proofs.ValuesLemmas.{no_top}
use Rattle.canon_handles.proofs.entry_table.EntryTable.fresh.Goals as goal

pub returns-in-None : goal.returns-in-None
returns-in-None g c = fresh_next c.self.invariant c.self.view_is (ap length (sym c.deref.ensures.value) ∙ no_top c.deref.result.now c.in-None.ensures.value)
