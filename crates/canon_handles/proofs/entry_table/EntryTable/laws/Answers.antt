use Rattle.canon_handles.proofs.CellsLemmas.{laws}
use Rattle.canon_handles.proofs.entry_table.EntryTable.laws.Goals as goal

pub returns : goal.returns
returns g c = laws c.self.invariant c.self.view_is
