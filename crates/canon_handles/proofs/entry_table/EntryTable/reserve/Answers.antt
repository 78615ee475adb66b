use Rattle.std.proofs.Common.{arith}
use Rattle.canon_handles.proofs.CellsLemmas.{reserved, reserved_stored}
use Rattle.canon_handles.proofs.entry_table.EntryTable.reserve.Goals as goal

pub invariant_of-self-2 : goal.invariant_of-self-2
invariant_of-self-2 g c =
    let enough = c.in_ok-put_cell.ensures.enough in
    let more = c.in_ok-put_cell.ensures.room in
    reserved_stored c.self.invariant c.self.view_is c.put_cell.new.cells.entries c.fresh-index.result c.put_cell.new.free.items
    c.in_ok-put_cell.ensures.free c.fresh-index.ensures c.in_ok-put_cell.ensures.cells
    c.put_cell.new.free.cap (omega arith) (omega arith)

pub returns-clause-table : goal.returns-clause-table
returns-clause-table g c =
    reserved c.self.invariant c.self.view_is c.put_cell.new.cells.entries c.fresh-index.result c.put_cell.new.free.items
    c.in_ok-put_cell.ensures.free c.fresh-index.ensures c.in_ok-put_cell.ensures.cells
