use Rattle.std.proofs.Common.{arith}
use Rattle.canon_handles.proofs.CellsLemmas.{push_room, vacated, vacated_stored}
use Rattle.canon_handles.proofs.ValuesLemmas.{pushed_on}
use Rattle.canon_handles.proofs.entry_table.EntryTable.vacate.Goals as goal

pub invariant_of-self : goal.invariant_of-self
invariant_of-self g c =
    let room = push_room c.self.invariant c.self.view_is c.args.index c.requires in
    let pushed = pushed_on c.push-pushed.result c.self.inside.free.items c.push-pushed.new.self.items c.args.index
    (c.push-pushed.ensures.succeeds (omega arith)) c.push-pushed.ensures.items in
    vacated_stored c.self.invariant c.self.view_is c.empty_cell.new.cells.entries c.push-pushed.new.self.items
    c.args.index c.fresh-next.result c.has_spare-keeps.result c.requires c.fresh-next.ensures c.empty_cell.ensures c.has_spare-keeps.ensures
    pushed
    c.push-pushed.new.self.cap (omega arith)

pub returns-clause-table : goal.returns-clause-table
returns-clause-table g c =
    let room = push_room c.self.invariant c.self.view_is c.args.index c.requires in
    let pushed = pushed_on c.push-pushed.result c.self.inside.free.items c.push-pushed.new.self.items c.args.index
    (c.push-pushed.ensures.succeeds (omega arith)) c.push-pushed.ensures.items in
    vacated c.self.invariant c.self.view_is c.empty_cell.new.cells.entries c.push-pushed.new.self.items
    c.args.index c.fresh-next.result c.has_spare-keeps.result c.requires c.fresh-next.ensures c.empty_cell.ensures c.has_spare-keeps.ensures
    pushed
