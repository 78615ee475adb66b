use Rattle.std.proofs.Common.{not, reverse, sym, ap, ◌∙◌, arith}
use Rattle.canon_handles.specs.Table.{other_entries}
use Rattle.canon_handles.proofs.CellsLemmas.{is_fresh, inserted_stored, insert_step}
use Rattle.canon_handles.proofs.ValuesLemmas.{from_ok, reverse_rest}
use Rattle.canon_handles.proofs.entry_table.EntryTable.insert.Goals as goal

pub returns-then-index-self-clause-fresh : goal.returns-then-index-self-clause-fresh
returns-then-index-self-clause-fresh g c = is_fresh c.self.invariant c.self.view_is

pub returns-then-is_at_limit-clause-fresh : goal.returns-then-is_at_limit-clause-fresh
returns-then-is_at_limit-clause-fresh g c = is_fresh c.self.invariant c.self.view_is

pub invariant_of-self-2 : goal.invariant_of-self-2
invariant_of-self-2 g c =
    let made = from_ok c.put_cell.result _ (c.is_err.ensures.negation ∙ ap not c.if-is_err.false) c.put_cell.ensures.enough in
    inserted_stored c.self.invariant c.self.view_is c.put_cell.new.cells.entries c.fresh-index.result c.max-self-inside.result c.args.entry c.pop-freed.new.self.items
    (omega arith) c.fresh-index.ensures
    (from_ok c.put_cell.result _ (c.is_err.ensures.negation ∙ ap not c.if-is_err.false) c.put_cell.ensures.cells)
    (ap reverse c.pop-freed.ensures.rest ∙ reverse_rest c.put_cell.new.free.items c.put_cell.new.free.len (omega arith) ∙ ap (λ l. other_entries (reverse l)) c.put_cell.ensures.free)
    c.pop-freed.new.self.cap (omega arith) (omega arith) (omega arith)

pub returns-clause-step : goal.returns-clause-step
returns-clause-step g c =
    insert_step c.self.invariant c.self.view_is c.put_cell.new.cells.entries c.fresh-index.result c.max-self-inside.result c.args.entry c.pop-freed.new.self.items
    (omega arith) c.fresh-index.ensures
    (from_ok c.put_cell.result _ (c.is_err.ensures.negation ∙ ap not c.if-is_err.false) c.put_cell.ensures.cells)
    (ap reverse c.pop-freed.ensures.rest ∙ reverse_rest c.put_cell.new.free.items c.put_cell.new.free.len (omega arith) ∙ ap (λ l. other_entries (reverse l)) c.put_cell.ensures.free)
    c.args.counter.now c.add.new.self (omega arith) (sym c.is_at_limit.ensures ∙ c.if-is_at_limit.false) c.add.ensures.more
