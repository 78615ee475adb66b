use Rattle.std.proofs.Common.{ap, arith, length, subst, sym, ◌∙◌}
use Rattle.std.proofs.lemmas.List.{length-map}
use Rattle.canon_handles.specs.declared.handle.Entry.{Entry}
use Rattle.canon_handles.specs.Table.{Table, TableState}
use Rattle.canon_handles.specs.Laws.{TableLaws}
use Rattle.canon_ledger.specs.Handles.{table_at}
use Rattle.canon_ledger.specs.Ledger.{LedgerState}
use Rattle.canon_ledger.proofs.BooksLemmas.{table_read}
use Rattle.canon_ledger.proofs.ledger.Ledger.table_laws.Goals as goal

pub returns : goal.returns
returns c =
    let v = ap (λ (l : LedgerState). length l.handles.tables) c.self.view_is in
    let m = length-map c.self.inside.handles.tables.items (λ (s : TableState Entry). s.table) in
    let r = c.requires in
    subst (λ (t : Table Entry). TableLaws t)
    (sym (table_read c.self.inside.handles.tables.items c.self.inside.handles.counter c.self.inside.handles.scopes.items c.args.table c.index.result.now (omega arith) c.index.ensures)
    ∙ ap (λ (l : LedgerState). table_at l.handles c.args.table) c.self.view_is)
    c.laws.ensures
