use Rattle.std.proofs.Common.{length, arith, ap}
use Rattle.std.proofs.lemmas.List.{length-map}
use Rattle.canon_handles.specs.declared.handle.Entry.{Entry}
use Rattle.canon_handles.specs.Table.{TableState}
use Rattle.canon_ledger.specs.Ledger.{LedgerState}
use Rattle.canon_ledger.proofs.ledger.Ledger.instances.Goals as goal

pub overflow_sub-result : goal.overflow_sub-result
overflow_sub-result c =
    let h = c.self.invariant.tables in let m = length-map c.self.inside.handles.tables.items (λ (s : TableState Entry). s.table) in let l = c.len.ensures in omega arith

pub overflow_cast-result : goal.overflow_cast-result
overflow_cast-result c =
    let h = c.self.invariant.tables in let m = length-map c.self.inside.handles.tables.items (λ (s : TableState Entry). s.table) in let l = c.len.ensures in omega arith

pub returns-clause-number : goal.returns-clause-number
returns-clause-number c =
    let h = c.self.invariant.tables in let m = length-map c.self.inside.handles.tables.items (λ (s : TableState Entry). s.table) in let l = c.len.ensures in omega arith

pub returns-clause-tables : goal.returns-clause-tables
returns-clause-tables c =
    let h = c.self.invariant.tables in let v = ap (λ (l : LedgerState). length l.handles.tables) c.self.view_is in omega arith
