use Rattle.std.specs.Vec.{vec_len, vec_capacity}
use Rattle.canon_handles.specs.declared.handle.Entry.{Entry}
use Rattle.canon_handles.specs.Table.{TableState}
use Rattle.std.proofs.Common.{◌≡◌, ◌≤◌, map, replicate}
use Rattle.canon_handles.specs.Table.{empty_table, max_handle}
use Rattle.canon_ledger.proofs.ledger.empty_tables.Given as goal

abbrev pub invariant-loop : goal.invariant-loop
invariant-loop l = record {
  so_far : map (λ (s : TableState Entry). s.table) l.tables.items ≡ replicate l.counter (empty_table max_handle);
  filled : vec_len l.tables ≡ l.counter;
  room : l.count ≤ vec_capacity l.tables;
}
