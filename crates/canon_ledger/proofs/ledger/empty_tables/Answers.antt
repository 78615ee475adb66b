use Rattle.std.proofs.Common.{◌≡◌, ◌+◌, ◌∙◌, sym, ap, arith, replicate, ℕ, map}
use Rattle.canon_handles.specs.declared.handle.Entry.{Entry}
use Rattle.canon_handles.specs.Table.{TableState, empty_table, max_handle}
use Rattle.canon_ledger.proofs.HoldsLemmas.{one_table_more, on_ok}
use Rattle.canon_ledger.proofs.ledger.empty_tables.Goals as goal

pub loop-init : goal.loop-init
loop-init c = record {
  so_far = ap (map (λ (s : TableState Entry). s.table)) (c.reserve.ensures.items ∙ c.new-tables.ensures.items);
  filled = (let a = c.reserve.ensures.len in let b = c.new-tables.ensures.len in omega arith);
  room = (let h = on_ok _ c.reserve.result (sym c.is_err.ensures.value ∙ c.if-is_err.false) c.reserve.ensures.ok in omega arith);
}

pub push_reserved-requires : goal.push_reserved-requires
push_reserved-requires c = (let f = c.loop.invariant.filled in let r = c.loop.invariant.room in let t = c.loop-test.true in omega arith)

pub loop-preserved : goal.loop-preserved
loop-preserved c = record {
  so_far = one_table_more c.loop.tables.items c.push_reserved.new.self.items c.new.result c.loop.counter (c.loop.counter + 1) (empty_table max_handle) c.loop.invariant.so_far c.new.ensures c.push_reserved.ensures.items (omega arith);
  filled = (let f = c.loop.invariant.filled in let l = c.push_reserved.ensures.len in omega arith);
  room = (let r = c.loop.invariant.room in let l = c.push_reserved.ensures.capacity in omega arith);
}

pub returns : goal.returns
returns c = (let f = c.loop-test.false in let e : c.loop.counter ≡ 257 = omega arith in c.loop.invariant.so_far ∙ ap (λ (n : ℕ). replicate n (empty_table {E = Entry} max_handle)) e)
