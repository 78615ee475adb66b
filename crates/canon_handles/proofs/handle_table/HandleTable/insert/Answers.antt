use Rattle.std.proofs.Common.{◌≡◌, ap, arith}
use Rattle.canon_handles.specs.declared.handle.Entry.{Entry}
use Rattle.canon_handles.specs.Table.{TableState}
use Rattle.canon_handles.specs.Calls.{held_count}
use Rattle.canon_handles.proofs.HeldLemmas.{held_after_insert, live_after_insert}
use Rattle.canon_handles.proofs.handle_table.HandleTable.insert.Goals as goal

pub invariant_of-self-2 : goal.invariant_of-self-2
invariant_of-self-2 c =
    let view : held_count c.self.inside.table.table ≡ held_count c.args.self.now.table = ap (λ (v : TableState Entry). held_count v.table) c.self.view_is in
    let held = held_after_insert c.self.inside.table.table c.insert.new.self.table c.args.counter.now c.insert.new.counter c.args.entry c.in_ok-index.index c.in_ok-index.ensures.step c.insert.ensures.fresh c.requires.unlent in
    omega arith

pub returns-clause-count : goal.returns-clause-count
returns-clause-count c =
    let view : held_count c.self.inside.table.table ≡ held_count c.args.self.now.table = ap (λ (v : TableState Entry). held_count v.table) c.self.view_is in
    let held = held_after_insert c.self.inside.table.table c.insert.new.self.table c.args.counter.now c.insert.new.counter c.args.entry c.in_ok-index.index c.in_ok-index.ensures.step c.insert.ensures.fresh c.requires.unlent in
    let live = live_after_insert c.self.inside.table.table c.insert.new.self.table c.args.counter.now c.insert.new.counter c.args.entry c.in_ok-index.index c.in_ok-index.ensures.step in
    omega arith
