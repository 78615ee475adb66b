use Rattle.std.proofs.Common.{◌≡◌, ◌+◌, ap, arith, ◌∙◌}
use Rattle.canon_handles.specs.declared.handle.Entry.{Entry}
use Rattle.canon_handles.specs.Table.{TableState, Counter, entry_at}
use Rattle.canon_handles.specs.Calls.{held_count}
use Rattle.canon_handles.proofs.HeldLemmas.{held_after_write}
use Rattle.canon_handles.proofs.handle_table.HandleTable.lend.Goals as goal

pub invariant_of-self : goal.invariant_of-self
invariant_of-self c =
    let held = held_after_write c.self.inside.table.table c.write.new.self.table c.args.index c.args.resource c.args.lend_count (c.args.lend_count + 1) c.write.ensures.table
    (ap (λ (v : TableState Entry). entry_at v.table c.args.index) c.self.view_is ∙ c.requires.own) in
    omega arith

pub returns-clause-count : goal.returns-clause-count
returns-clause-count c =
    let view : held_count c.self.inside.table.table ≡ held_count c.args.self.now.table = ap (λ (v : TableState Entry). held_count v.table) c.self.view_is in
    let held = held_after_write c.self.inside.table.table c.write.new.self.table c.args.index c.args.resource c.args.lend_count (c.args.lend_count + 1) c.write.ensures.table
    (ap (λ (v : TableState Entry). entry_at v.table c.args.index) c.self.view_is ∙ c.requires.own) in
    let live = ap (λ (c : Counter). c.live) c.add.ensures.more in
    omega arith
