use Rattle.std.proofs.Common.{◌≡◌, ap, arith}
use Rattle.canon_handles.specs.declared.handle.GuestThread.{GuestThread}
use Rattle.canon_handles.specs.Table.{TableState, entry_count}
use Rattle.canon_handles.proofs.HeldLemmas.{counts_after_insert}
use Rattle.canon_handles.proofs.thread.ThreadHandleTable.guest_thread_insert.Goals as goal

pub returns-clause-count : goal.returns-clause-count
returns-clause-count c =
    let view : entry_count c.self.inside.table.table ≡ entry_count c.args.self.now.table = ap (λ (v : TableState GuestThread). entry_count v.table) c.self.view_is in
    let count = counts_after_insert c.insert.result c.self.inside.table c.insert.new.self c.args.counter.now c.insert.new.counter (record { rep = c.args.rep }) c.insert.ensures.step c.insert.ensures.fresh in
    omega arith
