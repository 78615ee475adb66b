use Rattle.std.proofs.Common.{◌≡◌, ◌∙◌, ap, arith, sym, is_some, true}
use Rattle.canon_handles.specs.declared.handle.GuestThread.{GuestThread}
use Rattle.canon_handles.specs.Table.{TableState, Counter, Table, entry_at, entry_count, without}
use Rattle.canon_handles.proofs.HeldLemmas.{entry_count-without}
use Rattle.canon_handles.proofs.thread.ThreadHandleTable.guest_thread_remove.Goals as goal

pub returns-clause-count : goal.returns-clause-count
returns-clause-count c =
    let view : entry_count c.self.inside.table.table ≡ entry_count c.args.self.now.table = ap (λ (v : TableState GuestThread). entry_count v.table) c.self.view_is in
    let some : is_some (entry_at c.self.inside.table.table c.args.idx) ≡ true = ap is_some (sym c.entry.ensures ∙ c.in-Some.is) in
    let count = entry_count-without c.self.inside.table.table c.args.idx some in
    let left : entry_count c.vacate.new.self.table ≡ entry_count (without c.self.inside.table.table c.args.idx) = ap (λ (t : Table GuestThread). entry_count t) c.vacate.ensures.table in
    let live = ap (λ (c : Counter). c.live) c.take.ensures in
    omega arith
