use Rattle.std.proofs.Common.{◌≡◌, ap, arith, subst, sym}
use Rattle.canon_handles.specs.declared.handle.Entry.{Entry}
use Rattle.canon_handles.specs.Table.{TableState, Counter, entry_at}
use Rattle.canon_handles.specs.Calls.{held_count, IsUnlent}
use Rattle.canon_handles.proofs.HeldLemmas.{held_after_removal}
use Rattle.canon_handles.proofs.handle_table.HandleTable.remove.Goals as goal

pub invariant_of-self : goal.invariant_of-self
invariant_of-self c =
    let held = held_after_removal c.self.inside.table.table c.vacate.new.self.table c.args.index c.vacate.ensures.table (subst (λ (v : TableState Entry). IsUnlent (entry_at v.table c.args.index)) (sym c.self.view_is) c.requires.unlent) in
    omega arith

pub returns-clause-count : goal.returns-clause-count
returns-clause-count c =
    let view : held_count c.self.inside.table.table ≡ held_count c.args.self.now.table = ap (λ (v : TableState Entry). held_count v.table) c.self.view_is in
    let held = held_after_removal c.self.inside.table.table c.vacate.new.self.table c.args.index c.vacate.ensures.table (subst (λ (v : TableState Entry). IsUnlent (entry_at v.table c.args.index)) (sym c.self.view_is) c.requires.unlent) in
    let live = ap (λ (c : Counter). c.live) c.take.ensures in
    omega arith
