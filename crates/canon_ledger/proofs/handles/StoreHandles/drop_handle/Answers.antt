use Rattle.std.proofs.Common.{arith, Ok, ap, ◌∙◌}
use Rattle.std.proofs.lemmas.List.{length-map}
use Rattle.canon_handles.specs.declared.handle.RemovedResource.{RemovedResource}
use Rattle.canon_ledger.specs.Books.{Context, handles_of}
use Rattle.canon_ledger.proofs.ScopeLemmas.{removed_counts}
use Rattle.canon_ledger.proofs.handles.StoreHandles.drop_handle.Goals as goal

pub drop_borrow-requires-clause-scope_open : goal.drop_borrow-requires-clause-scope_open
drop_borrow-requires-clause-scope_open c =
    let w = removed_counts (handles_of c.args.self.now.tables.items c.args.self.now.counter c.args.self.now.scopes.items) c.args.table c.args.index
    c.in-Borrow.scope (handles_of c.remove.new.self.tables.items c.remove.new.self.counter c.remove.new.self.scopes.items) c.requires.sound
    (c.in_ok-rep.ensures ∙ ap (λ (r : RemovedResource). Ok
    (r, handles_of c.remove.new.self.tables.items c.remove.new.self.counter c.remove.new.self.scopes.items)) c.in-Borrow.is) in
    let m = length-map c.remove.new.self.scopes.items (λ (x : Context). x.scope) in
    let lt = w.0 in
    omega arith

pub drop_borrow-requires-clause-counted : goal.drop_borrow-requires-clause-counted
drop_borrow-requires-clause-counted c =
    (removed_counts (handles_of c.args.self.now.tables.items c.args.self.now.counter c.args.self.now.scopes.items) c.args.table c.args.index
    c.in-Borrow.scope (handles_of c.remove.new.self.tables.items c.remove.new.self.counter c.remove.new.self.scopes.items) c.requires.sound
    (c.in_ok-rep.ensures ∙ ap
    (λ (r : RemovedResource). Ok (r, handles_of c.remove.new.self.tables.items c.remove.new.self.counter c.remove.new.self.scopes.items))
    c.in-Borrow.is)).1
