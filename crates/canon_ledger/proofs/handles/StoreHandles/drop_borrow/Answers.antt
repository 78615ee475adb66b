use Rattle.std.proofs.Common.{◌≡◌, ◌<◌, subst, sym, length, ℕ, slice_set}
use Rattle.canon_ledger.specs.Handles.{one_borrow_less, borrow_dropped}
use Rattle.canon_ledger.specs.Books.{handles_of}
use Rattle.canon_ledger.proofs.ScopeLemmas.{scope_changed}
use Rattle.canon_ledger.proofs.handles.StoreHandles.drop_borrow.Goals as goal

pub returns : goal.returns
returns c =
    subst (λ (k : ℕ). handles_of c.args.self.now.tables.items c.args.self.now.counter
    (slice_set c.args.self.now.scopes.items c.number_of-number.result c.drop_borrow.new.self) ≡ borrow_dropped
    (handles_of c.args.self.now.tables.items c.args.self.now.counter c.args.self.now.scopes.items) k) c.number_of-number.ensures
    (scope_changed c.args.self.now.tables.items c.args.self.now.counter c.args.self.now.scopes.items c.number_of-number.result c.index_mut.result.now (subst (λ (k : ℕ). k < length c.args.self.now.scopes.items) (sym c.number_of-number.ensures) c.requires.scope_open) c.index_mut.ensures.value
    one_borrow_less c.drop_borrow.new.self c.drop_borrow.ensures)
