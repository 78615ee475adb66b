use Rattle.std.proofs.Common.{◌∙◌, sym, ap, arith, length}
use Rattle.canon_ledger.specs.Ledger.{LedgerState}
use Rattle.canon_ledger.specs.Books.{handles_of, ledger_of, written_at}
use Rattle.canon_ledger.proofs.HoldsLemmas.{kept_lower_borrow, lower_slot_given}
use Rattle.canon_ledger.proofs.ledger.Ledger.lower_borrow_at.Goals as goal

pub write_at-requires : goal.write_at-requires
write_at-requires c =
    lower_slot_given
    (ledger_of c.self.inside.handles.tables.items c.self.inside.handles.counter c.self.inside.handles.scopes.items c.self.inside.host.indexes)
    c.args.number c.args.table c.args.resource c.in_ok-index.index
    (handles_of c.insert_borrow.new.self.tables.items c.insert_borrow.new.self.counter c.insert_borrow.new.self.scopes.items)
    c.reserve_at.new.self.room c.reserve_at.new.self.indexes c.reserve_at.result c.self.invariant c.in_ok-index.ensures
    c.reserve_at.ensures.indexes (sym c.is_err.ensures.value ∙ c.if-is_err.false) c.reserve_at.ensures.room

pub invariant_of-self-2 : goal.invariant_of-self-2
invariant_of-self-2 c =
    kept_lower_borrow (ledger_of c.self.inside.handles.tables.items c.self.inside.handles.counter c.self.inside.handles.scopes.items
    c.self.inside.host.indexes) c.args.number c.args.table c.args.resource c.in_ok-index.index
    (handles_of c.insert_borrow.new.self.tables.items c.insert_borrow.new.self.counter c.insert_borrow.new.self.scopes.items)
    c.write_at.new.self.indexes
    (let v = ap (λ (l : LedgerState). length l.handles.scopes) c.self.view_is in let h = c.requires.scope_open in omega arith) c.in_ok-index.ensures
    (c.write_at.ensures ∙ ap (written_at c.args.table c.in_ok-index.index) c.reserve_at.ensures.indexes) c.self.invariant
