use Rattle.std.proofs.Common.{◌≡◌, arith, List, length, Ok, ap, ◌∙◌, ℕ, ◌<◌, sym, subst}
use Rattle.canon_handles.specs.Step.{and_then}
use Rattle.canon_ledger.specs.Handles.{Handles, StepAnswer, OpenScope, borrow_added, one_borrow_more, scope_at}
use Rattle.canon_ledger.specs.Books.{Context, handles_of}
use Rattle.canon_ledger.proofs.ScopeLemmas.{scope_changed, scope_read, borrow_count_le, live_inserted}
use Rattle.canon_ledger.proofs.handles.StoreHandles.insert_borrow.Goals as goal

pub add_borrow-requires : goal.add_borrow-requires
add_borrow-requires c =
    let a = borrow_count_le (handles_of c.args.self.now.tables.items c.args.self.now.counter c.args.self.now.scopes.items) c.requires.sound c.args.number in
    let b = live_inserted (handles_of c.args.self.now.tables.items c.args.self.now.counter c.args.self.now.scopes.items) c.args.table c.args.number
    c.args.resource c.in_ok-index.index (handles_of c.insert_entry.new.self.tables.items c.insert_entry.new.self.counter
    c.insert_entry.new.self.scopes.items) c.in_ok-index.ensures.step in
    let d : (scope_at (handles_of c.args.self.now.tables.items c.args.self.now.counter c.args.self.now.scopes.items) c.args.number).borrow_count ≡ c.index_mut.result.now.scope.borrow_count =
    ap (λ (l : List Context). (scope_at (handles_of c.args.self.now.tables.items c.args.self.now.counter l) c.args.number).borrow_count) (sym c.insert_entry.ensures.scopes)
    ∙ ap (λ (s : OpenScope). s.borrow_count)
    (scope_read c.args.self.now.tables.items c.args.self.now.counter c.insert_entry.new.self.scopes.items c.args.number c.index_mut.result.now
    (subst (λ (l : List Context). c.args.number < length l) (sym c.insert_entry.ensures.scopes) c.requires.scope_open)
    c.index_mut.ensures.value) in
    let e = c.live-live.ensures in
    let f = c.live-live.type_inv in
    omega arith

pub returns : goal.returns
returns c =
    ap (λ (a : StepAnswer ℕ). and_then a (λ (i, h'). Ok (i, borrow_added h' c.args.number))) c.in_ok-index.ensures.step
    ∙ ap (λ (m : Handles). Ok (c.in_ok-index.index, m))
    (sym (scope_changed c.insert_entry.new.self.tables.items c.insert_entry.new.self.counter c.insert_entry.new.self.scopes.items c.args.number
    c.index_mut.result.now (subst (λ (l : List Context). c.args.number < length l) (sym c.insert_entry.ensures.scopes) c.requires.scope_open)
    c.index_mut.ensures.value one_borrow_more c.add_borrow.new.self c.add_borrow.ensures))
