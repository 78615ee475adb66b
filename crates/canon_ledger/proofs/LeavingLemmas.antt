-- A scope that ended is empty, so that it may be left.
use Rattle.std.proofs.Common.{Bool, Err, IfOk, List, None, Ok, Option, Result, Some, [], ap, arith, length, refl, sym, true, ℕ, ◌&&◌, ◌-◌, ◌<◌, ◌==◌, ◌∙◌, ◌∷◌, ◌≡◌}
use Rattle.std.specs.Prelude.{false, if◌then◌else◌, nat_lt, not}
use Rattle.std.proofs.lemmas.List.{get_or-set_same, length-set}
use Rattle.std.proofs.lemmas.Bool.{lt-ltb, ltb-true}
use Rattle.canon_handles.specs.Calls.{raw_index, resource_undo_lend}
use Rattle.canon_handles.specs.Step.{refuse_if}
use Rattle.canon_handles.specs.Table.{Counter, Table}
use Rattle.canon_handles.specs.declared.handle.Entry.{Entry}
use Rattle.canon_ledger.proofs.HandlesLemmas.{if_ok-finished}
use Rattle.canon_ledger.proofs.StepLemmas.{if_ok_always}
use Rattle.canon_ledger.specs.Books.{DidSurely}
use Rattle.canon_ledger.specs.Handles.{Handles, Lender, OpenScope, StepAnswer, can_leave, exit_scope, give_back, is_empty_scope, no_scope, on_table, opened, scope_at, top_scope, undone, with_scope}
use Rattle.canon_ledger.specs.Ledger.{Done, LedgerState, plainly, validate_scope_exit}
use Rattle.canon_ledger.specs.declared.fault.ResourceFault.{ResourceFault}
use Rattle.canon_ledger.specs.declared.fault.ResourceFault.TheVariants as fault

module _ (h : Handles) (scopes : List OpenScope) (same : h.scopes ≡ scopes) where
  pub undone_keeps : (r : StepAnswer (Unit {0})) → IfOk r (λ w. w.1.scopes ≡ scopes) → (undone h r).scopes ≡ scopes
  undone_keeps (Ok (u, m)) e = e
  undone_keeps (Err x) e = same

  pub undo_keeps : (lender : Lender) → (undone h (on_table h lender.table (raw_index lender.index) (λ t c. resource_undo_lend t c lender.index))).scopes ≡ scopes
  undo_keeps lender = undone_keeps (on_table h lender.table (raw_index lender.index) (λ t c. resource_undo_lend t c lender.index))
      (if_ok-finished (λ (w : Unit {0} × Handles). w.1.scopes ≡ scopes) h lender.table (raw_index lender.index) _ (if_ok_always _ _ (λ (a : Unit {0} × Table Entry × Counter). same)))

-- ---- the end of a scope

pub err_is : {A : Type 0} (d e : ResourceFault) → ◌≡◌ {A = Result A ResourceFault} (Err d) (Err e) → d ≡ e
err_is d e h = cc

pub given_back : (lenders : List Lender) (h : Handles) (scopes : List OpenScope) → h.scopes ≡ scopes → (give_back lenders h).scopes ≡ scopes
given_back [] h scopes same = same
given_back (lender ∷ lenders) h scopes same = given_back lenders _ scopes (undo_keeps h scopes same lender)

-- the top one is empty
abbrev pub HasEmptyTop : Handles → Type 0
HasEmptyTop h = (0 < length h.scopes) × (scope_at h (length h.scopes - 1) ≡ no_scope)

emptied : (h m : Handles) (k : ℕ) → k < length h.scopes → k ≡ length h.scopes - 1 → m.scopes ≡ (with_scope h k no_scope).scopes → HasEmptyTop m
emptied h m k within is same =
    let count : length m.scopes ≡ length h.scopes = ap length same ∙ length-set h.scopes k no_scope in (
      omega arith,
      ap (λ n. scope_at m (n - 1)) count ∙ (ap (λ n. scope_at m n) (sym is) ∙ (ap (λ scopes. scope_at (record { tables = m.tables; counter = m.counter; scopes = scopes }) k) same ∙ get_or-set_same h.scopes k no_scope no_scope within)),
    )

pub exit_refused : (h : Handles) (k : ℕ) (b : Bool) (answer : StepAnswer (Unit {0})) (l m : LedgerState) → plainly (refuse_if b fault.BorrowsRemain answer) l ≡ record { answer = Ok tt; after = m }
    → refuse_if b fault.BorrowsRemain answer ≡ answer
exit_refused h k true answer l m e = absurd (let w = ap (λ (d : Done (Unit {0})). d.answer) e in cc)
exit_refused h k false answer l m e = refl

pub some_if : (b : Bool) (n k : ℕ) → Some k ≡ (if b then Some n else None) → (k ≡ n) × (b ≡ true)
some_if true n k e = (cc, refl)
some_if false n k e = absurd (cc)

exit_at : (l m : LedgerState) (o : Option ℕ) (n : ℕ) → o ≡ (if nat_lt n (length l.handles.scopes) then Some n else None) → n ≡ length l.handles.scopes - 1
    → plainly (exit_scope o l.handles) l ≡ record { answer = Ok tt; after = m } → HasEmptyTop m.handles
exit_at l m None n is top e = absurd (let w = ap (λ (d : Done (Unit {0})). d.answer) e in cc)
exit_at l m (Some k) n is top e =
    let answer : StepAnswer (Unit {0}) = Ok (tt, give_back (scope_at l.handles k).lenders (with_scope l.handles k no_scope)) in
    let went = exit_refused l.handles k (not ((scope_at l.handles k).borrow_count == 0)) answer l m e in
    let ends = ap (λ (d : Done (Unit {0})). d.after.handles) (sym e ∙ ap (λ r. plainly r l) went) in
    let at = some_if (nat_lt n (length l.handles.scopes)) n k is in
    let within = ltb-true n (length l.handles.scopes) at.1 in
    emptied l.handles m.handles k (omega (arith, at.0, within)) (at.0 ∙ top) (ap (λ (h : Handles). h.scopes) ends ∙ given_back (scope_at l.handles k).lenders (with_scope l.handles k no_scope) _ refl)

exit_top : (l m : LedgerState) (b : Bool) → plainly (exit_scope (opened l.handles (if b then None else Some (length l.handles.scopes - 1))) l.handles) l ≡ record { answer = Ok tt; after = m } → HasEmptyTop m.handles
exit_top l m true e = absurd (let w = ap (λ (d : Done (Unit {0})). d.answer) e in cc)
exit_top l m false e = exit_at l m _ (length l.handles.scopes - 1) refl refl e

pub ended_empty : (l m : LedgerState) → validate_scope_exit (top_scope l.handles) l ≡ record { answer = Ok tt; after = m } → HasEmptyTop m.handles
ended_empty l m e = exit_top l m (length l.handles.scopes == 0) e

pub empty_leaves : (h : Handles) → HasEmptyTop h → can_leave h ≡ true
empty_leaves h e = ap (λ b. b && is_empty_scope (scope_at h (length h.scopes - 1))) (lt-ltb 0 (length h.scopes) e.0) ∙ ap is_empty_scope e.1

pub ended_leaves : (l m : LedgerState) → DidSurely (validate_scope_exit (top_scope l.handles) l) (Ok tt) m → can_leave m.handles ≡ true
ended_leaves l m did = empty_leaves m.handles (ended_empty l m (λ i. record { answer = sym did.0 i; after = sym did.1 i }))
