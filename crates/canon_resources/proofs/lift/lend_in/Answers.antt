use Rattle.std.proofs.Common.{Ok, subst, ℕ}
use Rattle.canon_handles.specs.declared.handle.TypedResource.TheVariants.{Host}
use Rattle.canon_ledger.specs.Handles.{top_scope}
use Rattle.canon_ledger.specs.Ledger.{Did, resource_lower_borrow}
use Rattle.canon_resources.specs.Parts.{do_part, host_borrow, lend, table_for}
use Rattle.canon_resources.proofs.Moves.{Does, moves_both}
use Rattle.canon_resources.proofs.lift.lend_in.Goals as goal

pub returns-clause-moves : goal.returns-clause-moves
returns-clause-moves c =
    let a = c.args in
    let before = a.ledger.now in
    let mid = c.lend_at.new.ledger in
    let after = c.insert_borrow.new.ledger in
    let rep = c.in-Ok.rep in
    let first : Does (lend (table_for a.types.now a.ty) a.ty a.index) before mid (Ok rep) =
    λ last. subst (λ (p : ℕ). Did (do_part last (lend p a.ty a.index) before) (Ok rep) before mid) c.table_for-table.ensures.number c.in-Ok.ensures.step in
    moves_both before mid after (lend (table_for a.types.now a.ty) a.ty a.index) host_borrow rep first c.insert_borrow.result
    (subst (λ (p : ℕ). Did (resource_lower_borrow (top_scope mid.handles) mid p (Host rep)) c.insert_borrow.result mid after) c.host_table-table.ensures.number c.insert_borrow.ensures.step)
