use Rattle.std.proofs.Common.{Ok, Option, subst, sym, ℕ}
use Rattle.canon_ledger.specs.Ledger.{Did, host_resource_lower_own}
use Rattle.canon_resources.specs.Parts.{do_part, dtor_for, host_own, instance_for, table_for, take}
use Rattle.canon_resources.proofs.Moves.{Does, moves_both}
use Rattle.canon_resources.proofs.lift.take_in.Goals as goal

pub returns-clause-moves : goal.returns-clause-moves
returns-clause-moves c =
    let a = c.args in
    let i = a.types.now in
    let before = a.ledger.now in
    let mid = c.take_at.new.ledger in
    let after = c.insert_host.new.ledger in
    let rep = c.in-Ok.rep in
    let kept = c.kept_for-dtor in
    let first : Does (take (table_for i a.ty) a.ty a.index) before mid (Ok rep) =
    λ last. subst (λ (p : ℕ). Did (do_part last (take p a.ty a.index) before) (Ok rep) before mid) c.table_for-table.ensures.number (sym c.in-Ok.ensures.step.0, c.in-Ok.ensures.step.1) in
    moves_both before mid after (take (table_for i a.ty) a.ty a.index) (host_own (dtor_for i a.ty) (instance_for i a.ty)) rep first c.insert_host.result
    (subst (λ (x : Option ℕ). Did (host_resource_lower_own mid rep (dtor_for i a.ty) x) c.insert_host.result mid after) kept.ensures.instance
    (subst (λ (x : Option ℕ). Did (host_resource_lower_own mid rep x kept.result.1) c.insert_host.result mid after) kept.ensures.dtor c.insert_host.ensures.step))
