use Rattle.std.proofs.Common.{subst, sym}
use Rattle.canon_resources.specs.Parts.{LeafMoves}
use Rattle.canon_model.specs.Leaves.{leaf}
use Rattle.canon_reading.specs.Ways.{rep_parts}
use Rattle.canon_lift_parts.proofs.HostSteps.{lent_rep, took_rep}
use Rattle.canon_lift_parts.proofs.host_handles.taken_rep.Goals as goal

pub returns-then-handle : goal.returns-then-handle
returns-then-handle c =
    let h = c.args.handle.now in
    let i = c.args.types.now in
    record {
      moves = subst (λ b. LeafMoves c.args.ledger.now c.take_at.new.ledger (rep_parts i (leaf b h.ty h.index)) c.take_at.result) (sym c.if-handle.true)
          (took_rep i c.args.ledger.now c.take_at.new.ledger c.table_for-table.result h.ty h.index c.take_at.result c.table_for-table.ensures.number c.take_at.ensures.step);
    }

pub returns-else-handle : goal.returns-else-handle
returns-else-handle c =
    let h = c.args.handle.now in
    let i = c.args.types.now in
    record {
      moves = subst (λ b. LeafMoves c.args.ledger.now c.lend_at.new.ledger (rep_parts i (leaf b h.ty h.index)) c.lend_at.result) (sym c.if-handle.false)
          (lent_rep i c.args.ledger.now c.lend_at.new.ledger c.table_for-table.result h.ty h.index c.lend_at.result c.table_for-table.ensures.number c.lend_at.ensures.step);
    }
