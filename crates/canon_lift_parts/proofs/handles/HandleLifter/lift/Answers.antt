use Rattle.std.proofs.Common.{Err, Ok, refl, subst, sym}
use Rattle.canon_model.specs.Leaves.{leaf}
use Rattle.canon_reading.specs.Handles.{HandleLifts}
use Rattle.canon_lift_parts.proofs.HandleSteps.{lift_handle_refused, lifted_steps}
use Rattle.canon_lift_parts.proofs.handles.HandleLifter.lift.Goals as goal

pub returns-in-Ok-clause-steps : goal.returns-in-Ok-clause-steps
returns-in-Ok-clause-steps c =
    let h = c.args.self.now in
    lifted_steps c.args.source.now.instance.now c.args.ledger.now c.taken.new.ledger (leaf h.owned h.ty h.index) (Ok c.in-Ok.resource) c.in-Ok.ensures.lifts

pub returns-in-Err-clause-steps : goal.returns-in-Err-clause-steps
returns-in-Err-clause-steps c =
    let h = c.args.self.now in
    lifted_steps c.args.source.now.instance.now c.args.ledger.now c.taken.new.ledger (leaf h.owned h.ty h.index) (Err c.in-Err.refusal) c.in-Err.ensures.lifts

pub returns-in-Err-clause-gives : goal.returns-in-Err-clause-gives
returns-in-Err-clause-gives c =
    let h = c.args.self.now in
    let i = c.args.source.now.instance.now in (
      subst (λ e. HandleLifts i c.args.ledger.now c.taken.new.ledger (leaf h.owned h.ty h.index) (Err e)) (sym c.refused.ensures)
          (lift_handle_refused i c.args.ledger.now c.taken.new.ledger (leaf h.owned h.ty h.index) c.in-Err.refusal c.in-Err.ensures.lifts),
      refl,
    )
