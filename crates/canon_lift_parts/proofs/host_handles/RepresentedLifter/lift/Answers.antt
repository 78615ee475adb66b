use Rattle.std.proofs.Common.{Err, Ok, refl, subst, sym}
use Rattle.canon_model.specs.Leaves.{leaf}
use Rattle.canon_reading.specs.HostHandles.{RepLifts}
use Rattle.canon_lift_parts.proofs.HostSteps.{rep_refused, rep_steps}
use Rattle.canon_lift_parts.proofs.host_handles.RepresentedLifter.lift.Goals as goal

pub returns-in-Ok-clause-steps : goal.returns-in-Ok-clause-steps
returns-in-Ok-clause-steps c =
    let h = c.args.self.now.handle in
    rep_steps c.args.source.now.instance.now c.args.ledger.now c.taken_rep.new.ledger (leaf h.owned h.ty h.index) (Ok c.in-Ok.rep) c.in-Ok.ensures.moves

pub returns-in-Err-clause-steps : goal.returns-in-Err-clause-steps
returns-in-Err-clause-steps c =
    let h = c.args.self.now.handle in
    rep_steps c.args.source.now.instance.now c.args.ledger.now c.taken_rep.new.ledger (leaf h.owned h.ty h.index) (Err c.in-Err.refusal) c.in-Err.ensures.moves

pub returns-in-Err-clause-gives : goal.returns-in-Err-clause-gives
returns-in-Err-clause-gives c =
    let h = c.args.self.now.handle in
    let i = c.args.source.now.instance.now in (
      subst (λ e. RepLifts i c.args.ledger.now c.taken_rep.new.ledger (leaf h.owned h.ty h.index) (Err e)) (sym c.refused.ensures)
          (rep_refused i c.args.ledger.now c.taken_rep.new.ledger (leaf h.owned h.ty h.index) c.in-Err.refusal c.in-Err.ensures.moves),
      refl,
    )
