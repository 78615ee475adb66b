use Rattle.std.proofs.Common.{ap, subst, sym, true, ◌∙◌, ◌≡◌}
use Rattle.canon_ledger.specs.Handles.{can_leave}
use Rattle.canon_ledger.specs.Ledger.{host_resource_drop, leave}
use Rattle.canon_func.proofs.Scoped.{can_leave_entered, dropped_entered, leave_entered}
use Rattle.canon_func.proofs.dropping.remove.Goals as goal

pub leave-requires : goal.leave-requires
leave-requires g c =
    let l = c.args.core.now.ledger in
    let told = dropped_entered l c.enter.new.self.ledger c.host_resource_drop.new.self.ledger c.args.index _ c.in-Ok.ensures.ok.1 c.in-Err.ensures.step in
    subst (λ k. can_leave k.handles ≡ true) (sym told.1) (can_leave_entered (host_resource_drop l c.args.index).after.handles)

pub returns-in-Ok-host_resource_drop-clause-removes : goal.returns-in-Ok-host_resource_drop-clause-removes
returns-in-Ok-host_resource_drop-clause-removes g c =
    let l = c.args.core.now.ledger in
    let told = dropped_entered l c.enter.new.self.ledger c.host_resource_drop.new.self.ledger c.args.index _ c.in-Ok.ensures.ok.1 c.in-Ok-host_resource_drop.ensures.step in
    record { removed = c.in-Ok-host_resource_drop.removed; answered = told.0; asks = c.destructor_of.ensures; ledger = told.1 }

pub returns-in-Err-clause-removes : goal.returns-in-Err-clause-removes
returns-in-Err-clause-removes g c =
    let l = c.args.core.now.ledger in
    let told = dropped_entered l c.enter.new.self.ledger c.host_resource_drop.new.self.ledger c.args.index _ c.in-Ok.ensures.ok.1 c.in-Err.ensures.step in
    (told.0, c.leave.ensures.left ∙ (ap leave told.1 ∙ leave_entered _))
