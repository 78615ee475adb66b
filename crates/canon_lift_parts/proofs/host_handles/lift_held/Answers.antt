use Rattle.std.proofs.Common.{subst, sym}
use Rattle.canon_reading.specs.Handles.{leaf_of}
use Rattle.canon_reading.specs.HostHandles.{HeldLifts}
use Rattle.canon_lift_parts.proofs.host_handles.lift_held.Goals as goal

pub returns-in-Own-clause-lifts : goal.returns-in-Own-clause-lifts
returns-in-Own-clause-lifts g c =
    let core = c.args.cx.now.core.now in
    subst (λ x. HeldLifts g.R.OfRepresentation.made core.component.types core.ledger c.lift_made.new.cx.core.now.ledger (leaf_of x c.args.index) c.lift_made.result) (sym c.in-Own.is) c.lift_made.ensures.lifts

pub returns-in-Borrow-clause-lifts : goal.returns-in-Borrow-clause-lifts
returns-in-Borrow-clause-lifts g c =
    let core = c.args.cx.now.core.now in
    subst (λ x. HeldLifts g.R.OfRepresentation.made core.component.types core.ledger c.lift_made-in-Borrow.new.cx.core.now.ledger (leaf_of x c.args.index) c.lift_made-in-Borrow.result) (sym c.in-Borrow.is)
    c.lift_made-in-Borrow.ensures.lifts
