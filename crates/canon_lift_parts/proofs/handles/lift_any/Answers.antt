use Rattle.std.proofs.Common.{subst, sym}
use Rattle.canon_reading.specs.Handles.{HandleLifts, leaf_of}
use Rattle.canon_lift_parts.proofs.handles.lift_any.Goals as goal

pub returns-in-Own-clause-lifts : goal.returns-in-Own-clause-lifts
returns-in-Own-clause-lifts g c =
    let core = c.args.cx.now.core.now in
    subst (λ x. HandleLifts core.component.types core.ledger c.lift_by.new.self.core.now.ledger (leaf_of x c.args.index) c.lift_by.result) (sym c.in-Own.is) c.lift_by.ensures.gives.0

pub returns-in-Borrow-clause-lifts : goal.returns-in-Borrow-clause-lifts
returns-in-Borrow-clause-lifts g c =
    let core = c.args.cx.now.core.now in
    subst (λ x. HandleLifts core.component.types core.ledger c.lift_by-in-Borrow.new.self.core.now.ledger (leaf_of x c.args.index) c.lift_by-in-Borrow.result) (sym c.in-Borrow.is) c.lift_by-in-Borrow.ensures.gives.0
