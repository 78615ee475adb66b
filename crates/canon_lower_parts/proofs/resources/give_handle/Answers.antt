use Rattle.std.proofs.Common.{ap, false, true}
use Rattle.canon_resources.specs.Parts.{lower_parts, passed}
use Rattle.canon_lower_parts.proofs.HandleSteps.{given_number}
use Rattle.canon_lower_parts.specs.Handles.{handle_gives}
use Rattle.canon_types.specs.Table.{shape_of}
use Rattle.canon_types.specs.declared.types.InterfaceType.{InterfaceType}
use Rattle.canon_lower_parts.proofs.resources.give_handle.Goals as goal

pub returns-in-Own-clause-gives : goal.returns-in-Own-clause-gives
returns-in-Own-clause-gives g c =
    let a = c.args in
    let core = a.cx.now.core.now in
    let i = core.component.types in
    given_number core c.lower_own.new.self (lower_parts i (passed true c.in-Own.t a.resource)) (handle_gives i (shape_of i.types a.ty) a.resource) c.lower_own.result c.faulted.result c.lower_own.ensures.same
    (ap (λ (x : InterfaceType). handle_gives i (shape_of i.types x) a.resource) c.in-Own.is) c.faulted.ensures.fault c.faulted.ensures.narrow c.lower_own.ensures.moves

pub returns-in-Borrow-clause-gives : goal.returns-in-Borrow-clause-gives
returns-in-Borrow-clause-gives g c =
    let a = c.args in
    let core = a.cx.now.core.now in
    let i = core.component.types in
    given_number core c.lower_borrow.new.self (lower_parts i (passed false c.in-Borrow.t a.resource)) (handle_gives i (shape_of i.types a.ty) a.resource) c.lower_borrow.result c.faulted-in-Borrow.result c.lower_borrow.ensures.same
    (ap (λ (x : InterfaceType). handle_gives i (shape_of i.types x) a.resource) c.in-Borrow.is) c.faulted-in-Borrow.ensures.fault c.faulted-in-Borrow.ensures.narrow c.lower_borrow.ensures.moves
