use Rattle.std.proofs.Common.{ap, false, true}
use Rattle.canon_types.specs.Table.{shape_of}
use Rattle.canon_types.specs.declared.types.InterfaceType.{InterfaceType}
use Rattle.canon_lower_parts.proofs.HandleSteps.{given_number}
use Rattle.canon_lower_parts.specs.Handles.{held_gives, held_parts}
use Rattle.canon_lower_parts.proofs.host_resources.give_held.Goals as goal

pub returns-in-Own-clause-gives : goal.returns-in-Own-clause-gives
returns-in-Own-clause-gives g c =
    let a = c.args in
    let core = a.cx.now.core.now in
    let i = core.component.types in
    let kind = g.R.HeldResource.kind a.resource.now in
    let st = g.R.HeldResource.state a.resource.now in
    let rep = g.R.HeldResource.rep a.resource.now in
    given_number core c.give_own.new.core (held_parts true i c.in-Own.t kind st rep) (held_gives kind st rep i (shape_of i.types a.ty)) c.give_own.result c.faulted.result c.give_own.ensures.same
    (ap (λ (x : InterfaceType). held_gives kind st rep i (shape_of i.types x)) c.in-Own.is) c.faulted.ensures.fault c.faulted.ensures.narrow c.give_own.ensures.moves

pub returns-in-Borrow-clause-gives : goal.returns-in-Borrow-clause-gives
returns-in-Borrow-clause-gives g c =
    let a = c.args in
    let core = a.cx.now.core.now in
    let i = core.component.types in
    let kind = g.R.HeldResource.kind a.resource.now in
    let st = g.R.HeldResource.state a.resource.now in
    let rep = g.R.HeldResource.rep a.resource.now in
    given_number core c.lend.new.core (held_parts false i c.in-Borrow.t kind st rep) (held_gives kind st rep i (shape_of i.types a.ty)) c.lend.result c.faulted-in-Borrow.result c.lend.ensures.same
    (ap (λ (x : InterfaceType). held_gives kind st rep i (shape_of i.types x)) c.in-Borrow.is) c.faulted-in-Borrow.ensures.fault c.faulted-in-Borrow.ensures.narrow c.lend.ensures.moves
