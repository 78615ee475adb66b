use Rattle.std.proofs.Common.{arith, subst}
use Rattle.canon_context.specs.Lifter.{origin_of}
use Rattle.canon_abi.specs.Options.{encoding_of}
use Rattle.canon_lowering.specs.Storing.{narrow}
use Rattle.canon_model.specs.Leaves.{flat_leaves}
use Rattle.canon_types.specs.Table.{TypeTable, shape_of}
use Rattle.canon_value_parts.specs.Lifts.{LiftsWords}
use Rattle.canon_value_parts.specs.Resources.{resources}
use Rattle.canon_value_parts.proofs.LiftSteps.{lift_err, lift_ok}
use Rattle.canon_value_parts.proofs.LiftedSteps.{lifted_after}
use Rattle.canon_value.proofs.lift.LiftingLifter.lift.Goals as goal

pub returns-clause-gives : goal.returns-clause-gives
returns-clause-gives c =
    let s = c.args.source.now in
    let enc = encoding_of s.encoding in
    let m = narrow s.memory.now in
    let l = c.args.self.now in
    let t = s.types.now in
    let lift = c.lift_value in (
      subst (λ (x : TypeTable). LiftsWords (origin_of s) l.src.now (shape_of x l.ty) l.at c.args.ledger.now c.args.fuel.now lift.result lift.new.ledger lift.new.fuel) c.requires.one_origin (record {
        ok = lift_ok enc m l.src.now (shape_of t l.ty) l.at lift.new.at c.args.fuel.now lift.new.fuel lift.result lift.ensures.lifts;
        err = lift_err enc m l.src.now (shape_of t l.ty) l.at lift.new.at c.args.fuel.now lift.new.fuel lift.result lift.ensures.lifts;
        falls = lift.ensures.falls;
        handles = lift.ensures.handles;
      }),
      λ scalar. lift.ensures.scalar scalar (omega arith),
    )

pub returns-clause-steps : goal.returns-clause-steps
returns-clause-steps c =
    let s = c.args.source.now in
    let l = c.args.self.now in
    let lift = c.lift_value in
    lifted_after resources s.instance.now c.args.ledger.now lift.new.ledger (flat_leaves (narrow s.memory.now) l.src.now (shape_of s.types.now l.ty) l.at) lift.result lift.ensures.handles
