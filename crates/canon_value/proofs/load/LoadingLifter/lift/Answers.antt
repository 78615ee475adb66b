use Rattle.canon_lowering.specs.Storing.{narrow}
use Rattle.canon_model.specs.Leaves.{reach_leaves}
use Rattle.canon_types.specs.Table.{shape_of}
use Rattle.canon_value_parts.specs.Resources.{resources}
use Rattle.canon_value_parts.proofs.LiftedSteps.{lifted_after}
use Rattle.canon_value.proofs.load.LoadingLifter.lift.Goals as goal

pub returns-clause-steps : goal.returns-clause-steps
returns-clause-steps c =
    let s = c.args.source.now in
    let l = c.args.self.now in
    let load = c.load_value in
    lifted_after resources s.instance.now c.args.ledger.now load.new.ledger (reach_leaves (narrow s.memory.now) (shape_of s.types.now l.ty) l.at) load.result load.ensures.handles
