use Rattle.canon_context.specs.Core.{component_types}
use Rattle.canon_types.specs.Table.{shape_of}
use Rattle.canon_model.specs.Memory.{cap}
use Rattle.canon_reading.specs.Reading.{setting_in}
use Rattle.canon_reading.specs.Spots.{stored}
use Rattle.canon_lift.proofs.Pairs.{range_refused}
use Rattle.canon_lift.proofs.lists.VecLift.linear_lift_from_memory.Goals as goal

pub returns-in-Err-clause-lifts : goal.returns-in-Err-clause-lifts
returns-in-Err-clause-lifts g c =
    let cx = c.args.cx.now in
    let core = cx.core.now in
    let after = c.linear_lift_from_memory.new.cx in
    range_refused g.T.ComponentType.fits (cap g.T.ComponentType.host_bytes) g.T.Lift.reading (λ v. v.items) (setting_in core cx.options) (stored c.args.at) (shape_of (component_types core) c.args.ty)
    core.ledger after.core.now.ledger cx.fuel after.fuel
    c.in-Err.fault c.in-Err.ensures.lifts
