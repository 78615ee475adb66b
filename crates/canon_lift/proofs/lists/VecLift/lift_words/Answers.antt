use Rattle.canon_context.specs.Core.{component_types}
use Rattle.canon_types.specs.Table.{shape_of}
use Rattle.canon_model.specs.Memory.{cap}
use Rattle.canon_reading.specs.Reading.{setting_in}
use Rattle.canon_reading.specs.Spots.{flat_in}
use Rattle.canon_lift.proofs.MapLifting.{vec_lifts}
use Rattle.canon_lift.proofs.Pairs.{range_refused}
use Rattle.canon_lift.proofs.lists.VecLift.lift_words.Goals as goal

pub returns-in-Err-clause-lifts : goal.returns-in-Err-clause-lifts
returns-in-Err-clause-lifts g c =
    let cx = c.args.cx.now in
    let core = cx.core.now in
    let after = c.lift_words.new.cx in
    range_refused g.T.ComponentType.fits (cap g.T.ComponentType.host_bytes) g.T.Lift.reading (λ v. v.items) (setting_in core cx.options) (flat_in c.args.src.now c.args.at)
    (shape_of (component_types core) c.args.ty) core.ledger after.core.now.ledger cx.fuel after.fuel
    c.in-Err.fault c.in-Err.ensures.lifts

pub returns-in-Ok-clause-lifts : goal.returns-in-Ok-clause-lifts
returns-in-Ok-clause-lifts g c =
    let cx = c.args.cx.now in
    let core = cx.core.now in
    let mid = c.lift_words.new.cx in
    let after = c.linear_lift_list_from_memory.new.cx in
    let ((there, kept), spent) = c.in-Ok.ensures.lifts in
    vec_lifts (cap g.T.ComponentType.host_bytes) g.T.Lift.reading g.T.ComponentType.fits core cx.options (flat_in c.args.src.now c.args.at) (shape_of (component_types core) c.args.ty) c.in-Ok.list there
    after.core.now.ledger cx.fuel mid.fuel after.fuel tt spent mid.core.now mid.options c.linear_lift_list_from_memory.result c.in-Ok.ensures.same_core kept c.in-Ok.ensures.same_options c.linear_lift_list_from_memory.ensures.lifts
