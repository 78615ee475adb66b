use Rattle.std.proofs.Common.{arith, refl}
use Rattle.canon_context.specs.Core.{component_types}
use Rattle.canon_types.specs.Table.{shape_of}
use Rattle.canon_reading.specs.Reading.{setting_in}
use Rattle.canon_reading.specs.Spots.{stored}
use Rattle.canon_lift_parts.proofs.Refusals.{out_of_memory_after}
use Rattle.canon_lift.proofs.compounds.BoxLift.linear_lift_from_memory.Goals as goal

pub returns-in-Ok-clause-lifts : goal.returns-in-Ok-clause-lifts
returns-in-Ok-clause-lifts g c =
    let cx = c.args.cx.now in
    let core = cx.core.now in
    let w = setting_in core cx.options in
    let s = shape_of (component_types core) c.args.ty in
    let after = c.linear_lift_from_memory.new.cx in
    let (read, spent) = c.in-Ok.ensures.lifts in
    out_of_memory_after _ w (stored c.args.at) s core.ledger after.core.now.ledger cx.fuel after.fuel refl
    (g.met.T.Lift.taken w (stored c.args.at) s core.ledger after.core.now.ledger c.in-Ok.value read) (omega (arith, spent))
