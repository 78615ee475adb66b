use Rattle.std.proofs.Common.{arith, refl}
use Rattle.canon_context.specs.Core.{component_types}
use Rattle.canon_types.specs.Table.{shape_of}
use Rattle.canon_reading.specs.Reading.{setting_in}
use Rattle.canon_reading.specs.Spots.{stored}
use Rattle.canon_reading.specs.Taken.{each_counted}
use Rattle.canon_lift_parts.proofs.Refusals.{out_of_memory_after}
use Rattle.canon_lift.proofs.lift.Lift.linear_lift_into_from_memory.Goals as goal

pub returns-in-Ok-clause-lifts : goal.returns-in-Ok-clause-lifts
returns-in-Ok-clause-lifts g c =
    let cx = c.args.cx.now in
    let list = c.args.list.now in
    let w = setting_in cx.core.now cx.options in
    let s = shape_of (component_types cx.core.now) list.element in
    let ((count, each), spent) = c.in-Ok.ensures.lifts in
    out_of_memory_after _ w (stored list.pointer) s cx.core.now.ledger c.linear_lift_list_from_memory.new.cx.core.now.ledger cx.fuel c.linear_lift_list_from_memory.new.cx.fuel refl
    (each_counted g.Self.Lift.reading g.met.Self.Lift.taken w s (stored list.pointer) list.count cx.core.now.ledger c.linear_lift_list_from_memory.new.cx.core.now.ledger c.in-Ok.items.items count each) (omega (arith, spent))
