use Rattle.canon_context.specs.Core.{component_types}
use Rattle.canon_types.specs.Table.{shape_of}
use Rattle.canon_reading.specs.Reading.{setting_in}
use Rattle.canon_reading.specs.Spots.{stored}
use Rattle.canon_lift_parts.proofs.Lookups.{IsFixedElement, fixed_aligned, fixed_inside, fixed_part, fixed_there}
use Rattle.canon_lift.proofs.Rows.{fixed_refused, row_items, lift_row_refused}
use Rattle.canon_lift.proofs.fixed_list.FixedListLift.linear_lift_from_memory.Given.{Over}
use Rattle.canon_lift.proofs.fixed_list.FixedListLift.linear_lift_from_memory.Goals.{After-fixed_length_list}
use Rattle.canon_lift.proofs.fixed_list.FixedListLift.linear_lift_from_memory.Goals as goal

-- the element that was looked up
element : (g : Over) (c : After-fixed_length_list g) → IsFixedElement g.T.ComponentType.fits c.args.cx.now.core.now.component.types g.row.N c.args.ty c.fixed_length_list.result.now.element
element g c =
    let list = c.fixed_length_list.result.now in
    fixed_there g.T.ComponentType.fits c.args.cx.now.core.now.component.types c.types.result.now c.in-FixedLengthList.i g.row.N list.size c.args.ty list.element
    c.types.ensures c.in-FixedLengthList.is c.fixed_length_list.ensures.entry c.requires.fits

pub linear_lift_list_from_memory-requires : goal.linear_lift_list_from_memory-requires
linear_lift_list_from_memory-requires g c =
    let cx = c.args.cx.now in
    let core = cx.core.now in
    let t = component_types core in
    let list = c.fixed_length_list.result.now in
    let there = element g (goal.at.linear_lift_list_from_memory-requires g c).After-fixed_length_list in
    let s = shape_of t c.args.ty in
    let u = shape_of t list.element in
    record {
      items = row_items (setting_in core cx.options) list.element c.args.at g.row.N c.row-row.result c.row-row.ensures g.T.ComponentType.fits there.known there.fits
          (fixed_aligned s u g.row.N c.args.at there.shape c.requires.aligned, fixed_inside s u g.row.N c.args.at there.shape core.memory c.requires.inside);
    }

pub returns-in-Err-clause-lifts : goal.returns-in-Err-clause-lifts
returns-in-Err-clause-lifts g c =
    let cx = c.args.cx.now in
    let core = cx.core.now in
    let t = component_types core in
    let w = setting_in core cx.options in
    let list = c.fixed_length_list.result.now in
    let there = element g (goal.at.returns-in-Err-clause-lifts g c).After-fixed_length_list in
    let s = shape_of t c.args.ty in
    let u = shape_of t list.element in
    let after = c.linear_lift_list_from_memory.new.cx in
    fixed_refused g.row.N g.T.Lift.reading (λ v. v.items.items) w (stored c.args.at) s u core.ledger after.core.now.ledger cx.fuel after.fuel
    c.in-Err.fault (fixed_part s u g.row.N c.args.at there.shape)
    (lift_row_refused w list.element c.args.at g.row.N c.row-row.result c.row-row.ensures g.T.Lift.reading core.ledger after.core.now.ledger cx.fuel after.fuel c.in-Err.fault c.in-Err.ensures.lifts)
