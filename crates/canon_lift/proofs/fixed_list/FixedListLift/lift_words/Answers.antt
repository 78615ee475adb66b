use Rattle.canon_context.specs.Core.{component_types}
use Rattle.canon_types.specs.Table.{shape_of}
use Rattle.canon_reading.specs.Reading.{setting_in}
use Rattle.canon_reading.specs.Spots.{flat_in}
use Rattle.canon_lift_parts.proofs.Lookups.{IsFixedElement, fixed_part, fixed_there}
use Rattle.canon_lift.proofs.Rows.{fixed_refused}
use Rattle.canon_lift_parts.proofs.WordRooms.{lift_fixed_words}
use Rattle.std.proofs.Common.{length}
use Rattle.canon_lift.proofs.fixed_list.FixedListLift.lift_words.Given.{Over}
use Rattle.canon_lift.proofs.fixed_list.FixedListLift.lift_words.Goals.{After-fixed_length_list}
use Rattle.canon_lift.proofs.fixed_list.FixedListLift.lift_words.Goals as goal

-- the element that was looked up
element : (g : Over) (c : After-fixed_length_list g) → IsFixedElement g.T.ComponentType.fits c.args.cx.now.core.now.component.types g.row.N c.args.ty c.fixed_length_list.result.now.element
element g c =
    let list = c.fixed_length_list.result.now in
    fixed_there g.T.ComponentType.fits c.args.cx.now.core.now.component.types c.types.result.now c.in-FixedLengthList.i g.row.N list.size c.args.ty list.element
    c.types.ensures c.in-FixedLengthList.is c.fixed_length_list.ensures.entry c.requires.fits

pub lift_row-requires-clause-words : goal.lift_row-requires-clause-words
lift_row-requires-clause-words g c =
    let core = c.args.cx.now.core.now in
    let t = component_types core in
    let list = c.fixed_length_list.result.now in
    let there = element g (goal.at.lift_row-requires-clause-words g c).After-fixed_length_list in
    lift_fixed_words (shape_of t c.args.ty) (shape_of t list.element) g.row.N c.args.at (length c.args.src.now) there.shape c.requires.words

pub returns-in-Err-clause-lifts : goal.returns-in-Err-clause-lifts
returns-in-Err-clause-lifts g c =
    let cx = c.args.cx.now in
    let core = cx.core.now in
    let t = component_types core in
    let list = c.fixed_length_list.result.now in
    let there = element g (goal.at.returns-in-Err-clause-lifts g c).After-fixed_length_list in
    let s = shape_of t c.args.ty in
    let u = shape_of t list.element in
    let after = c.lift_row.new.cx in
    fixed_refused g.row.N g.T.Lift.reading (λ v. v.items.items) (setting_in core cx.options) (flat_in c.args.src.now c.args.at) s u core.ledger after.core.now.ledger cx.fuel after.fuel c.in-Err.fault
    (fixed_part s u g.row.N c.args.at there.shape) c.in-Err.ensures.lifts
