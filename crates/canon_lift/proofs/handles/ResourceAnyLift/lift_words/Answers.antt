use Rattle.std.proofs.Common.{length}
use Rattle.canon_reading.specs.Reading.{setting_in}
use Rattle.canon_reading.specs.Spots.{flat_in}
use Rattle.canon_lift_parts.proofs.HandleSteps.{any_lifts}
use Rattle.canon_lift_parts.proofs.WordRooms.{lift_handle_words}
use Rattle.canon_lift.proofs.handles.ResourceAnyLift.lift_words.Goals as goal

pub word_u32-requires : goal.word_u32-requires
word_u32-requires g c = lift_handle_words c.args.cx.now.core.now.component.types c.args.ty c.args.at (length c.args.src.now) c.requires.fits c.requires.words

pub returns-clause-lifts : goal.returns-clause-lifts
returns-clause-lifts g c =
    let cx = c.args.cx.now in
    let core = cx.core.now in
    any_lifts (setting_in core cx.options) (flat_in c.args.src.now c.args.at) c.args.ty c.word_u32.result core.ledger c.lift_any.new.cx.core.now.ledger cx.fuel c.lift_any.new.cx.fuel c.requires.fits
    c.word_u32.ensures tt c.lift_any.ensures.same_fuel c.lift_any.result c.lift_any.ensures.lifts
