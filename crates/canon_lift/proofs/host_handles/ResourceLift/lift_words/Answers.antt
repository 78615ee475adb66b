use Rattle.std.proofs.Common.{length}
use Rattle.canon_resources.specs.Types.{as_host}
use Rattle.canon_reading.specs.HostHandles.{IsMadeBy}
use Rattle.canon_reading.specs.Reading.{setting_in}
use Rattle.canon_reading.specs.Spots.{flat_in}
use Rattle.canon_lift_parts.proofs.HostSteps.{held_lifts}
use Rattle.canon_lift_parts.proofs.WordRooms.{lift_handle_words}
use Rattle.canon_lift.proofs.host_handles.ResourceLift.lift_words.Goals as goal
use Rattle.canon_typed.proofs.Layouts.{is_handle}

pub word_u32-requires : goal.word_u32-requires
word_u32-requires g c =
    let types = c.args.cx.now.core.now.component.types in
    lift_handle_words types c.args.ty c.args.at (length c.args.src.now) (is_handle (as_host g.T.HostType.ID) types c.args.ty c.requires.fits) c.requires.words

pub returns-clause-lifts : goal.returns-clause-lifts
returns-clause-lifts g c =
    let cx = c.args.cx.now in
    let core = cx.core.now in
    held_lifts (IsMadeBy (as_host g.T.HostType.ID)) (setting_in core cx.options) (flat_in c.args.src.now c.args.at) c.args.ty c.word_u32.result core.ledger c.lift_held.new.cx.core.now.ledger cx.fuel c.lift_held.new.cx.fuel
    (is_handle (as_host g.T.HostType.ID) core.component.types c.args.ty c.requires.fits) c.word_u32.ensures tt c.lift_held.ensures.same_fuel c.lift_held.result c.lift_held.ensures.lifts
