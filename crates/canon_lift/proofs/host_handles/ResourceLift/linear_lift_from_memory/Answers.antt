use Rattle.std.proofs.Common.{◌≤◌, ◌+◌, ◌∙◌, ap, false, length}
use Rattle.canon_context.specs.Core.{component_types}
use Rattle.canon_lowering.specs.Storing.{narrow}
use Rattle.canon_model.specs.Layout.{size}
use Rattle.canon_model.specs.Memory.{num}
use Rattle.canon_resources.specs.Types.{as_host}
use Rattle.canon_types.specs.Table.{shape_of}
use Rattle.canon_reading.specs.HostHandles.{IsMadeBy}
use Rattle.canon_reading.specs.Reading.{setting_in}
use Rattle.canon_reading.specs.Spots.{stored}
use Rattle.canon_lift_parts.proofs.HandleSteps.{lift_handle_room}
use Rattle.canon_lift_parts.proofs.HostSteps.{held_lifts}
use Rattle.canon_lift.proofs.host_handles.ResourceLift.linear_lift_from_memory.Goals as goal
use Rattle.canon_typed.proofs.Layouts.{is_handle}

pub load_u32-index-requires : goal.load_u32-index-requires
load_u32-index-requires g c =
    let core = c.args.cx.now.core.now in
    lift_handle_room core.component.types c.args.ty c.memory.result.now core.memory c.args.at (is_handle (as_host g.T.HostType.ID) core.component.types c.args.ty c.requires.fits) c.requires.inside c.memory.ensures

pub returns-clause-lifts : goal.returns-clause-lifts
returns-clause-lifts g c =
    let cx = c.args.cx.now in
    let core = cx.core.now in
    let room : c.args.at + size false (shape_of (component_types core) c.args.ty) ≤ length core.memory = c.requires.inside in
    held_lifts (IsMadeBy (as_host g.T.HostType.ID)) (setting_in core cx.options) (stored c.args.at) c.args.ty c.load_u32-index.result core.ledger c.lift_held.new.cx.core.now.ledger cx.fuel c.lift_held.new.cx.fuel
    (is_handle (as_host g.T.HostType.ID) core.component.types c.args.ty c.requires.fits) (c.load_u32-index.ensures ∙ ap (λ xs. num (narrow xs) c.args.at 4) c.memory.ensures) room c.lift_held.ensures.same_fuel c.lift_held.result
    c.lift_held.ensures.lifts
