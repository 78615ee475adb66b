use Rattle.std.proofs.Common.{arith}
use Rattle.canon_context.proofs.Moves.{GuestLaws}
use Rattle.canon_context.specs.Core.{component_types}
use Rattle.canon_lower_parts.proofs.HandleSteps.{handle_lowers, lower_handle_refused, lower_handle_shape, lower_handle_words}
use Rattle.canon_lower_parts.specs.Handles.{handle_gives}
use Rattle.canon_types.specs.Table.{shape_of}
use Rattle.canon_lower_parts.proofs.resources.lower_resource.Goals as goal

pub bounds-dst-0 : goal.bounds-dst-0
bounds-dst-0 g c = omega (arith, c.requires.words, lower_handle_words c.args.cx.now.core.now.component.types c.args.ty c.requires.fits)

pub returns-in-Ok-clause-lowers : goal.returns-in-Ok-clause-lowers
returns-in-Ok-clause-lowers g c =
    let L : GuestLaws _ = record { seen = g.G.Guest.seen; moves = g.G.Guest.moves; stays = g.met.G.Guest.stays; goes_on = g.met.G.Guest.goes_on } in
    let a = c.args in
    let core = a.cx.now.core.now in
    let (owned, r, shape) = lower_handle_shape core.component.types a.ty c.requires.fits in
    handle_lowers L a.cx.now.options core c.give_handle.new.cx.core.now owned r (shape_of (component_types core) a.ty) shape c.memory-memory.ensures.small a.dst.now
    (handle_gives core.component.types (shape_of (component_types core) a.ty) a.resource)
    c.in-Ok.number c.u32.result c.requires.words c.u32.ensures c.in-Ok.ensures.gives

pub returns-in-Err-clause-lowers : goal.returns-in-Err-clause-lowers
returns-in-Err-clause-lowers g c =
    let L : GuestLaws _ = record { seen = g.G.Guest.seen; moves = g.G.Guest.moves; stays = g.met.G.Guest.stays; goes_on = g.met.G.Guest.goes_on } in
    let a = c.args in
    let core = a.cx.now.core.now in
    let (owned, r, shape) = lower_handle_shape core.component.types a.ty c.requires.fits in
    lower_handle_refused L a.cx.now.options core c.give_handle.new.cx.core.now owned r (shape_of (component_types core) a.ty) shape c.memory-memory.ensures.small a.dst.now
    (handle_gives core.component.types (shape_of (component_types core) a.ty) a.resource)
    c.in-Err.fault c.in-Err.ensures.gives
