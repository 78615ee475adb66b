use Rattle.std.proofs.Common.{Ok, subst, ℕ}
use Rattle.canon_context.proofs.Moves.{GuestLaws}
use Rattle.canon_context.specs.Core.{component_types}
use Rattle.canon_lower_parts.proofs.HandleSteps.{lower_handle_shape, handle_stores, handle_unstored, number_room}
use Rattle.canon_lower_parts.specs.Handles.{handle_gives}
use Rattle.canon_lower_parts.specs.Stores.{IsPut}
use Rattle.canon_types.specs.Table.{shape_of}
use Rattle.canon_lower_parts.proofs.resources.store_resource.Goals as goal

pub put-requires-clause-room : goal.put-requires-clause-room
put-requires-clause-room g c =
    let L : GuestLaws _ = record { seen = g.G.Guest.seen; moves = g.G.Guest.moves; stays = g.met.G.Guest.stays; goes_on = g.met.G.Guest.goes_on } in
    let a = c.args in
    let core = a.cx.now.core.now in
    let (owned, r, shape) = lower_handle_shape core.component.types a.ty c.requires.fits in
    number_room L a.cx.now.options core c.give_handle.new.cx.core.now owned r (shape_of (component_types core) a.ty) shape c.memory-memory.ensures.small a.offset
    (handle_gives core.component.types (shape_of (component_types core) a.ty) a.resource)
    (Ok c.in-Ok.number) c.requires.room c.in-Ok.ensures.gives

pub returns-in-Ok-clause-stores : goal.returns-in-Ok-clause-stores
returns-in-Ok-clause-stores g c =
    let L : GuestLaws _ = record { seen = g.G.Guest.seen; moves = g.G.Guest.moves; stays = g.met.G.Guest.stays; goes_on = g.met.G.Guest.goes_on } in
    let a = c.args in
    let core = a.cx.now.core.now in
    let (owned, r, shape) = lower_handle_shape core.component.types a.ty c.requires.fits in
    handle_stores L a.cx.now.options core c.give_handle.new.cx.core.now owned r (shape_of (component_types core) a.ty) shape c.memory-memory.ensures.small c.put.new.cx.core.now a.offset
    (handle_gives core.component.types (shape_of (component_types core) a.ty) a.resource)
    c.in-Ok.number c.requires.room c.in-Ok.ensures.gives (subst (λ (n : ℕ). IsPut c.give_handle.new.cx.core.now c.put.new.cx.core.now a.offset n 4) c.from.ensures c.put.ensures.put)

pub returns-in-Err-clause-stores : goal.returns-in-Err-clause-stores
returns-in-Err-clause-stores g c =
    let L : GuestLaws _ = record { seen = g.G.Guest.seen; moves = g.G.Guest.moves; stays = g.met.G.Guest.stays; goes_on = g.met.G.Guest.goes_on } in
    let a = c.args in
    let core = a.cx.now.core.now in
    let (owned, r, shape) = lower_handle_shape core.component.types a.ty c.requires.fits in
    handle_unstored L a.cx.now.options core c.give_handle.new.cx.core.now owned r (shape_of (component_types core) a.ty) shape c.memory-memory.ensures.small a.offset
    (handle_gives core.component.types (shape_of (component_types core) a.ty) a.resource)
    c.in-Err.fault c.in-Err.ensures.gives
