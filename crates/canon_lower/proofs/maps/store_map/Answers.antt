use Rattle.canon_context.proofs.Moves.{GuestLaws}
use Rattle.canon_context.specs.Core.{component_types}
use Rattle.canon_lowering.proofs.Pairing.{pair_shape}
use Rattle.canon_model.specs.Shape.{of_pairs}
use Rattle.canon_types.specs.Table.{shape_of}
use Rattle.canon_typed.specs.Maps.{MapWalks}
use Rattle.canon_lower_parts.proofs.ListSteps.{list_done, pair_room}
use Rattle.canon_lower_parts.proofs.MapSteps.{map_is}
use Rattle.canon_lower_parts.specs.Gives.{map_gives}
use Rattle.canon_lower.proofs.maps.store_map.Goals as goal

pub put_placed-requires-clause-narrow : goal.put_placed-requires-clause-narrow
put_placed-requires-clause-narrow g c = c.place_map-placed.ensures.places.narrow

pub put_placed-requires-clause-room : goal.put_placed-requires-clause-room
put_placed-requires-clause-room g c =
    let L : GuestLaws _ = record { seen = g.G.Guest.seen; moves = g.G.Guest.moves; stays = g.met.G.Guest.stays; goes_on = g.met.G.Guest.goes_on } in
    let a = c.args in
    let core = a.cx.now.core.now in
    let z = shape_of (component_types core) a.ty in
    let (k, v, shape) = map_is g.K.ComponentType.fits g.V.ComponentType.fits core.component.types a.ty c.requires.fits in
    let Has = MapWalks g.K.ComponentType.walks g.V.ComponentType.walks a.map.now in
    let gives = map_gives g.K.LowerShared.gives g.V.LowerShared.gives core.component.types z a.map.now in
    let p = c.place_map-placed in
    pair_room L a.cx.now.options core p.new.cx.core.now z (pair_shape k v) of_pairs shape a.offset c.requires.room Has gives p.result p.ensures.places

pub returns-clause-stores : goal.returns-clause-stores
returns-clause-stores g c =
    let L : GuestLaws _ = record { seen = g.G.Guest.seen; moves = g.G.Guest.moves; stays = g.met.G.Guest.stays; goes_on = g.met.G.Guest.goes_on } in
    let a = c.args in
    let core = a.cx.now.core.now in
    let z = shape_of (component_types core) a.ty in
    let (k, v, shape) = map_is g.K.ComponentType.fits g.V.ComponentType.fits core.component.types a.ty c.requires.fits in
    let Has = MapWalks g.K.ComponentType.walks g.V.ComponentType.walks a.map.now in
    let gives = map_gives g.K.LowerShared.gives g.V.LowerShared.gives core.component.types z a.map.now in
    let p = c.place_map-placed in
    list_done L a.cx.now.options core p.new.cx.core.now z (pair_shape k v) of_pairs shape a.offset c.requires.room Has gives c.put_placed.new.cx.core.now p.result c.put_placed.result c.put_placed.ensures.done c.put_placed.ensures.put
    p.ensures.places
