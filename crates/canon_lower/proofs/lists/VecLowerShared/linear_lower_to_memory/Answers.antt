use Rattle.std.proofs.Common.{List, subst}
use Rattle.std.specs.Prelude.{flat_map}
use Rattle.canon_context.proofs.Moves.{GuestLaws}
use Rattle.canon_context.specs.Core.{component_types}
use Rattle.canon_model.specs.Shape.{of_items}
use Rattle.canon_types.specs.Table.{shape_of}
use Rattle.canon_typed.specs.Meaning.{ListMeans}
use Rattle.canon_lower_parts.proofs.ListSteps.{list_done, lower_list_shape, pair_room}
use Rattle.canon_lower_parts.specs.Gives.{item_shape}
use Rattle.canon_lower_parts.specs.Places.{TypedPlaces}
use Rattle.canon_lower.proofs.lists.VecLowerShared.linear_lower_to_memory.Goals as goal

pub put_placed-requires-clause-narrow : goal.put_placed-requires-clause-narrow
put_placed-requires-clause-narrow g c = c.place_shared_list-placed.ensures.places.narrow

pub put_placed-requires-clause-room : goal.put_placed-requires-clause-room
put_placed-requires-clause-room g c =
    let L : GuestLaws _ = record { seen = g.G.Guest.seen; moves = g.G.Guest.moves; stays = g.met.G.Guest.stays; goes_on = g.met.G.Guest.goes_on } in
    let a = c.args in
    let core = a.cx.now.core.now in
    let p = c.place_shared_list-placed in
    let (s, shape) = lower_list_shape g.T.ComponentType.fits core.component.types a.ty c.requires.fits in
    pair_room L a.cx.now.options core p.new.cx.core.now (shape_of (component_types core) a.ty) s of_items shape a.offset c.requires.room _ _ p.result p.ensures.places

pub returns-clause-stores : goal.returns-clause-stores
returns-clause-stores g c =
    let L : GuestLaws _ = record { seen = g.G.Guest.seen; moves = g.G.Guest.moves; stays = g.met.G.Guest.stays; goes_on = g.met.G.Guest.goes_on } in
    let a = c.args in
    let core = a.cx.now.core.now in
    let z = shape_of (component_types core) a.ty in
    let W = g.T.ComponentType.walks in
    let (s, shape) = lower_list_shape g.T.ComponentType.fits core.component.types a.ty c.requires.fits in
    let p = c.place_shared_list-placed in
    let there = subst (λ (xs : List g.row.T.Denot). TypedPlaces L.seen L.moves a.cx.now.options core p.new.cx.core.now z (ListMeans W xs) (flat_map (g.T.LowerShared.gives core.component.types (item_shape z)) xs) p.result) c.as_slice.ensures.value p.ensures.places in
    list_done L a.cx.now.options core p.new.cx.core.now z s of_items shape a.offset c.requires.room (ListMeans W a.self.now.items) (flat_map (g.T.LowerShared.gives core.component.types (item_shape z)) a.self.now.items)
    c.put_placed.new.cx.core.now p.result c.put_placed.result c.put_placed.ensures.done c.put_placed.ensures.put there
