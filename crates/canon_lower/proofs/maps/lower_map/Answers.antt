use Rattle.std.proofs.Common.{arith}
use Rattle.canon_context.proofs.Moves.{GuestLaws}
use Rattle.canon_context.specs.Core.{component_types}
use Rattle.canon_lowering.proofs.Pairing.{pair_shape}
use Rattle.canon_model.specs.Shape.{of_pairs}
use Rattle.canon_types.specs.Table.{shape_of}
use Rattle.canon_typed.specs.Maps.{MapWalks}
use Rattle.canon_lower_parts.proofs.ListSteps.{list_blocks}
use Rattle.canon_lower_parts.proofs.MapSteps.{map_is}
use Rattle.canon_lower_parts.proofs.WordBlocks.{lower_list_words, placed_done, rows_fit}
use Rattle.canon_lower_parts.specs.Gives.{map_gives}
use Rattle.canon_lower.proofs.maps.lower_map.Goals as goal

pub put_words-requires-clause-narrow : goal.put_words-requires-clause-narrow
put_words-requires-clause-narrow g c = c.place_map-placed.ensures.places.narrow

pub put_words-requires-clause-room : goal.put_words-requires-clause-room
put_words-requires-clause-room g c =
    let core = c.args.cx.now.core.now in
    let (k, v, shape) = map_is g.K.ComponentType.fits g.V.ComponentType.fits core.component.types c.args.ty c.requires.fits in
    omega (arith, c.requires.words, lower_list_words (shape_of (component_types core) c.args.ty) (pair_shape k v) of_pairs shape)

pub returns-clause-lowers : goal.returns-clause-lowers
returns-clause-lowers g c =
    let L : GuestLaws _ = record { seen = g.G.Guest.seen; moves = g.G.Guest.moves; stays = g.met.G.Guest.stays; goes_on = g.met.G.Guest.goes_on } in
    let a = c.args in
    let core = a.cx.now.core.now in
    let z = shape_of (component_types core) a.ty in
    let (k, v, shape) = map_is g.K.ComponentType.fits g.V.ComponentType.fits core.component.types a.ty c.requires.fits in
    let Has = MapWalks g.K.ComponentType.walks g.V.ComponentType.walks a.map.now in
    let gives = map_gives g.K.LowerShared.gives g.V.LowerShared.gives core.component.types z a.map.now in
    let p = c.place_map-placed in
    placed_done L a.cx.now.options core p.new.cx.core.now z Has gives (list_blocks z (pair_shape k v) of_pairs shape) p.result c.put_words.result c.put_words.new.dst (lower_list_words z (pair_shape k v) of_pairs shape)
    (rows_fit z (pair_shape k v) of_pairs shape Has) c.put_words.ensures.done c.put_words.ensures.there p.ensures.places
