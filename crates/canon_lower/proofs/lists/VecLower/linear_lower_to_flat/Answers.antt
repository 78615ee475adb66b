use Rattle.std.proofs.Common.{List, arith, subst}
use Rattle.std.specs.Prelude.{flat_map}
use Rattle.canon_context.proofs.Moves.{GuestLaws}
use Rattle.canon_context.specs.Core.{component_types}
use Rattle.canon_model.specs.Shape.{of_items}
use Rattle.canon_types.specs.Table.{shape_of}
use Rattle.canon_typed.specs.Meaning.{ListMeans}
use Rattle.canon_lower_parts.proofs.ListSteps.{list_blocks, lower_list_shape}
use Rattle.canon_lower_parts.proofs.WordBlocks.{lower_list_words, placed_done, rows_fit}
use Rattle.canon_lower_parts.specs.Gives.{item_shape}
use Rattle.canon_lower_parts.specs.Places.{TypedPlaces}
use Rattle.canon_lower.proofs.lists.VecLower.linear_lower_to_flat.Goals as goal

pub put_words-requires-clause-narrow : goal.put_words-requires-clause-narrow
put_words-requires-clause-narrow g c = c.place_list-placed.ensures.places.narrow

pub put_words-requires-clause-room : goal.put_words-requires-clause-room
put_words-requires-clause-room g c =
    let core = c.args.cx.now.core.now in
    let (s, shape) = lower_list_shape g.T.ComponentType.fits core.component.types c.args.ty c.requires.fits in
    omega (arith, c.requires.words, lower_list_words (shape_of (component_types core) c.args.ty) s of_items shape)

pub returns-clause-lowers : goal.returns-clause-lowers
returns-clause-lowers g c =
    let L : GuestLaws _ = record { seen = g.G.Guest.seen; moves = g.G.Guest.moves; stays = g.met.G.Guest.stays; goes_on = g.met.G.Guest.goes_on } in
    let a = c.args in
    let core = a.cx.now.core.now in
    let z = shape_of (component_types core) a.ty in
    let W = g.T.ComponentType.walks in
    let (s, shape) = lower_list_shape g.T.ComponentType.fits core.component.types a.ty c.requires.fits in
    let p = c.place_list-placed in
    let there = subst (λ (xs : List g.row.T.Denot). TypedPlaces L.seen L.moves a.cx.now.options core p.new.cx.core.now z (ListMeans W xs) (flat_map (g.T.Lower.gives core.component.types (item_shape z)) xs) p.result) c.as_mut_slice.ensures.value p.ensures.places in
    placed_done L a.cx.now.options core p.new.cx.core.now z (ListMeans W a.self.now.items) (flat_map (g.T.Lower.gives core.component.types (item_shape z)) a.self.now.items) (list_blocks z s of_items shape)
    p.result c.put_words.result c.put_words.new.dst (lower_list_words z s of_items shape) (rows_fit z s of_items shape (ListMeans W a.self.now.items)) c.put_words.ensures.done c.put_words.ensures.there there
