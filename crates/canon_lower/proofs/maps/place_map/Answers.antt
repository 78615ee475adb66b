use Rattle.std.proofs.Common.{◌≡◌, subst}
use Rattle.canon_context.proofs.Moves.{GuestLaws}
use Rattle.canon_context.specs.Core.{component_types}
use Rattle.canon_model.specs.Shape.{map_of}
use Rattle.canon_types.specs.Instance.{Instance}
use Rattle.canon_types.specs.Table.{shape_of}
use Rattle.canon_typed.specs.Meaning.{PairMeans}
use Rattle.canon_lower_parts.proofs.MapSteps.{pairs_filled, lower_pairs_fit, pairs_room, pairs_stopped, pairs_ungiven}
use Rattle.canon_lower_parts.specs.Gives.{pair_gives}
use Rattle.canon_lower_parts.specs.Pairs.{IsPairType, pair_in}
use Rattle.canon_lower.proofs.maps.place_map.Goals as goal

pub returns-in-Err-clause-places : goal.returns-in-Err-clause-places
returns-in-Err-clause-places g c =
    let L : GuestLaws _ = record { seen = g.G.Guest.seen; moves = g.G.Guest.moves; stays = g.met.G.Guest.stays; goes_on = g.met.G.Guest.goes_on } in
    let a = c.args in
    let core = a.cx.now.core.now in
    let pair = c.pair_type-pair.result in
    let found = subst (λ (i : Instance). (shape_of i.types a.ty.now ≡ map_of (shape_of i.types pair.key) (shape_of i.types pair.value)) × IsPairType g.K.ComponentType.fits g.V.ComponentType.fits i pair) c.instance_type.ensures
    (c.pair_type-pair.ensures.shape, c.pair_type-pair.ensures.pair) in
    let W = PairMeans g.K.ComponentType.walks g.V.ComponentType.walks in
    let gives = pair_gives g.K.LowerShared.gives g.V.LowerShared.gives in
    let xs = a.map.now.entries in
    let s = pair_in (component_types core) pair in
    pairs_ungiven L a.cx.now.options W gives g.K.ComponentType.fits g.V.ComponentType.fits core c.ask_items.new.cx.core.now a.ty.now pair xs c.len-length.result found.0 c.len-length.ensures.len c.in-Err.fault (c.in-Err.ensures.asked s found.1.layout)

pub store_pairs-requires-clause-pair : goal.store_pairs-requires-clause-pair
store_pairs-requires-clause-pair g c =
    let L : GuestLaws _ = record { seen = g.G.Guest.seen; moves = g.G.Guest.moves; stays = g.met.G.Guest.stays; goes_on = g.met.G.Guest.goes_on } in
    let a = c.args in
    let core = a.cx.now.core.now in
    let pair = c.pair_type-pair.result in
    let found = subst (λ (i : Instance). (shape_of i.types a.ty.now ≡ map_of (shape_of i.types pair.key) (shape_of i.types pair.value)) × IsPairType g.K.ComponentType.fits g.V.ComponentType.fits i pair) c.instance_type.ensures
    (c.pair_type-pair.ensures.shape, c.pair_type-pair.ensures.pair) in
    let W = PairMeans g.K.ComponentType.walks g.V.ComponentType.walks in
    let gives = pair_gives g.K.LowerShared.gives g.V.LowerShared.gives in
    let xs = a.map.now.entries in
    let s = pair_in (component_types core) pair in
    lower_pairs_fit L a.cx.now.options W gives g.K.ComponentType.fits g.V.ComponentType.fits core c.ask_items.new.cx.core.now a.ty.now pair xs
    c.len-length.result found.0 c.len-length.ensures.len core c.in-Ok.pointer c.ask_items.new.cx.options c.in-Ok.ensures.same_options
    (c.in-Ok.ensures.asked s found.1.layout) found.1

pub store_pairs-requires-clause-room : goal.store_pairs-requires-clause-room
store_pairs-requires-clause-room g c =
    let L : GuestLaws _ = record { seen = g.G.Guest.seen; moves = g.G.Guest.moves; stays = g.met.G.Guest.stays; goes_on = g.met.G.Guest.goes_on } in
    let a = c.args in
    let core = a.cx.now.core.now in
    let pair = c.pair_type-pair.result in
    let found = subst (λ (i : Instance). (shape_of i.types a.ty.now ≡ map_of (shape_of i.types pair.key) (shape_of i.types pair.value)) × IsPairType g.K.ComponentType.fits g.V.ComponentType.fits i pair) c.instance_type.ensures
    (c.pair_type-pair.ensures.shape, c.pair_type-pair.ensures.pair) in
    let W = PairMeans g.K.ComponentType.walks g.V.ComponentType.walks in
    let gives = pair_gives g.K.LowerShared.gives g.V.LowerShared.gives in
    let xs = a.map.now.entries in
    let s = pair_in (component_types core) pair in
    pairs_room L a.cx.now.options W gives g.K.ComponentType.fits g.V.ComponentType.fits core c.ask_items.new.cx.core.now a.ty.now pair xs
    c.len-length.result found.0 c.len-length.ensures.len core c.in-Ok.pointer c.ask_items.new.cx.options c.in-Ok.ensures.same_options
    (c.in-Ok.ensures.asked s found.1.layout)

pub returns-in-Ok-store_pairs-clause-places : goal.returns-in-Ok-store_pairs-clause-places
returns-in-Ok-store_pairs-clause-places g c =
    let L : GuestLaws _ = record { seen = g.G.Guest.seen; moves = g.G.Guest.moves; stays = g.met.G.Guest.stays; goes_on = g.met.G.Guest.goes_on } in
    let a = c.args in
    let core = a.cx.now.core.now in
    let pair = c.pair_type-pair.result in
    let found = subst (λ (i : Instance). (shape_of i.types a.ty.now ≡ map_of (shape_of i.types pair.key) (shape_of i.types pair.value)) × IsPairType g.K.ComponentType.fits g.V.ComponentType.fits i pair) c.instance_type.ensures
    (c.pair_type-pair.ensures.shape, c.pair_type-pair.ensures.pair) in
    let W = PairMeans g.K.ComponentType.walks g.V.ComponentType.walks in
    let gives = pair_gives g.K.LowerShared.gives g.V.LowerShared.gives in
    let xs = a.map.now.entries in
    let s = pair_in (component_types core) pair in
    pairs_filled L a.cx.now.options W gives g.K.ComponentType.fits g.V.ComponentType.fits core c.ask_items.new.cx.core.now a.ty.now pair xs
    c.len-length.result found.0 c.len-length.ensures.len c.store_pairs.new.cx.core.now c.in-Ok.pointer c.ask_items.new.cx.options
    c.in-Ok.ensures.same_options (c.in-Ok.ensures.asked s found.1.layout) c.in-Ok-store_pairs.ensures.stores

pub returns-in-Err-store_pairs-clause-places : goal.returns-in-Err-store_pairs-clause-places
returns-in-Err-store_pairs-clause-places g c =
    let L : GuestLaws _ = record { seen = g.G.Guest.seen; moves = g.G.Guest.moves; stays = g.met.G.Guest.stays; goes_on = g.met.G.Guest.goes_on } in
    let a = c.args in
    let core = a.cx.now.core.now in
    let pair = c.pair_type-pair.result in
    let found = subst (λ (i : Instance). (shape_of i.types a.ty.now ≡ map_of (shape_of i.types pair.key) (shape_of i.types pair.value)) × IsPairType g.K.ComponentType.fits g.V.ComponentType.fits i pair) c.instance_type.ensures
    (c.pair_type-pair.ensures.shape, c.pair_type-pair.ensures.pair) in
    let W = PairMeans g.K.ComponentType.walks g.V.ComponentType.walks in
    let gives = pair_gives g.K.LowerShared.gives g.V.LowerShared.gives in
    let xs = a.map.now.entries in
    let s = pair_in (component_types core) pair in
    pairs_stopped L a.cx.now.options W gives g.K.ComponentType.fits g.V.ComponentType.fits core c.ask_items.new.cx.core.now a.ty.now pair xs
    c.len-length.result found.0 c.len-length.ensures.len c.store_pairs.new.cx.core.now c.in-Ok.pointer c.ask_items.new.cx.options
    c.in-Ok.ensures.same_options (c.in-Ok.ensures.asked s found.1.layout) c.in-Err-store_pairs.fault c.in-Err-store_pairs.ensures.stores
