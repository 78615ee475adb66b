use Rattle.std.proofs.Common.{[], ◌∷◌}
use Rattle.canon_context.proofs.Moves.{GuestLaws}
use Rattle.canon_lower_parts.proofs.TupleSteps.{tuple_room, tuple_stored}
use Rattle.canon_lower.proofs.tuples.Tuple2Lower.linear_lower_to_memory.Goals as goal

pub store_members-requires-clause-room : goal.store_members-requires-clause-room
store_members-requires-clause-room g c =
    let L : GuestLaws _ = record { seen = g.G.Guest.seen; moves = g.G.Guest.moves; stays = g.met.G.Guest.stays; goes_on = g.met.G.Guest.goes_on } in
    let a = c.args in
    tuple_room L a.cx.now.options a.cx.now.core.now a.ty
    (g.A.ComponentType.fits ∷ g.B.ComponentType.fits ∷ []) c.requires.fits a.offset c.requires.room

pub returns-clause-stores : goal.returns-clause-stores
returns-clause-stores g c =
    let L : GuestLaws _ = record { seen = g.G.Guest.seen; moves = g.G.Guest.moves; stays = g.met.G.Guest.stays; goes_on = g.met.G.Guest.goes_on } in
    let a = c.args in
    let low = c.store_members in
    tuple_stored L a.cx.now.options a.cx.now.core.now a.ty
    (g.A.ComponentType.fits ∷ g.B.ComponentType.fits ∷ []) c.requires.fits a.offset c.requires.room low.new.cx.core.now _ _ low.result low.ensures.stores
