use Rattle.std.proofs.Common.{[], ◌∷◌}
use Rattle.canon_context.proofs.Moves.{GuestLaws}
use Rattle.canon_lower_parts.proofs.WordTuples.{tuple_lowered, tuple_room}
use Rattle.canon_lower.proofs.tuples.Tuple2Lower.linear_lower_to_flat.Goals as goal

pub lower_members-requires-clause-room : goal.lower_members-requires-clause-room
lower_members-requires-clause-room g c =
    let L : GuestLaws _ = record { seen = g.G.Guest.seen; moves = g.G.Guest.moves; stays = g.met.G.Guest.stays; goes_on = g.met.G.Guest.goes_on } in
    let a = c.args in
    tuple_room L a.cx.now.options a.cx.now.core.now a.ty
    (g.A.ComponentType.fits ∷ g.B.ComponentType.fits ∷ []) c.requires.fits a.dst.now c.requires.words

pub returns-clause-lowers : goal.returns-clause-lowers
returns-clause-lowers g c =
    let L : GuestLaws _ = record { seen = g.G.Guest.seen; moves = g.G.Guest.moves; stays = g.met.G.Guest.stays; goes_on = g.met.G.Guest.goes_on } in
    let a = c.args in
    let low = c.lower_members in
    tuple_lowered L a.cx.now.options a.cx.now.core.now a.ty
    (g.A.ComponentType.fits ∷ g.B.ComponentType.fits ∷ []) c.requires.fits low.new.cx.core.now low.new.dst _ _ low.result low.ensures.lowers
