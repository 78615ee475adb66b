use Rattle.canon_context.proofs.Moves.{GuestLaws}
use Rattle.canon_lower_parts.proofs.TupleSteps.{stored_none}
use Rattle.canon_lower.proofs.members.UnitLowerMembers.store_members.Goals as goal

pub returns-clause-stores : goal.returns-clause-stores
returns-clause-stores g c =
    let L : GuestLaws _ = record { seen = g.G.Guest.seen; moves = g.G.Guest.moves; stays = g.met.G.Guest.stays; goes_on = g.met.G.Guest.goes_on } in
    let a = c.args in
    stored_none L a.cx.now.options a.cx.now.core.now a._ty.now a._k a._end a._at c.memory-memory.ensures.small c.requires.fits
