use Rattle.canon_context.proofs.Moves.{GuestLaws}
use Rattle.canon_lower_parts.proofs.TupleSteps.{unit_stores}
use Rattle.canon_lower.proofs.tuples.UnitLowerShared.linear_lower_to_memory.Goals as goal

pub returns-clause-stores : goal.returns-clause-stores
returns-clause-stores g c =
    let L : GuestLaws _ = record { seen = g.G.Guest.seen; moves = g.G.Guest.moves; stays = g.met.G.Guest.stays; goes_on = g.met.G.Guest.goes_on } in
    let a = c.args in
    unit_stores L a.cx.now.options a.cx.now.core.now a._ty a._offset c.memory-memory.ensures.small c.requires.room c.requires.fits
