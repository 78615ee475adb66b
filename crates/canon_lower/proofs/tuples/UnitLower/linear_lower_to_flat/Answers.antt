use Rattle.canon_context.proofs.Moves.{GuestLaws}
use Rattle.canon_lower_parts.proofs.WordTuples.{unit_lowers}
use Rattle.canon_lower.proofs.tuples.UnitLower.linear_lower_to_flat.Goals as goal

pub returns-clause-lowers : goal.returns-clause-lowers
returns-clause-lowers g c =
    let L : GuestLaws _ = record { seen = g.G.Guest.seen; moves = g.G.Guest.moves; stays = g.met.G.Guest.stays; goes_on = g.met.G.Guest.goes_on } in
    unit_lowers L c.args.cx.now.options c.args.cx.now.core.now c.args._ty c.args._dst.now c.memory-memory.ensures.small c.requires.fits
