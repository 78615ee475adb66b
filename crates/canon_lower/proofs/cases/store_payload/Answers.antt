use Rattle.canon_context.proofs.Moves.{GuestLaws}
use Rattle.canon_lower_parts.proofs.ResultSteps.{no_payload, payload_fits, some_payload}
use Rattle.canon_lower.proofs.cases.store_payload.Goals as goal

pub returns-in-None-clause-stores : goal.returns-in-None-clause-stores
returns-in-None-clause-stores g c =
    let L : GuestLaws _ = record { seen = g.G.Guest.seen; moves = g.G.Guest.moves; stays = g.met.G.Guest.stays; goes_on = g.met.G.Guest.goes_on } in
    let a = c.args in
    no_payload L a.cx.now.options g.T.ComponentType.walks g.T.Lower.gives g.T.ComponentType.fits a.value.now g.U.ComponentType.is_unit a.cx.now.core.now a.ty a.at c.requires.fits c.in-None.is c.memory-memory.ensures.small

pub linear_lower_to_memory-requires-clause-fits : goal.linear_lower_to_memory-requires-clause-fits
linear_lower_to_memory-requires-clause-fits g c = payload_fits g.U.ComponentType.is_unit g.T.ComponentType.fits c.args.cx.now.core.now.component.types c.args.ty _ c.in-Some.is c.requires.fits

pub returns-in-Some-clause-stores : goal.returns-in-Some-clause-stores
returns-in-Some-clause-stores g c =
    let L : GuestLaws _ = record { seen = g.G.Guest.seen; moves = g.G.Guest.moves; stays = g.met.G.Guest.stays; goes_on = g.met.G.Guest.goes_on } in
    let a = c.args in
    some_payload L a.cx.now.options g.T.ComponentType.walks g.T.Lower.gives g.T.ComponentType.fits a.value.now g.U.ComponentType.is_unit a.cx.now.core.now a.ty a.at c.requires.fits c.linear_lower_to_memory.new.cx.core.now _ c.linear_lower_to_memory.result c.in-Some.is
    c.linear_lower_to_memory.ensures.stores
