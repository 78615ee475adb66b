use Rattle.canon_context.proofs.Moves.{GuestLaws}
use Rattle.canon_lower_parts.proofs.OptionSteps.{none_stores, some_room, some_stores}
use Rattle.canon_lower.proofs.compounds.OptionLower.linear_lower_to_memory.Goals as goal

pub linear_lower_to_memory-requires-clause-room : goal.linear_lower_to_memory-requires-clause-room
linear_lower_to_memory-requires-clause-room g c = some_room g.T.ComponentType.fits c.args.cx.now.core.now c.put_option-some.new.cx.core.now c.args.ty c.args.offset c.put_option-some.result.0 c.put_option-some.result.1 1 c.requires.room c.put_option-some.ensures.put

pub returns-in-None-clause-stores : goal.returns-in-None-clause-stores
returns-in-None-clause-stores g c =
    let L : GuestLaws _ = record { seen = g.G.Guest.seen; moves = g.G.Guest.moves; stays = g.met.G.Guest.stays; goes_on = g.met.G.Guest.goes_on } in
    let a = c.args in
    none_stores g.T.ComponentType.fits a.cx.now.core.now c.put_option.new.cx.core.now a.ty a.offset c.put_option.result.0 c.put_option.result.1 L a.cx.now.options g.T.ComponentType.walks g.T.Lower.gives a.self.now c.requires.room
    c.in-None.is c.put_option.ensures.put

pub returns-in-Some-clause-stores : goal.returns-in-Some-clause-stores
returns-in-Some-clause-stores g c =
    let L : GuestLaws _ = record { seen = g.G.Guest.seen; moves = g.G.Guest.moves; stays = g.met.G.Guest.stays; goes_on = g.met.G.Guest.goes_on } in
    let a = c.args in
    let p = c.put_option-some in
    some_stores g.T.ComponentType.fits a.cx.now.core.now p.new.cx.core.now a.ty a.offset p.result.0 p.result.1 L a.cx.now.options g.T.ComponentType.walks g.T.Lower.gives a.self.now c.requires.room
    _ c.linear_lower_to_memory.new.cx.core.now p.new.cx.options c.linear_lower_to_memory.result c.in-Some.is p.ensures.put p.ensures.same_options c.linear_lower_to_memory.ensures.stores
