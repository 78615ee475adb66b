use Rattle.std.proofs.Common.{[]}
use Rattle.canon_context.proofs.Moves.{GuestLaws}
use Rattle.canon_typed.specs.Meaning.{TextMeans}
use Rattle.canon_lower_parts.proofs.TextSteps.{text_done, lower_text_room}
use Rattle.canon_lower_parts.proofs.texts.store_text.Goals as goal

pub put_placed-requires-clause-narrow : goal.put_placed-requires-clause-narrow
put_placed-requires-clause-narrow g c = c.place_text-placed.ensures.places.narrow

pub put_placed-requires-clause-room : goal.put_placed-requires-clause-room
put_placed-requires-clause-room g c =
    let L : GuestLaws _ = record { seen = g.G.Guest.seen; moves = g.G.Guest.moves; stays = g.met.G.Guest.stays; goes_on = g.met.G.Guest.goes_on } in
    let a = c.args in
    let p = c.place_text-placed in
    lower_text_room L a.cx.now.options a.cx.now.core.now p.new.cx.core.now a.ty c.requires.fits a.offset c.requires.room (TextMeans a.text.now) [] p.result p.ensures.places

pub returns-clause-stores : goal.returns-clause-stores
returns-clause-stores g c =
    let L : GuestLaws _ = record { seen = g.G.Guest.seen; moves = g.G.Guest.moves; stays = g.met.G.Guest.stays; goes_on = g.met.G.Guest.goes_on } in
    let a = c.args in
    let p = c.place_text-placed in
    text_done L a.cx.now.options a.cx.now.core.now p.new.cx.core.now a.ty c.requires.fits a.offset c.requires.room
    (TextMeans a.text.now) [] c.put_placed.new.cx.core.now p.result c.put_placed.result c.put_placed.ensures.done c.put_placed.ensures.put
    p.ensures.places
