use Rattle.canon_context.proofs.Moves.{GuestLaws}
use Rattle.canon_example_record.proofs.Lowering.{note_stored, score_room, title_not_stored, title_room}
use Rattle.canon_example_record.proofs.note.NoteLower.linear_lower_to_memory.Goals as goal

pub linear_lower_to_memory-requires-clause-room : goal.linear_lower_to_memory-requires-clause-room
linear_lower_to_memory-requires-clause-room g c = title_room c.args.cx.now.core.now.component.types c.args._ty c.requires.fits c.args.offset _ c.requires.room

pub linear_lower_to_memory-requires-in-Ok-clause-room : goal.linear_lower_to_memory-requires-in-Ok-clause-room
linear_lower_to_memory-requires-in-Ok-clause-room g c =
    score_room c.args.cx.now.core.now.component.types c.args._ty c.requires.fits c.args.offset _ c.requires.room _ c.in-Ok.ensures.stores.attempt.lowering.goes.no_shorter

pub returns-in-Ok-clause-stores : goal.returns-in-Ok-clause-stores
returns-in-Ok-clause-stores g c =
    let L : GuestLaws _ = record { seen = g.G.Guest.seen; moves = g.G.Guest.moves; stays = g.met.G.Guest.stays; goes_on = g.met.G.Guest.goes_on } in
    let a = c.args in
    let one = c.linear_lower_to_memory in
    let two = c.linear_lower_to_memory-in-Ok in
    note_stored L a.cx.now.options a.cx.now.core.now a._ty c.requires.fits a.offset c.requires.room one.new.cx.core.now two.new.cx.core.now a.self.now two.result
    one.new.cx.options c.in-Ok.ensures.same_options c.in-Ok.ensures.stores two.ensures.stores

pub returns-in-Err-clause-stores : goal.returns-in-Err-clause-stores
returns-in-Err-clause-stores g c =
    let L : GuestLaws _ = record { seen = g.G.Guest.seen; moves = g.G.Guest.moves; stays = g.met.G.Guest.stays; goes_on = g.met.G.Guest.goes_on } in
    let a = c.args in
    title_not_stored L a.cx.now.options a.cx.now.core.now a._ty c.requires.fits a.offset c.requires.room c.linear_lower_to_memory.new.cx.core.now a.self.now c.in-Err.fault c.in-Err.ensures.stores
