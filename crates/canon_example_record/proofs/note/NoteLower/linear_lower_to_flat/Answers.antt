use Rattle.std.proofs.Common.{arith}
use Rattle.canon_context.proofs.Moves.{GuestLaws}
use Rattle.canon_example_record.proofs.Lowering.{note_lowered, score_words, title_not_lowered, title_words, words_of_note}
use Rattle.canon_example_record.proofs.note.NoteLower.linear_lower_to_flat.Goals as goal

pub lower_field-requires-clause-words : goal.lower_field-requires-clause-words
lower_field-requires-clause-words g c = title_words

pub lower_field-requires-clause-room : goal.lower_field-requires-clause-room
lower_field-requires-clause-room g c = omega (arith, c.requires.words, words_of_note c.args.cx.now.core.now.component.types c.args._ty c.requires.fits)

pub lower_field-requires-in-Ok-clause-words : goal.lower_field-requires-in-Ok-clause-words
lower_field-requires-in-Ok-clause-words g c = score_words

pub lower_field-requires-in-Ok-clause-room : goal.lower_field-requires-in-Ok-clause-room
lower_field-requires-in-Ok-clause-room g c = omega (arith, c.requires.words, words_of_note c.args.cx.now.core.now.component.types c.args._ty c.requires.fits, c.in-Ok.ensures.stays.same_length)

pub returns-in-Ok-clause-lowers : goal.returns-in-Ok-clause-lowers
returns-in-Ok-clause-lowers g c =
    let L : GuestLaws _ = record { seen = g.G.Guest.seen; moves = g.G.Guest.moves; stays = g.met.G.Guest.stays; goes_on = g.met.G.Guest.goes_on } in
    let a = c.args in
    let one = c.lower_field in
    let two = c.lower_field-in-Ok in
    note_lowered L a.cx.now.options a.cx.now.core.now a._ty c.requires.fits one.new.cx.core.now two.new.cx.core.now a.self.now one.new.dst two.new.dst two.result
    one.new.cx.options c.in-Ok.ensures.same_options two.ensures.stays c.in-Ok.ensures.lowers two.ensures.lowers

pub returns-in-Err-clause-lowers : goal.returns-in-Err-clause-lowers
returns-in-Err-clause-lowers g c =
    let L : GuestLaws _ = record { seen = g.G.Guest.seen; moves = g.G.Guest.moves; stays = g.met.G.Guest.stays; goes_on = g.met.G.Guest.goes_on } in
    let a = c.args in
    title_not_lowered L a.cx.now.options a.cx.now.core.now a._ty c.requires.fits c.lower_field.new.cx.core.now a.self.now c.lower_field.new.dst c.in-Err.fault c.in-Err.ensures.lowers
