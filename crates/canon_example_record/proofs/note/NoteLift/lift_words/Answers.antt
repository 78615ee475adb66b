use Rattle.std.proofs.Common.{◌+◌, Ok, arith, refl}
use Rattle.canon_reading.specs.Spots.{flat_in}
use Rattle.canon_example_record.proofs.Lifting.{note_lifted, score_in_words}
use Rattle.canon_example_record.proofs.Lowering.{score_words, title_words, words_of_note}
use Rattle.canon_example_record.proofs.note.NoteLift.lift_words.Goals as goal

pub lift_words-requires-clause-words : goal.lift_words-requires-clause-words
lift_words-requires-clause-words g c = omega (arith, c.requires.words, words_of_note c.args.cx.now.core.now.component.types c.args._ty c.requires.fits, title_words)

pub lift_words-requires-in-Ok-clause-words : goal.lift_words-requires-in-Ok-clause-words
lift_words-requires-in-Ok-clause-words g c = omega (arith, c.requires.words, words_of_note c.args.cx.now.core.now.component.types c.args._ty c.requires.fits, score_words)

pub returns-in-Ok-lift_words-clause-lifts : goal.returns-in-Ok-lift_words-clause-lifts
returns-in-Ok-lift_words-clause-lifts g c =
    let cx = c.args.cx.now in
    let mid = c.lift_words.new.cx in
    let after = c.lift_words-in-Ok.new._cx in
    note_lifted cx.core.now cx.options c.args._ty c.requires.fits cx.fuel (flat_in c.args.src.now c.args.at) (flat_in c.args.src.now (c.args.at + 2)) tt
    refl (score_in_words cx.core.now cx.options cx.fuel c.args.src.now c.args.at)
    c.in-Ok.title mid.core.now mid.fuel c.in-Ok.ensures.same_core mid.options c.in-Ok.ensures.same_options c.in-Ok.ensures.lifts
    (Ok c.in-Ok-lift_words.score) after.core.now.ledger after.fuel c.in-Ok-lift_words.ensures.lifts
