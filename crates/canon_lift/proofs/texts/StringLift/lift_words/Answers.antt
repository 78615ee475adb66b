use Rattle.std.proofs.Common.{◌∙◌, ap, arith, length}
use Rattle.canon_context.specs.Core.{component_types}
use Rattle.canon_types.specs.Table.{shape_of}
use Rattle.canon_context.proofs.Told.{text_told}
use Rattle.canon_model.specs.Reach.{word}
use Rattle.canon_reading.specs.Reading.{setting_in}
use Rattle.canon_reading.specs.Spots.{flat_in}
use Rattle.canon_lift.proofs.Pairs.{text_lifts}
use Rattle.canon_lift_parts.proofs.WordRooms.{lift_text_words}
use Rattle.canon_lift.proofs.texts.StringLift.lift_words.Goals as goal

pub word_u32-requires : goal.word_u32-requires
word_u32-requires g c =
    let t = component_types c.args.cx.now.core.now in
    omega (arith, lift_text_words (shape_of t c.args._ty) c.args.at (length c.args.src.now) (ap (shape_of t) c.requires.fits) c.requires.words)

pub word_u32-requires-2 : goal.word_u32-requires-2
word_u32-requires-2 g c =
    let t = component_types c.args.cx.now.core.now in
    omega (arith, lift_text_words (shape_of t c.args._ty) c.args.at (length c.args.src.now) (ap (shape_of t) c.requires.fits) c.requires.words)

pub returns-clause-lifts : goal.returns-clause-lifts
returns-clause-lifts g c =
    let cx = c.args.cx.now in
    let core = cx.core.now in
    let w = setting_in core cx.options in
    text_lifts w (flat_in c.args.src.now c.args.at) (shape_of (component_types core) c.args._ty) c.from-pointer.result c.from-length.result (ap (shape_of (component_types core)) c.requires.fits)
    (c.from-pointer.ensures ∙ c.word_u32.ensures) (c.from-length.ensures ∙ c.word_u32-2.ensures)
    c.word_at.result cx.fuel core.ledger c.text_of.new.cx.core.now.ledger (ap (λ z. z.core.now.ledger) c.text_of.ensures.same) c.text_of.result c.text_of.new.cx.fuel
    (λ k x f. text_told c.word_at.result (word c.args.at) c.word_at.ensures w.encoding w.memory c.from-pointer.result c.from-length.result k x f) tt c.text_of.ensures.ok c.text_of.ensures.err
    c.text_of.ensures.unrefused c.text_of.ensures.falls
