use Rattle.std.proofs.Common.{refl}
use Rattle.canon_text.proofs.Decoded.{decodes8, text_on_err, spells_nothing8}
use Rattle.canon_model.specs.Text.{in_utf8}
use Rattle.canon_text.specs.Decoding.{SpellsNothing}
use Rattle.canon_text.proofs.decode.decode_utf8.Goals as goal

pub returns-clause-answer : goal.returns-clause-answer
returns-clause-answer c = (decodes8 c.args.src.now c.in_ok-text.text.now c.in_ok-text.ensures.0 c.in_ok-text.ensures.1, refl)

pub returns-in_err-text-clause-no_text : goal.returns-in_err-text-clause-no_text
returns-in_err-text-clause-no_text c =
    text_on_err c.from_residual.result (SpellsNothing in_utf8 c.args.src.now) (spells_nothing8 c.args.src.now c.in_err-text.field-0.0 c.in_err-text.ensures)
