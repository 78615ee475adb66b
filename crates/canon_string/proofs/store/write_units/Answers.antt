use Rattle.std.proofs.Common.{arith, ap, length, subst₂, sym, List, ℕ}
use Rattle.canon_model.specs.Text.{in_utf8}
use Rattle.canon_text.proofs.Widths.{widths_le}
use Rattle.canon_text.specs.Answers.{Widens}
use Rattle.canon_string.proofs.TextForms.{block_new, block_old, no_fault}
use Rattle.canon_string.proofs.store.write_units.Goals as goal

pub returns-in-Ok-clause-widens : goal.returns-in-Ok-clause-widens
returns-in-Ok-clause-widens c =
    let a = c.args in
    subst₂ (λ (old new : List ℕ). Widens in_utf8 a.text.now old new a.latin1_bytes_so_far c.in-Ok.units) (block_old a.memory.now a.at a.size)
    (sym (block_new a.memory.now c.utf8_to_compact_utf16.new.dst a.at a.size c.requires.inside c.utf8_to_compact_utf16.auto.dst)) c.in-Ok.ensures

pub returns-in-Err-clause-writes : goal.returns-in-Err-clause-writes
returns-in-Err-clause-writes c = absurd (no_fault c.args.text.now c.in-Err.field-0 c.requires.text c.in-Err.ensures.0)

pub returns-in-Err-clause-widens : goal.returns-in-Err-clause-widens
returns-in-Err-clause-widens c = absurd (no_fault c.args.text.now c.in-Err.field-0 c.requires.text c.in-Err.ensures.0)

pub returns-in-Ok-clause-few : goal.returns-in-Ok-clause-few
returns-in-Ok-clause-few c = omega (arith, c.in-Ok.ensures.count, widths_le c.in-Ok.ensures.scalars, ap length c.in-Ok.ensures.reads)
