use Rattle.std.proofs.Common.{arith, length, subst₂, sym, List, ℕ, ap}
use Rattle.std.proofs.lemmas.List.{length-append}
use Rattle.std.proofs.lemmas.Str.{length-le-encodes}
use Rattle.canon_model.specs.Text.{in_utf8, units}
use Rattle.canon_text.specs.Answers.{Narrows}
use Rattle.canon_string.proofs.TextForms.{block_new, block_old}
use Rattle.canon_string.proofs.store.write_latin1.Goals as goal

pub returns-clause-narrows : goal.returns-clause-narrows
returns-clause-narrows c =
    let a = c.args in
    let n = length a.text.now in
    let put = c.utf8_to_latin1.new.dst in
    subst₂ (λ (old new : List ℕ). Narrows in_utf8 a.text.now old new c.utf8_to_latin1.result.src_read c.utf8_to_latin1.result.dst_written)
    (block_old a.memory.now a.at n) (sym (block_new a.memory.now put a.at n c.requires.room c.utf8_to_latin1.auto.dst))
    c.utf8_to_latin1.ensures

pub returns-clause-few : goal.returns-clause-few
returns-clause-few c =
    let h = c.utf8_to_latin1.ensures in
    (omega (arith, h.count, h.reads, length-le-encodes h.scalars), omega (arith, h.reads, ap length h.is, length-append (units in_utf8 h.scalars) h.rest))
