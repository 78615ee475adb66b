use Rattle.std.proofs.Common.{string_bytes, ◌≡◌}
use Rattle.canon_lowering.specs.Storing.{narrow}
use Rattle.canon_model.specs.Text.{compact, in_latin1}
use Rattle.canon_text.specs.Decoding.{cow_text}
use Rattle.canon_context.proofs.Told.{core_on_ok}
use Rattle.canon_string.specs.Loading.{IsTextLoaded}
use Rattle.canon_string.proofs.TextLoading.{latin1_bytes, latin1_form, text_loaded}
use Rattle.canon_string.proofs.load.load_latin1.Goals as goal

pub returns-in-Ok-decode_latin1-clause-ok : goal.returns-in-Ok-decode_latin1-clause-ok
returns-in-Ok-decode_latin1-clause-ok c =
    let a = c.args in
    let text = c.in-Ok-decode_latin1.text in
    core_on_ok c.owned.result (λ s. string_bytes s ≡ cow_text text) (IsTextLoaded compact (narrow a.memory.now) a.pointer a.length a.fuel.now c.charged_bytes.new.fuel)
    (λ s same. text_loaded compact a.memory.now a.pointer a.length in_latin1 (a.length) (latin1_form a.length c.requires.untagged) (latin1_bytes a.length c.requires.untagged)
    c.in-Ok.bytes.now c.in-Ok.ensures.bytes c.in-Ok.ensures.good a.fuel.now c.charged_bytes.new.fuel s (cow_text text) c.in-Ok.ensures.charged c.in-Ok-decode_latin1.ensures.0 same) c.owned.ensures.same
