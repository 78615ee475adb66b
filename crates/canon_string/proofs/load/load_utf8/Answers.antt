use Rattle.std.proofs.Common.{refl, string_bytes, ◌≡◌}
use Rattle.canon_lowering.specs.Storing.{narrow}
use Rattle.canon_model.specs.Text.{utf8, in_utf8}
use Rattle.canon_text.specs.Decoding.{cow_text}
use Rattle.canon_context.proofs.Told.{core_on_ok}
use Rattle.canon_string.specs.Loading.{IsTextLoaded}
use Rattle.canon_string.proofs.TextLoading.{text_loaded}
use Rattle.canon_string.proofs.load.load_utf8.Goals as goal

pub returns-in-Ok-decode_utf8-clause-ok : goal.returns-in-Ok-decode_utf8-clause-ok
returns-in-Ok-decode_utf8-clause-ok c =
    let a = c.args in
    let text = c.in-Ok-decode_utf8.text in
    core_on_ok c.owned.result (λ s. string_bytes s ≡ cow_text text) (IsTextLoaded utf8 (narrow a.memory.now) a.pointer a.length a.fuel.now c.charged_bytes.new.fuel)
    (λ s same. text_loaded utf8 a.memory.now a.pointer a.length in_utf8 (a.length) refl refl c.in-Ok.bytes.now c.in-Ok.ensures.bytes c.in-Ok.ensures.good a.fuel.now c.charged_bytes.new.fuel s
    (cow_text text) c.in-Ok.ensures.charged c.in-Ok-decode_utf8.ensures.answer.0 same) c.owned.ensures.same
