use Rattle.std.proofs.Common.{refl, string_bytes, ◌*◌, ◌≡◌}
use Rattle.canon_lowering.specs.Storing.{narrow}
use Rattle.canon_model.specs.Text.{utf16, in_utf16}
use Rattle.canon_text.specs.Decoding.{cow_text}
use Rattle.canon_context.proofs.Told.{core_on_ok}
use Rattle.canon_string.specs.Loading.{IsTextLoaded}
use Rattle.canon_string.proofs.TextLoading.{even_bytes, text_loaded}
use Rattle.canon_string.proofs.load.load_utf16.Goals as goal

pub returns-in-Ok-decode_utf16-clause-ok : goal.returns-in-Ok-decode_utf16-clause-ok
returns-in-Ok-decode_utf16-clause-ok c =
    let a = c.args in
    let text = c.in-Ok-decode_utf16.text in
    core_on_ok c.owned.result (λ s. string_bytes s ≡ cow_text text) (IsTextLoaded utf16 (narrow a.memory.now) a.pointer a.units a.fuel.now c.charged_bytes.new.fuel)
    (λ s same. text_loaded utf16 a.memory.now a.pointer a.units in_utf16 (2 * a.units) refl refl c.in-Ok.bytes.now c.in-Ok.ensures.bytes c.in-Ok.ensures.good a.fuel.now c.charged_bytes.new.fuel
    s (cow_text text) c.in-Ok.ensures.charged c.in-Ok-decode_utf16.ensures.answer.0 same) c.owned.ensures.same

pub decode_utf16-requires : goal.decode_utf16-requires
decode_utf16-requires c = even_bytes c.args.memory.now c.in-Ok.bytes.now c.args.pointer c.args.units c.in-Ok.ensures.bytes c.in-Ok.ensures.good.1
