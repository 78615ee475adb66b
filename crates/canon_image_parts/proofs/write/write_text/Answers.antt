use Rattle.std.proofs.Common.{List, ap, length, refl, rules, ℕ, ◌++◌, ◌<◌, ◌^◌, ◌∙◌, ◌≡◌}
use Rattle.canon_image_parts.proofs.Writing.{image_text_written}
use Rattle.canon_image_parts.specs.Written.{sink}
use Rattle.canon_image_parts.proofs.write.write_text.Goals as goal

pub returns-in-Ok-append : goal.returns-in-Ok-append
returns-in-Ok-append c =
    let a = c.args in
    let few : length c.as_bytes-spelled.result.now < 2 ^ 64 = search rules in
    let added : c.append.new.bytes.items ≡ c.put_number.new.bytes.items ++ c.as_bytes-spelled.result.now = c.in-Ok-append.ensures.ok in
    record {
      writes = λ xs. image_text_written (sink a.bytes.now.items xs) (sink c.put_number.new.bytes.items xs) (sink c.append.new.bytes.items xs) a.text.now a.place
          (length c.as_bytes-spelled.result.now) c.saturating_add.result (ap length c.as_bytes-spelled.ensures.value) few (c.in-Ok.ensures.ok, refl)
          (added ∙ ap (λ (l : List ℕ). c.put_number.new.bytes.items ++ l) c.as_bytes-spelled.ensures.value, refl) c.saturating_add.ensures;
    }
