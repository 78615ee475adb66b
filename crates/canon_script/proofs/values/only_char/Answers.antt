use Rattle.std.proofs.Common.{◌≡◌, ◌++◌, ◌∷◌, [], sym, ap, ◌∙◌}
use Rattle.std.proofs.lemmas.Str.{chars_past_char, chars-nil}
use Rattle.std.proofs.lemmas.List.{nil_from_length}
use Rattle.std.specs.Str.{chars}
use Rattle.std.specs.Str.Iter.{chars_rest}
use Rattle.std.specs.Prelude.{encode_utf8}
use Rattle.canon_script.specs.Values.{only_char}
use Rattle.canon_script.proofs.Members.{more_chars}
use Rattle.canon_script.proofs.values.only_char.Goals as goal

pub returns-in-Some : goal.returns-in-Some
returns-in-Some c =
    let first = c.in_ok-first.first in
    let rest = chars_rest c.next.new.self in
    let e : c.args.text.now ≡ encode_utf8 first ++ rest = sym c.chars-chars.ensures.rest ∙ c.in_ok-first.ensures.steps.0 in
    more_chars (chars rest) first c.in-Some.field-0 c.in-Some.ensures.steps.2 ∙ ap only_char (sym (chars_past_char _ rest first c.utf8.text e))

pub returns-in-None : goal.returns-in-None
returns-in-None c =
    let first = c.in_ok-first.first in
    let rest = chars_rest c.next.new.self in
    let e : c.args.text.now ≡ encode_utf8 first ++ rest = sym c.chars-chars.ensures.rest ∙ c.in_ok-first.ensures.steps.0 in
    let none : chars rest ≡ [] = ap chars (nil_from_length rest c.in-None.ensures.steps.0.0) ∙ chars-nil in
    ap (λ cs. only_char (first ∷ cs)) (sym none) ∙ ap only_char (sym (chars_past_char _ rest first c.utf8.text e))
