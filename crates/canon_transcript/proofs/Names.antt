-- A name, character by character.
use Rattle.std.proofs.Common.{◌≡◌, ℕ, List, [], ◌++◌, flat_map, ap, sym, ◌∙◌, append-nil, append_assoc}
use Rattle.std.proofs.lemmas.Str.{chars-nil, chars_past_char}
use Rattle.std.specs.Char.{encode_utf8}
use Rattle.std.specs.Str.{IsUtf8, chars}
use Rattle.canon_transcript.specs.Text.{escaped, name_text}

pub name_more : (rest rest2 text text2 whole : List ℕ) (c : ℕ) → IsUtf8 rest → rest ≡ encode_utf8 c ++ rest2 → text2 ≡ text ++ escaped c
    → text ++ name_text rest ≡ whole → text2 ++ name_text rest2 ≡ whole
name_more rest rest2 text text2 whole c u e printed h =
    ap (λ s. s ++ name_text rest2) printed ∙ (append_assoc text (escaped c) (name_text rest2)
    ∙ (ap (λ cs. text ++ flat_map escaped cs) (sym (chars_past_char rest rest2 c u e)) ∙ h))

pub name_ends : (rest text whole : List ℕ) → rest ≡ [] → text ++ name_text rest ≡ whole → text ≡ whole
name_ends rest text whole e h = sym (append-nil text) ∙ (ap (λ cs. text ++ flat_map escaped cs) (sym (ap chars e ∙ chars-nil)) ∙ h)
