-- How many units a text has in one form and in another.
use Rattle.std.proofs.Common.{List, [], ap, arith, flat_map, length, refl, sym, ℕ, ◌*◌, ◌++◌, ◌∙◌, ◌∷◌, ◌≡◌, ◌≤◌}
use Rattle.std.proofs.lemmas.List.{append-nil, length-append}
use Rattle.std.specs.Char.{encode_utf8}
use Rattle.std.specs.Char.Escape.{encode_utf16}
use Rattle.std.specs.Str.{encode_utf8_all}
use Rattle.canon_model.proofs.Passes.{encode_utf8_all-append}
use Rattle.canon_model.specs.Text.{unit_bytes}

-- a character has no more units than bytes
pub width_le : (c : ℕ) → length (encode_utf16 c) ≤ length (encode_utf8 c)
unfolding encode_utf8
width_le c = grind arith

pub widths_le : (cs : List ℕ) → length (flat_map encode_utf16 cs) ≤ length (encode_utf8_all cs)
widths_le [] = omega arith
widths_le (c ∷ cs) = let more = widths_le cs in let one = width_le c in omega (arith, length-append (encode_utf16 c) (flat_map encode_utf16 cs), length-append (encode_utf8 c) (encode_utf8_all cs))

-- bytes of units
pub length-unit_bytes : (us : List ℕ) → length (flat_map unit_bytes us) ≡ 2 * length us
length-unit_bytes [] = refl
length-unit_bytes (u ∷ us) = let more = length-unit_bytes us in omega arith

-- one character more, in UTF-8
pub encode-push : (cs : List ℕ) (c : ℕ) → encode_utf8_all cs ++ encode_utf8 c ≡ encode_utf8_all (cs ++ c ∷ [])
encode-push cs c = ap (λ l. encode_utf8_all cs ++ l) (sym (append-nil (encode_utf8 c))) ∙ sym (encode_utf8_all-append cs (c ∷ []))
