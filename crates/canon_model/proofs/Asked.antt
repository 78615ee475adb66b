-- What a text of the host asks for, by whether it is too long.
use Rattle.std.proofs.Common.{List, [], ap, le-ltb, length, lt-ltb, nat_lt, ℕ, ◌<◌, ◌^◌, ◌∙◌, ◌∷◌, ◌≡◌, ◌≤◌}
use Rattle.std.specs.Str.{encode_utf8_all}
use Rattle.std.proofs.lemmas.Bool.{cond-false, cond-true}
use Rattle.canon_model.specs.Requests.{text_blocks, text_requests, unmade, within_limit}
use Rattle.canon_model.specs.Text.{Encoding, most_bytes}

pub short_text_asks : (enc : Encoding) (n : ℕ) (cs : List ℕ) → length (encode_utf8_all cs) ≡ n → most_bytes enc n cs < 2 ^ 31 → text_requests enc cs ≡ text_blocks enc n cs
short_text_asks enc n cs e l = ap (λ k. within_limit (most_bytes enc k cs) (text_blocks enc k cs)) e ∙ cond-true (nat_lt (most_bytes enc n cs) (2 ^ 31)) (text_blocks enc n cs) (unmade ∷ []) (lt-ltb _ _ l)

pub long_text_asks : (enc : Encoding) (n : ℕ) (cs : List ℕ) → length (encode_utf8_all cs) ≡ n → 2 ^ 31 ≤ most_bytes enc n cs → text_requests enc cs ≡ unmade ∷ []
long_text_asks enc n cs e l = ap (λ k. within_limit (most_bytes enc k cs) (text_blocks enc k cs)) e ∙ cond-false (nat_lt (most_bytes enc n cs) (2 ^ 31)) (text_blocks enc n cs) (unmade ∷ []) (le-ltb _ _ l)
