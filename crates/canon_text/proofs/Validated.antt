-- std's judgement on UTF-8, in the terms of forms.
use Rattle.std.proofs.Common.{IsUtf8, List, ap, arith, drop, length, subst, sym, take, ℕ, ◌++◌, ◌+◌, ◌∙◌, ◌≡◌, ◌≤◌}
use Rattle.std.proofs.lemmas.Bool.{and_parts}
use Rattle.std.proofs.lemmas.List.{append-nil, append_assoc, length-append, length-drop, length-take-le, take-append-drop, take_at}
use Rattle.std.proofs.lemmas.Str.{IsUtf8-append, IsUtf8-encode, len_utf8_bounds, length-encode}
use Rattle.std.specs.Char.{encode_utf8}
use Rattle.std.specs.Str.{IsValidUpTo}
use Rattle.canon_model.specs.Text.{in_utf8}
use Rattle.canon_text.specs.Faults.{Begins, IllFormedAt}

take_over : (n : ℕ) (bs xs more : List ℕ) → n ≤ length bs → drop n bs ≡ xs ++ more → take (n + length xs) bs ≡ take n bs ++ xs
take_over n bs xs more h e =
    let whole : bs ≡ (take n bs ++ xs) ++ more = sym (take-append-drop n bs) ∙ ap (λ l. take n bs ++ l) e ∙ sym (append_assoc (take n bs) xs more) in
    let long : length (take n bs ++ xs) ≡ n + length xs = omega (arith, length-append (take n bs) xs, length-take-le n bs h) in
    ap (λ l. take (n + length xs) l) whole ∙ take_at (take n bs ++ xs) more (n + length xs) long

no_char : (bs : List ℕ) (n c : ℕ) → IsValidUpTo bs n → Begins in_utf8 c (drop n bs) → ⊥
no_char bs n c v b =
    let one : drop n bs ≡ encode_utf8 c ++ b.more = b.is ∙ ap (λ l. l ++ b.more) (append-nil (encode_utf8 c)) in
    let longer : IsUtf8 (take n bs ++ encode_utf8 c) = IsUtf8-append (take n bs) (encode_utf8 c) v.front (IsUtf8-encode c (and_parts _ _ b.can).0) in
    let few = len_utf8_bounds c in
    v.longest (n + length (encode_utf8 c)) (omega (arith, few.0, length-encode c)) (subst IsUtf8 (sym (take_over n bs (encode_utf8 c) b.more (omega (arith, v.short)) one)) longer)

-- where the longest front ends, the first fault stands
pub valid_up_to-fault : (bs : List ℕ) (n : ℕ) → IsValidUpTo bs n → IllFormedAt in_utf8 bs n
valid_up_to-fault bs n v = record {
  scalars = v.front.0;
  rest = drop n bs;
  can = v.front.1.0;
  is = sym (take-append-drop n bs) ∙ ap (λ l. l ++ drop n bs) (sym v.front.1.1);
  place = sym (length-take-le n bs (omega (arith, v.short))) ∙ ap length (sym v.front.1.1);
  fault = record { some = omega (arith, v.short, length-drop n bs); none = λ c b. no_char bs n c v b };
}
