-- Units that are no surrogates are their own characters.
use Rattle.std.proofs.Common.{List, [], ap, ap₂, arith, cond, eqb, eqb-true, false, flat_map, get_or, inl, inr, length, lt-ltb, ltb, ltb-false, map, nat_lt, refl, replicate, suc, sym, true, w16, zero, Bool, Fits, ℕ, ⊎_elim, ◌++◌, ◌+◌, ◌-◌, ◌%◌, ◌<◌, ◌^◌, ◌∙◌, ◌∷◌, ◌≡◌, ◌≤◌, ◌⊎◌}
use Rattle.std.proofs.lemmas.Bool.{and_from, cases_lt, cond-true}
use Rattle.std.proofs.lemmas.List.{get_or-append_right, get_or_append_left, length-map}
use Rattle.std.proofs.lemmas.Simd.{length-replicate, length-zip2, mask_l-mod}
use lib.Lanes.{Each1, mask_l, top, zip2}
use Rattle.std.specs.Char.Escape.{encode_utf16}
use Rattle.std.specs.Str.{all_scalars}
use Rattle.canon_model.specs.Text.{in_utf16}
use Rattle.canon_text.specs.Runs.{AllBelow, run}
use Rattle.canon_text.specs.Surrogates.{HasNoSurrogate}
use Rattle.canon_text.proofs.Ascii.{front-run}
use Rattle.canon_text.proofs.Copied.{run-append}
use Rattle.canon_text.proofs.Pairs.{scalar_high, scalar_low}
use Rattle.canon_text.proofs.Reading.{ReadTo}

abbrev pub above : ℕ → ℕ → ℕ
above a b = (a + (2 ^ 16 - b)) % 2 ^ 16

abbrev pub is_low : ℕ → ℕ → ℕ
is_low a b = cond (ltb a b) 65535 0

none_low : (xs : List ℕ) → Each1 (Fits w16) xs → mask_l (map (top 15) (zip2 is_low (zip2 above xs (replicate (length xs) 55296)) (replicate (length xs) 2048))) ≡ 0 → HasNoSurrogate xs
none_low [] h e k = inl (omega arith)
none_low (x ∷ xs) h e zero = go (ltb (above x 55296) 2048) refl (omega arith)
  where
    go : (t : Bool) → ltb (above x 55296) 2048 ≡ t → ◌≡◌ {A = ℕ} (cond (top 15 (cond t 65535 0)) 1 0) 0 → (x < 55296) ⊎ (57344 ≤ x)
    go true p q = absurd (omega arith)
    go false p q =
        let high : 2048 ≤ (x + (65536 - 55296)) % 65536 = ltb-false _ _ p in
        let small : x < 65536 = h.0.fits in
        ⊎_elim (λ l. inl l) (λ g. inr (omega arith)) (cases_lt x 55296)
none_low (x ∷ xs) h e (suc k) = none_low xs h.1 (omega arith) k

pub plain_by_mask : (n : ℕ) (xs : List ℕ) → n ≤ 64 → length xs ≡ n → Each1 (Fits w16) xs → eqb (mask_l (map (top 15) (zip2 is_low (zip2 above xs (replicate n 55296)) (replicate n 2048))) % 2 ^ 64) 0 ≡ true → HasNoSurrogate xs
plain_by_mask n xs few long h e =
    let ds = zip2 above xs (replicate n 55296) in
    let wide : length ds ≡ n = length-zip2 above xs (replicate n 55296) (long ∙ sym (length-replicate {A = ℕ} n 55296)) ∙ long in
    let small : mask_l (map (top 15) (zip2 is_low ds (replicate n 2048))) % 2 ^ 64 ≡ mask_l (map (top 15) (zip2 is_low ds (replicate n 2048))) =
    mask_l-mod _ 64 (omega (arith, length-map (zip2 is_low ds (replicate n 2048)) (top 15), length-zip2 is_low ds (replicate n 2048) (wide ∙ sym (length-replicate {A = ℕ} n 2048)))) in
    none_low xs h (ap (λ k. mask_l (map (top 15) (zip2 is_low (zip2 above xs (replicate k 55296)) (replicate k 2048)))) long ∙ sym small ∙ eqb-true _ _ e)

plain-append : (xs ys : List ℕ) → HasNoSurrogate xs → HasNoSurrogate ys → HasNoSurrogate (xs ++ ys)
plain-append xs ys h g k = ⊎_elim
    (λ lt. let e = get_or_append_left xs ys 0 k lt in ⊎_elim (λ l. inl (omega (arith, e, l))) (λ r. inr (omega (arith, e, r))) (h k))
    (λ le. let e = get_or-append_right xs ys (length xs) k 0 refl le in ⊎_elim (λ l. inl (omega (arith, e, l))) (λ r. inr (omega (arith, e, r))) (g (k - length xs)))
    (cases_lt k (length xs))

pub plain-more : (source : List ℕ) (from n k : ℕ) → HasNoSurrogate (run source from n) → HasNoSurrogate (run source (from + n) k) → HasNoSurrogate (run source from (n + k))
plain-more source from n k h g i =
    let e = ap (λ l. get_or l i 0) (run-append source from n k) in
    ⊎_elim (λ l. inl (omega (arith, e, l))) (λ r. inr (omega (arith, e, r))) (plain-append (run source from n) (run source (from + n) k) h g i)

plain_can : (xs : List ℕ) → HasNoSurrogate xs → AllBelow 65536 xs → all_scalars xs ≡ true
plain_can [] h small = refl
plain_can (x ∷ xs) h small =
    let lt : x < 65536 = small 0 in
    and_from _ _ (⊎_elim (λ l. scalar_low x l) (λ g. scalar_high x g (omega arith)) (h 0)) (plain_can xs (λ k. h (suc k)) (λ k. small (suc k)))

plain_units : (xs : List ℕ) → AllBelow 65536 xs → flat_map encode_utf16 xs ≡ xs
plain_units [] small = refl
plain_units (x ∷ xs) small =
    let one : encode_utf16 x ≡ x ∷ [] = cond-true (nat_lt x 0x1_0000) _ _ (lt-ltb x 0x1_0000 (small 0)) in
    ap₂ ◌++◌ one (plain_units xs (λ k. small (suc k)))

pub read-plain : (source : List ℕ) (at n : ℕ) → ReadTo in_utf16 source at → at + n ≤ length source → HasNoSurrogate (run source at n) → AllBelow 65536 (run source at n) → ReadTo in_utf16 source (at + n)
read-plain source at n h room plain small = record {
  scalars = h.scalars ++ run source at n;
  front = front-run in_utf16 source at n h.scalars h.front room (plain_can (run source at n) plain small) (plain_units (run source at n) small);
}
