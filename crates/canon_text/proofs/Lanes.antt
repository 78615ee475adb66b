-- Blocks of lanes that are tested against a limit.
use Rattle.std.proofs.Common.{Bool, List, [], ap, arith, cond, eqb, eqb-true, false, get_or, leb, leb-false, length, map, refl, replicate, suc, sym, true, zero, ℕ, ◌%◌, ◌<◌, ◌^◌, ◌∙◌, ◌∷◌, ◌≡◌, ◌≤◌}
use Rattle.std.proofs.lemmas.List.{length-map}
use Rattle.std.proofs.lemmas.Simd.{length-zip2, mask_l-mod, length-replicate}
use lib.Lanes.{mask_l, top, zip2}

-- what a comparison of a limit with a lane gives
abbrev pub from_limit : ℕ → ℕ → ℕ → ℕ
from_limit ones a b = cond (leb a b) ones 0

-- no bit of the mask is set
none_set : (h ones limit : ℕ) → top h ones ≡ true → 0 < limit → (xs : List ℕ) → mask_l (map (top h) (zip2 (from_limit ones) (replicate (length xs) limit) xs)) ≡ 0 → (i : ℕ) → get_or xs i 0 < limit
none_set h ones limit high some [] e i = omega arith
none_set h ones limit high some (x ∷ xs) e zero = go (leb limit x) refl (omega arith)
  where
    go : (t : Bool) → leb limit x ≡ t → ◌≡◌ {A = ℕ} (cond (top h (cond t ones 0)) 1 0) 0 → x < limit
    go true p q = absurd (omega (arith, q, ap (λ b. cond {A = ℕ} b 1 0) high))
    go false p q = leb-false _ _ p
none_set h ones limit high some (x ∷ xs) e (suc i) = none_set h ones limit high some xs (omega arith) i

pub below_by_mask : (h ones limit n : ℕ) (xs : List ℕ) → top h ones ≡ true → 0 < limit → n ≤ 64 → length xs ≡ n → eqb (mask_l (map (top h) (zip2 (from_limit ones) (replicate n limit) xs)) % 2 ^ 64) 0 ≡ true → (i : ℕ) → get_or xs i 0 < limit
below_by_mask h ones limit n xs high some few long e =
    let small : mask_l (map (top h) (zip2 (from_limit ones) (replicate n limit) xs)) % 2 ^ 64 ≡ mask_l (map (top h) (zip2 (from_limit ones) (replicate n limit) xs)) =
    mask_l-mod _ 64 (omega (arith, length-map (zip2 (from_limit ones) (replicate n limit) xs) (top h), length-zip2 (from_limit ones) (replicate n limit) xs (length-replicate n limit ∙ sym long), length-replicate n limit)) in
    none_set h ones limit high some xs (ap (λ k. mask_l (map (top h) (zip2 (from_limit ones) (replicate k limit) xs))) long ∙ sym small ∙ eqb-true _ _ e)

pub map-same : (f : ℕ → ℕ) → ((x : ℕ) → f x ≡ x) → (xs : List ℕ) → map f xs ≡ xs
map-same f same [] = refl
map-same f same (x ∷ xs) = ap (λ l. f x ∷ l) (map-same f same xs) ∙ ap (λ y. y ∷ xs) (same x)
