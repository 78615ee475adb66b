-- An abi tells words up to 16 only. What is made of words as they are told is the same as what is made of the words.
use Rattle.std.proofs.Common.{◌≡◌, ℕ, zero, suc, ⊎_elim, ◌+◌, ◌*◌, min, Option, List, [], ◌∷◌, map, unwrap_or, refl, ap, ◌∙◌, arith}
use Rattle.std.proofs.Math.Nat.{suc-mul}
use Rattle.std.proofs.lemmas.Bool.{cases_lt}
use Rattle.std.proofs.lemmas.Bool.Decides.{nat_tests}
use Rattle.canon_abi.specs.Numbers.{flat_within, largest_of, sum_of_numbers}

-- words as they are told
abbrev pub capped : ℕ → ℕ
capped n = min n 17

words_capped : (n : ℕ) → unwrap_or (flat_within n) 17 ≡ capped n
words_capped n = grind (arith, nat_tests)

pub words_told : (flat : Option ℕ) (n : ℕ) → flat ≡ flat_within n → unwrap_or flat 17 ≡ capped n
words_told flat n h = ap (λ (o : Option ℕ). unwrap_or o 17) h ∙ words_capped n

more_capped : (a b w : ℕ) → flat_within a ≡ flat_within b → flat_within (a + capped w) ≡ flat_within (b + w)
more_capped a b w h = grind (arith, nat_tests)

sum_capped : (a b : ℕ) (ns : List ℕ) → flat_within a ≡ flat_within b → flat_within (a + sum_of_numbers (map capped ns)) ≡ flat_within (b + sum_of_numbers ns)
sum_capped a b [] h = ap flat_within (omega arith) ∙ h ∙ ap flat_within (omega arith)
sum_capped a b (n ∷ ns) h =
    let left : a + (capped n + sum_of_numbers (map capped ns)) ≡ (a + capped n) + sum_of_numbers (map capped ns) = omega arith in
    let right : (b + n) + sum_of_numbers ns ≡ b + (n + sum_of_numbers ns) = omega arith in
    ap flat_within left ∙ sum_capped (a + capped n) (b + n) ns (more_capped a b n h) ∙ ap flat_within right

pub sum_told : (ns ks : List ℕ) → ns ≡ map capped ks → flat_within (sum_of_numbers ns) ≡ flat_within (sum_of_numbers ks)
sum_told ns ks e = ap (λ (l : List ℕ). flat_within (sum_of_numbers l)) e ∙ ap flat_within (omega arith) ∙ sum_capped 0 0 ks refl ∙ ap flat_within (omega arith)

largest_capped : (ns : List ℕ) → largest_of (map capped ns) ≡ capped (largest_of ns)
largest_capped [] = omega arith
largest_capped (n ∷ ns) = omega (arith, largest_capped ns)

pub largest_told : (ns ks : List ℕ) → ns ≡ map capped ks → flat_within (1 + largest_of ns) ≡ flat_within (1 + largest_of ks)
largest_told ns ks e = ap (λ (l : List ℕ). flat_within (1 + largest_of l)) e ∙ ap (λ (x : ℕ). flat_within (1 + x)) (largest_capped ks) ∙ more_capped 1 1 (largest_of ks) refl

pub one_more_told : (n : ℕ) → flat_within (1 + unwrap_or (flat_within n) 17) ≡ flat_within (1 + n)
one_more_told n = grind (arith, nat_tests)

pub times_told : (n a b : ℕ) → a ≡ capped b → flat_within (n * a) ≡ flat_within (n * b)
times_told zero a b h = ap flat_within (omega arith)
times_told (suc n) a b h =
    let first : suc n * a ≡ n * a + a = suc-mul n a in
    let second : suc n * b ≡ n * b + b = suc-mul n b in
    ⊎_elim (λ less. ap (λ (x : ℕ). flat_within (suc n * x)) (omega arith)) (λ more. grind (arith, nat_tests, first, second)) (cases_lt b 17)
