-- What a test of two rows of names tells.
use Rattle.std.proofs.Common.{◌≡◌, ◌<◌, ◌+◌, ◌↔◌, ◌∙◌, Bool, IsTrue, List, String, [], ap, arith, false, get_or, length, map, nat_eq, not, refl, string_bytes, sym, take, true, ℕ}
use Rattle.std.proofs.lemmas.List.{get_or-map, length-map, take_more_same}
use Rattle.std.specs.Bool.{Decides}
use Rattle.std.specs.Cmp.Derive.Mapped.{pointwise-map}
use Rattle.std.specs.Cmp.Lexicographic.{pointwise}
use Rattle.std.specs.String.{string_eq}
use Rattle.std.specs.declared.alloc.Global.{Global}
use Rattle.std.specs.Str.{bytes_eq}
use Rattle.std.proofs.lemmas.Bool.{false≢true}
use Rattle.std.proofs.lemmas.Slice.Eq.{bytes_eq-Decides, slice_eq-Decides}

decides_iff : {P : Type 0} (r : Bool) → Decides r P → IsTrue r ↔ P
decides_iff true d = (λ _. d.0 refl, λ _. refl)
decides_iff false d = (λ h. absurd (false≢true h), λ p. absurd (false≢true (d.1 p)))

pub names_decided : (xs ys : List (String Global)) (r : Bool) → r ≡ pointwise string_eq xs ys → IsTrue r ↔ (map (λ n. string_bytes n) xs ≡ map (λ n. string_bytes n) ys)
names_decided xs ys r e =
    decides_iff r (slice_eq-Decides {E = bytes_eq} bytes_eq-Decides _ _ r (e ∙ sym (pointwise-map (λ n. string_bytes n) (pointwise nat_eq) xs ys)))

not_true : (b : Bool) → not b ≡ true → b ≡ true → ⊥
not_true true e f = false≢true e
not_true false e f = false≢true f

not_false : (b : Bool) → not b ≡ false → b ≡ true
not_false true e = refl
not_false false e = absurd (false≢true (sym e))

-- what a test of two names tells
pub others : (x y : String Global) (r : Bool) → r ≡ not (string_eq x y) → r ≡ true → string_bytes x ≡ string_bytes y → ⊥
others x y r e t same = not_true (string_eq x y) (sym e ∙ t) ((bytes_eq-Decides (string_bytes x) (string_bytes y)).1 same)

pub alike : (x y : String Global) (r : Bool) → r ≡ not (string_eq x y) → r ≡ false → string_bytes x ≡ string_bytes y
alike x y r e f = (bytes_eq-Decides (string_bytes x) (string_bytes y)).0 (not_false (string_eq x y) (sym e ∙ f))

module _ {A : Type 0} (f : A → List ℕ) (xs : List A) (names : List (String Global)) (k : ℕ) (x : A) (n : String Global) (l : k < length xs) (long : length xs ≡ length names)
    (is : x ≡ get_or xs k x) (named : n ≡ get_or names k n) where
  within : k < length names
  within = omega (arith, l, long)

  -- the texts at one place of two rows that are the same
  pub same_at : map f xs ≡ map (λ m. string_bytes m) names → f x ≡ string_bytes n
  same_at e = ap f is ∙ sym (get_or-map f xs k x [] l) ∙ ap (λ (ys : List (List ℕ)). get_or ys k []) e ∙ get_or-map (λ m. string_bytes m) names k n [] within
      ∙ ap (λ (m : String Global). string_bytes m) (sym named)

  -- rows that are the same as far as one place more
  pub same_more : take k (map f xs) ≡ take k (map (λ m. string_bytes m) names) → f x ≡ string_bytes n → take (k + 1) (map f xs) ≡ take (k + 1) (map (λ m. string_bytes m) names)
  same_more e same = take_more_same (map f xs) (map (λ m. string_bytes m) names) k [] (omega (arith, l, length-map xs f)) (omega (arith, within, length-map names (λ (m : String Global). string_bytes m))) e
      (get_or-map f xs k x [] l ∙ sym (ap f is) ∙ same ∙ ap (λ (m : String Global). string_bytes m) named ∙ sym (get_or-map (λ m. string_bytes m) names k n [] within))
