-- A number by its digits, which have w bits each, the lowest first.
use Rattle.std.proofs.Common.{◌≡◌, ◌<◌, ◌+◌, ◌-◌, ◌*◌, ◌/◌, ◌%◌, ◌^◌, ◌∙◌, List, ap, arith, length, refl, slice_index, subst, suc, sym, zero, ℕ, ⊎_elim, length-set, set}
use Rattle.std.specs.Int.{bit_at}
use Rattle.std.proofs.lemmas.List.{get_or-set_other, get_or-set_same}
use Rattle.canon_value_parts.specs.Flags.{SetsBit}
use Rattle.std.proofs.Math.Nat.{div-add-mod, mod-lt, mul-add, mul_assoc, pow-succ'}
use Rattle.std.proofs.lemmas.Bool.{cases_eq, cases_lt}
use Rattle.std.proofs.lemmas.Nat.Bits.{bit_at-suc, bit_at-zero, bit_at_lowest}

-- n digits, from place i on
abbrev pub digits : ℕ → (ℕ → ℕ) → ℕ → ℕ → ℕ
digits w d i zero = 0
digits w d i (suc n) = d i + 2 ^ w * digits w d (i + 1) n

-- ---- one digit below a number

double : (w x : ℕ) → 2 ^ suc w * x ≡ 2 * (2 ^ w * x)
double w x = ap (λ (p : ℕ). p * x) (pow-succ' 2 w) ∙ mul_assoc 2 (2 ^ w) x

half_join : (w b x : ℕ) → (b + 2 ^ suc w * x) / 2 ≡ b / 2 + 2 ^ w * x
half_join w b x = omega (arith, double w x)

parity_join : (w b x : ℕ) → (b + 2 ^ suc w * x) % 2 ≡ b % 2
parity_join w b x = omega (arith, double w x)

low_bit : (r w b x : ℕ) → r < w → bit_at (b + 2 ^ w * x) r ≡ bit_at b r
low_bit r zero b x h = absurd (omega (arith, h))
low_bit zero (suc w) b x h = bit_at_lowest _ ∙ (parity_join w b x ∙ sym (bit_at_lowest b))
low_bit (suc r) (suc w) b x h = bit_at-suc _ r ∙ (ap (λ (n : ℕ). bit_at n r) (half_join w b x) ∙ (low_bit r w (b / 2) x (omega (arith, h)) ∙ sym (bit_at-suc b r)))

high_bit : (w b x k : ℕ) → b < 2 ^ w → bit_at (b + 2 ^ w * x) (w + k) ≡ bit_at x k
high_bit zero b x k h = ap (λ (n : ℕ). bit_at n (0 + k)) (let same : b + 1 * x ≡ x = omega (arith, h) in same) ∙ ap (bit_at x) (let same : 0 + k ≡ k = omega arith in same)
high_bit (suc w) b x k h =
    let place : suc w + k ≡ suc (w + k) = omega arith in
    let small : b / 2 < 2 ^ w = omega (arith, h, pow-succ' 2 w) in
    ap (bit_at (b + 2 ^ suc w * x)) place ∙ (bit_at-suc _ (w + k) ∙ (ap (λ (n : ℕ). bit_at n (w + k)) (half_join w b x) ∙ high_bit w (b / 2) x k small))

-- ---- all digits

-- bit r of digit q, where those below it have w bits
pub digit_bit : (w : ℕ) (d : ℕ → ℕ) (n i q r : ℕ) → ((j : ℕ) → j < q → d (i + j) < 2 ^ w) → q < n → r < w → bit_at (digits w d i n) (w * q + r) ≡ bit_at (d (i + q)) r
digit_bit w d zero i q r small h l = absurd (omega (arith, h))
digit_bit w d (suc n) i zero r small h l =
    ap (bit_at (digits w d i (suc n))) (let e : w * 0 + r ≡ r = omega arith in e) ∙ (low_bit r w (d i) _ l ∙ ap (λ (p : ℕ). bit_at (d p) r) (let e : i ≡ i + 0 = omega arith in e))
digit_bit w d (suc n) i (suc q) r small h l =
    let place : w * suc q + r ≡ w + (w * q + r) = omega arith in
    let first : d i < 2 ^ w = subst (λ (p : ℕ). d p < 2 ^ w) (let e : i + 0 ≡ i = omega arith in e) (small 0 (omega arith)) in
    let others : (j : ℕ) → j < q → d (i + 1 + j) < 2 ^ w = λ j u. subst (λ (p : ℕ). d p < 2 ^ w) (let e : i + suc j ≡ i + 1 + j = omega arith in e) (small (suc j) (omega (arith, u))) in
    ap (bit_at (digits w d i (suc n))) place ∙ (high_bit w (d i) _ (w * q + r) first ∙ (digit_bit w d n (i + 1) q r others (omega (arith, h)) l ∙ ap (λ (p : ℕ). bit_at (d p) r) (let e : i + 1 + q ≡ i + suc q = omega arith in e)))

-- past them there are none
pub digit_end : (w : ℕ) (d : ℕ → ℕ) (n i k : ℕ) → ((j : ℕ) → j < n → d (i + j) < 2 ^ w) → bit_at (digits w d i n) (w * n + k) ≡ 0
digit_end w d zero i k small = bit_at-zero _
digit_end w d (suc n) i k small =
    let place : w * suc n + k ≡ w + (w * n + k) = omega arith in
    let first : d i < 2 ^ w = subst (λ (p : ℕ). d p < 2 ^ w) (let e : i + 0 ≡ i = omega arith in e) (small 0 (omega arith)) in
    let others : (j : ℕ) → j < n → d (i + 1 + j) < 2 ^ w = λ j u. subst (λ (p : ℕ). d p < 2 ^ w) (let e : i + suc j ≡ i + 1 + j = omega arith in e) (small (suc j) (omega (arith, u))) in
    ap (bit_at (digits w d i (suc n))) place ∙ (high_bit w (d i) _ (w * n + k) first ∙ digit_end w d n (i + 1) k others)

pub digits_same : (w : ℕ) (d f : ℕ → ℕ) (n i : ℕ) → ((j : ℕ) → j < n → d (i + j) ≡ f (i + j)) → digits w d i n ≡ digits w f i n
digits_same w d f zero i same = refl
digits_same w d f (suc n) i same =
    let first : d i ≡ f i = subst (λ (p : ℕ). d p ≡ f p) (let e : i + 0 ≡ i = omega arith in e) (same 0 (omega arith)) in
    let others : (j : ℕ) → j < n → d (i + 1 + j) ≡ f (i + 1 + j) = λ j u. subst (λ (p : ℕ). d p ≡ f p) (let e : i + suc j ≡ i + 1 + j = omega arith in e) (same (suc j) (omega (arith, u))) in
    ap (λ (x : ℕ). x + 2 ^ w * digits w d (i + 1) n) first ∙ ap (λ (x : ℕ). f i + 2 ^ w * x) (digits_same w d f n (i + 1) others)

pub digits_none : (w : ℕ) (d : ℕ → ℕ) (n i : ℕ) → ((j : ℕ) → j < n → d (i + j) ≡ 0) → digits w d i n ≡ 0
digits_none w d zero i none = refl
digits_none w d (suc n) i none =
    let first : d i ≡ 0 = subst (λ (p : ℕ). d p ≡ 0) (let e : i + 0 ≡ i = omega arith in e) (none 0 (omega arith)) in
    let others : (j : ℕ) → j < n → d (i + 1 + j) ≡ 0 = λ j u. subst (λ (p : ℕ). d p ≡ 0) (let e : i + suc j ≡ i + 1 + j = omega arith in e) (none (suc j) (omega (arith, u))) in
    rw (first, digits_none w d n (i + 1) others) (omega arith)

-- ---- one bit more

-- Of two numbers the second has bit k, and otherwise the bits of the first.
pub record Gains (k a b : ℕ) : Type 0 where
  pub here : bit_at b k ≡ 1
  pub others : (j : ℕ) → (j ≡ k → ⊥) → bit_at b j ≡ bit_at a j

-- where a digit gains bit r, the number gains it there
module _ (w : ℕ) (some : 0 < w) (d f : ℕ → ℕ) (n i q r : ℕ) (small : (j : ℕ) → j < n → d (i + j) < 2 ^ w) (small2 : (j : ℕ) → j < n → f (i + j) < 2 ^ w) (same : (j : ℕ) → j < n → (j ≡ q → ⊥) → f (i + j) ≡ d (i + j))
    (gains : Gains r (d (i + q)) (f (i + q))) (inside : q < n) (low : r < w) where
  kept_at : (p s : ℕ) → (w * p + s ≡ w * q + r → ⊥) → s < w → p < n → bit_at (digits w f i n) (w * p + s) ≡ bit_at (digits w d i n) (w * p + s)
  kept_at p s other l h =
      let old = digit_bit w d n i p s (λ j u. small j (omega (arith, u, h))) h l in
      let new = digit_bit w f n i p s (λ j u. small2 j (omega (arith, u, h))) h l in
      let bit : bit_at (f (i + p)) s ≡ bit_at (d (i + p)) s = ⊎_elim
      (λ (e : p ≡ q). subst (λ (x : ℕ). bit_at (f (i + x)) s ≡ bit_at (d (i + x)) s) (sym e) (gains.others s (λ es. other (ap (λ (x : ℕ). w * x + s) e ∙ ap (λ (x : ℕ). w * q + x) es))))
      (λ ne. ap (λ (x : ℕ). bit_at x s) (same p h ne))
      (cases_eq p q) in
      new ∙ (bit ∙ sym old)

  none_at : (p s m : ℕ) → p ≡ n + m → bit_at (digits w f i n) (w * p + s) ≡ bit_at (digits w d i n) (w * p + s)
  none_at p s m e =
      let place : w * p + s ≡ w * n + (w * m + s) = omega (arith, ap (λ (x : ℕ). w * x) e, mul-add w n m) in
      rw place (digit_end w f n i _ small2 ∙ sym (digit_end w d n i _ small))

  pub digit_gains : Gains (w * q + r) (digits w d i n) (digits w f i n)
  digit_gains = record {
    here = digit_bit w f n i q r (λ j u. small2 j (omega (arith, u, inside))) inside low ∙ gains.here;
    others = λ j other.
        let parts : w * (j / w) + j % w ≡ j = div-add-mod j w in
        let l : j % w < w = mod-lt j some in
        subst (λ (x : ℕ). bit_at (digits w f i n) x ≡ bit_at (digits w d i n) x) parts (⊎_elim
        (λ h. kept_at (j / w) (j % w) (λ e. other (sym parts ∙ e)) l h)
        (λ h. none_at (j / w) (j % w) (j / w - n) (omega (arith, h)))
        (cases_lt (j / w) n));
  }

-- ---- a number in a list that gains a bit

pub set_bit : (w p r v : ℕ) (xs : List ℕ) → p < length xs → v < 2 ^ w → bit_at v r ≡ 1 → ((j : ℕ) → (j ≡ r → ⊥) → bit_at v j ≡ bit_at (slice_index xs p % 2 ^ w) j) → SetsBit w p r xs (set xs p v)
set_bit w p r v xs inside small here others =
    let there : slice_index (set xs p v) p ≡ v = get_or-set_same xs p v 0 inside in
    record {
      same_length = length-set xs p v;
      kept = λ i other. get_or-set_other xs p i v 0 other;
      below = rw there small;
      here = rw there here;
      others = λ j other. ap (λ (n : ℕ). bit_at n j) there ∙ others j other;
    }
