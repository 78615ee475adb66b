-- The bits of a number past the last flag.
use Rattle.std.proofs.Common.{List, arith, ap, length, suc, sym, zero, ℕ, ⊎_elim, ◌%◌, ◌*◌, ◌+◌, ◌-◌, ◌/◌, ◌<◌, ◌^◌, ◌∙◌, ◌≡◌, ◌≤◌}
use Rattle.std.specs.Int.{bit_at}
use Rattle.std.specs.Prelude.{slice_index}
use Rattle.std.proofs.Math.Nat.{pow-succ'}
use Rattle.std.proofs.lemmas.Bool.{cases_lt}
use Rattle.std.proofs.lemmas.Nat.Bits.{bit_at-suc, bit_at-zero, same_from_bits}
use Rattle.canon_lowering.specs.Storing.{narrow}
use Rattle.canon_model.specs.Memory.{num}
use Rattle.canon_value_parts.proofs.FlagBits.{digit_bit, digit_end, digits}
use Rattle.canon_value_parts.proofs.FlagDigits.{num_digits}

below : (w n : ℕ) → ((k : ℕ) → w ≤ k → bit_at n k ≡ 0) → n < 2 ^ w
below zero n none = let e : n ≡ 0 = same_from_bits n 0 (λ i. none i (omega arith) ∙ sym (bit_at-zero i)) in omega (arith, e)
below (suc w) n none =
    let half : n / 2 < 2 ^ w = below w (n / 2) (λ k l. sym (bit_at-suc n k) ∙ none (suc k) (omega (arith, l))) in
    omega (arith, half, pow-succ' 2 w)

high_none : (w n k : ℕ) → n < 2 ^ w → w ≤ k → bit_at n k ≡ 0
high_none zero n k h l = ap (λ x. bit_at x k) (let e : n ≡ 0 = omega (arith, h) in e) ∙ bit_at-zero k
high_none (suc w) n zero h l = absurd (omega (arith, l))
high_none (suc w) n (suc k) h l = bit_at-suc n k ∙ high_none w (n / 2) k (omega (arith, h, pow-succ' 2 w)) (omega (arith, l))

module _ (bs : List ℕ) (at size : ℕ) (room : at + size ≤ length bs) (small : (i : ℕ) → slice_index bs i < 256) where
  bit_here : (k : ℕ) → k < size * 8 → bit_at (num (narrow bs) at size) k ≡ bit_at (slice_index bs (at + k / 8)) (k % 8)
  bit_here k l =
      let q : k / 8 < size = omega (arith, l) in
      let r : k % 8 < 8 = omega arith in
      let place : k ≡ 8 * (k / 8) + k % 8 = omega arith in
      ap (λ n. bit_at n k) (num_digits bs size at room) ∙ (ap (bit_at (digits 8 (λ i. slice_index bs i) at size)) place ∙ digit_bit 8 (λ i. slice_index bs i) size at (k / 8) (k % 8) (λ j u. small (at + j)) q r)

  bit_past : (k : ℕ) → size * 8 ≤ k → bit_at (num (narrow bs) at size) k ≡ 0
  bit_past k l =
      let place : k ≡ 8 * size + (k - 8 * size) = omega (arith, l) in
      ap (λ n. bit_at n k) (num_digits bs size at room) ∙ (ap (bit_at (digits 8 (λ i. slice_index bs i) at size)) place ∙ digit_end 8 (λ i. slice_index bs i) size at (k - 8 * size) (λ j u. small (at + j)))

  pub spare_set : (first k : ℕ) → first ≤ k → k < size * 8 → bit_at (slice_index bs (at + k / 8)) (k % 8) ≡ 1 → 2 ^ first ≤ num (narrow bs) at size
  spare_set first k l u set = ⊎_elim
      (λ (low : num (narrow bs) at size < 2 ^ first). let none = high_none first (num (narrow bs) at size) k low l in absurd (omega (arith, none, bit_here k u, set)))
      (λ (high : 2 ^ first ≤ num (narrow bs) at size). high)
      (cases_lt (num (narrow bs) at size) (2 ^ first))

  pub spare_none : (first : ℕ) → ((j : ℕ) → first ≤ j → j < size * 8 → bit_at (slice_index bs (at + j / 8)) (j % 8) ≡ 0) → num (narrow bs) at size < 2 ^ first
  spare_none first none = below first (num (narrow bs) at size) (λ k l. ⊎_elim (λ (u : k < size * 8). bit_here k u ∙ none k l u) (λ (u : size * 8 ≤ k). bit_past k u) (cases_lt k (size * 8)))
