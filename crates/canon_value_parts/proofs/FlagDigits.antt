-- The numbers that bytes and words make, by their digits.
use Rattle.std.proofs.Common.{◌≡◌, ◌≤◌, ◌<◌, ◌+◌, ◌*◌, ◌/◌, ◌%◌, ◌^◌, ◌∙◌, List, ◌∷◌, ap, arith, drop, drop-cons, get_or, length, refl, slice_index, subst, suc, take, zero, ℕ}
use Rattle.std.specs.Int.{bit_at}
use Rattle.std.proofs.lemmas.Bool.Decides.{nat_tests}
use Rattle.canon_lowering.specs.Storing.{narrow}
use Rattle.canon_model.specs.Flat.{low_number}
use Rattle.canon_model.specs.Layout.{flag_words, flags_size}
use Rattle.canon_model.specs.Memory.{bytes_in, le_number, low, num}
use Rattle.canon_value_parts.specs.Flags.{HasPlace, MarksHaveRoom, digit_of, marked_number, width_of}
use Rattle.canon_value_parts.specs.declared.flags.Marks.{Marks}
use Rattle.canon_value_parts.specs.declared.flags.Marks.TheVariants as marks
use Rattle.canon_value_parts.proofs.FlagBits.{digit_bit, digits}

pub num_digits : (xs : List ℕ) (n at : ℕ) → at + n ≤ length xs → num (narrow xs) at n ≡ digits 8 (λ i. slice_index xs i) at n
unfolding bytes_in
num_digits xs zero at room = refl
num_digits xs (suc n) at room =
    let here : drop at xs ≡ get_or xs at 0 ∷ drop (suc at) xs = drop-cons xs at 0 (omega (arith, room)) in
    let rest = num_digits xs n (at + 1) (omega (arith, room)) in
    let next : suc at ≡ at + 1 = omega arith in
    ap (λ (ys : List ℕ). le_number (take (suc n) ys)) here ∙ ap (λ (m : ℕ). get_or xs at 0 + 256 * m) (ap (λ (p : ℕ). le_number (take n (drop p xs))) next ∙ rest)

pub words_digits : (ws : List ℕ) (n i : ℕ) → low_number ws i n ≡ digits 32 (λ j. low (slice_index ws j)) i n
words_digits ws zero i = refl
words_digits ws (suc n) i = ap (λ (m : ℕ). low (slice_index ws i) + 2 ^ 32 * m) (words_digits ws n (i + 1))

-- ---- places of flags

-- the place of flag k is one of those of n flags, in bytes and in words
pub byte_inside : (n k : ℕ) → k < n → k / 8 < flags_size n
byte_inside n k l = grind (arith, nat_tests)

pub word_inside : (n k : ℕ) → k < n → k / 32 < flag_words n
word_inside n k l = omega arith

-- as many bits have room there, and more than n may
pub bytes_enough : (n : ℕ) → n ≤ 8 * flags_size n
bytes_enough n = grind (arith, nat_tests)

-- ---- the bits that are read

pub has_place : (ms : Marks) (n k : ℕ) → MarksHaveRoom ms n → k < n → HasPlace ms (k / width_of ms)
has_place (marks.Bytes memory at) n k room l = omega (arith, room, byte_inside n k l)
has_place (marks.Words words from) n k room l = omega (arith, room, word_inside n k l)

-- bit k of the number is that of its digit, where the digits before it are no larger than they may be
pub bit_read : (ms : Marks) (n k : ℕ) → MarksHaveRoom ms n → k < n → ((j : ℕ) → j < k → digit_of ms (j / width_of ms) < 2 ^ width_of ms) → bit_at (marked_number ms n) k ≡ bit_at (digit_of ms (k / width_of ms)) (k % width_of ms)
bit_read (marks.Bytes memory at) n k room l below =
    let xs = memory.now in
    let before : (q : ℕ) → q < k / 8 → slice_index xs (at + q) < 2 ^ 8 = λ q u. subst (λ (p : ℕ). slice_index xs (at + p) < 2 ^ 8) (let e : 8 * q / 8 ≡ q = omega arith in e) (below (8 * q) (omega (arith, u))) in
    let place : k ≡ 8 * (k / 8) + k % 8 = omega arith in
    ap (λ (m : ℕ). bit_at m k) (num_digits xs (flags_size n) at room) ∙ (ap (bit_at (digits 8 (λ i. slice_index xs i) at (flags_size n))) place
    ∙ digit_bit 8 (λ i. slice_index xs i) (flags_size n) at (k / 8) (k % 8) before (byte_inside n k l) (omega arith))
bit_read (marks.Words words from) n k room l below =
    let ws = words.now in
    let before : (q : ℕ) → q < k / 32 → low (slice_index ws (from + q)) < 2 ^ 32 = λ q u. omega arith in
    let place : k ≡ 32 * (k / 32) + k % 32 = omega arith in
    ap (λ (m : ℕ). bit_at m k) (words_digits ws (flag_words n) from) ∙ (ap (bit_at (digits 32 (λ j. low (slice_index ws j)) from (flag_words n))) place
    ∙ digit_bit 32 (λ j. low (slice_index ws j)) (flag_words n) from (k / 32) (k % 32) before (word_inside n k l) (omega arith))
