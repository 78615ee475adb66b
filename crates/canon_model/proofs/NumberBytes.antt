-- Numbers as bytes, the lowest byte first.
use Rattle.std.proofs.Common.{List, [], ap, ap₂, arith, div-one, length, pow-suc, refl, suc, sym, take, w64, zero, ℕ, ◌%◌, ◌*◌, ◌+◌, ◌/◌, ◌<◌, ◌^◌, ◌∙◌, ◌∷◌, ◌≡◌, ◌≤◌}
use Rattle.std.specs.Prelude.{slice_index}
use Rattle.std.proofs.Math.Arith.{mod-mul}
use Rattle.std.proofs.Math.Nat.{div-div-eq-div-mul, one-le-pow}
use Rattle.std.specs.Int.{byte_at, bytes_low_first, to_le_bytes}
use Rattle.canon_model.specs.Image.{le_bytes}
use Rattle.canon_model.specs.Memory.{le_number}

pub byte_at-pow : (k n : ℕ) → byte_at k n ≡ n / 256 ^ k % 256
byte_at-pow zero n = ap (λ (x : ℕ). x % 256) (sym (div-one n))
byte_at-pow (suc k) n = refl

pub low_first : (k i n : ℕ) → bytes_low_first i k n ≡ le_bytes k (n / 256 ^ i)
low_first zero i n = refl
low_first (suc k) i n =
    let shift : n / 256 ^ suc i ≡ n / 256 ^ i / 256 = ap (λ (p : ℕ). n / p) (pow-suc 256 i) ∙ sym (div-div-eq-div-mul n (256 ^ i) 256) in
    ap₂ (λ b bs. b ∷ bs) (byte_at-pow i n) (low_first k (suc i) n ∙ ap (le_bytes k) shift)

pub take-bytes_low_first : (k j i n : ℕ) → k ≤ j → take k (bytes_low_first i j n) ≡ bytes_low_first i k n
take-bytes_low_first zero j i n h = refl
take-bytes_low_first (suc k) zero i n h = absurd (omega (arith, h))
take-bytes_low_first (suc k) (suc j) i n h = ap (λ bs. byte_at i n ∷ bs) (take-bytes_low_first k j (suc i) n (omega (arith, h)))

-- what std writes
pub low_bytes : (k n : ℕ) → k ≤ 8 → take k (to_le_bytes w64 n) ≡ le_bytes k n
low_bytes k n few = take-bytes_low_first k 8 0 n few ∙ (low_first k 0 n ∙ ap (le_bytes k) (div-one n))

-- higher bytes don't matter
pub le_bytes_low : (k n : ℕ) → le_bytes k (n % 256 ^ k) ≡ le_bytes k n
le_bytes_low zero n = refl
le_bytes_low (suc k) n =
    let some : 0 < 256 ^ k = omega (arith, one-le-pow k 256 (omega arith)) in
    let split : n % (256 ^ k * 256) ≡ (n / 256 % 256 ^ k) * 256 + n % 256 = mod-mul n {m = 256 ^ k} {c = 256} some (omega arith) in
    let whole : n % 256 ^ suc k ≡ (n / 256 % 256 ^ k) * 256 + n % 256 = ap (λ p. n % p) (pow-suc 256 k) ∙ split in
    let first : n % 256 ^ suc k % 256 ≡ n % 256 = omega (arith, whole) in
    let rest : n % 256 ^ suc k / 256 ≡ n / 256 % 256 ^ k = omega (arith, whole) in
    ap₂ (λ b bs. b ∷ bs) first (ap (le_bytes k) rest ∙ le_bytes_low k (n / 256))

-- bytes are those of their number
pub le_number_bytes : (xs : List ℕ) → ((i : ℕ) → slice_index xs i < 256) → (le_bytes (length xs) (le_number xs) ≡ xs) × (le_number xs < 256 ^ length xs)
le_number_bytes [] h = (refl, omega arith)
le_number_bytes (x ∷ xs) h =
    let r = le_number_bytes xs (λ i. h (suc i)) in
    let small : x < 256 = h 0 in
    let first : (x + 256 * le_number xs) % 256 ≡ x = omega (arith, small) in
    let rest : (x + 256 * le_number xs) / 256 ≡ le_number xs = omega (arith, small) in
    (ap₂ (λ b bs. b ∷ bs) first (ap (le_bytes (length xs)) rest ∙ r.0), omega (arith, small, r.1, pow-suc 256 (length xs)))
