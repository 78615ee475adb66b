-- Numbers in memory, as std reads them.
use Rattle.std.proofs.Common.{◌≡◌, ◌≤◌, ◌+◌, List, [], ◌∷◌, arith, drop, length, length-drop, length-take-le, sym, take, w16, w32, w64, ℕ}
use Rattle.std.specs.Int.{from_le_bytes}
use Rattle.canon_lowering.specs.Storing.{narrow}
use Rattle.canon_model.proofs.Numbers.{le_number_4}
use Rattle.canon_model.specs.Memory.{bytes_in, le_number, num}

le_number_2 : (bs : List ℕ) → length bs ≡ 2 → le_number bs ≡ from_le_bytes w16 bs
le_number_2 [] e = absurd (omega arith)
le_number_2 (a ∷ []) e = absurd (omega arith)
le_number_2 (a ∷ b ∷ []) e = omega arith
le_number_2 (a ∷ b ∷ c ∷ xs) e = absurd (omega arith)

le_number_8 : (bs : List ℕ) → length bs ≡ 8 → le_number bs ≡ from_le_bytes w64 bs
le_number_8 [] e = absurd (omega arith)
le_number_8 (a ∷ []) e = absurd (omega arith)
le_number_8 (a ∷ b ∷ []) e = absurd (omega arith)
le_number_8 (a ∷ b ∷ c ∷ []) e = absurd (omega arith)
le_number_8 (a ∷ b ∷ c ∷ d ∷ []) e = absurd (omega arith)
le_number_8 (a ∷ b ∷ c ∷ d ∷ f ∷ []) e = absurd (omega arith)
le_number_8 (a ∷ b ∷ c ∷ d ∷ f ∷ g ∷ []) e = absurd (omega arith)
le_number_8 (a ∷ b ∷ c ∷ d ∷ f ∷ g ∷ h ∷ []) e = absurd (omega arith)
le_number_8 (a ∷ b ∷ c ∷ d ∷ f ∷ g ∷ h ∷ i ∷ []) e = omega arith
le_number_8 (a ∷ b ∷ c ∷ d ∷ f ∷ g ∷ h ∷ i ∷ j ∷ xs) e = absurd (omega arith)

length-part : (bytes : List ℕ) (a n : ℕ) → a + n ≤ length bytes → length (take n (drop a bytes)) ≡ n
length-part bytes a n h = length-take-le n (drop a bytes) (omega (arith, length-drop a bytes))

-- what std reads from the bytes at an address is the number there
pub num_read_2 : (bytes : List ℕ) (a : ℕ) → a + 2 ≤ length bytes → from_le_bytes w16 (take 2 (drop a bytes)) ≡ num (narrow bytes) a 2
unfolding bytes_in
num_read_2 bytes a h = sym (le_number_2 (take 2 (drop a bytes)) (length-part bytes a 2 h))

pub num_read_4 : (bytes : List ℕ) (a : ℕ) → a + 4 ≤ length bytes → from_le_bytes w32 (take 4 (drop a bytes)) ≡ num (narrow bytes) a 4
unfolding bytes_in
num_read_4 bytes a h = sym (le_number_4 (take 4 (drop a bytes)) (length-part bytes a 4 h))

pub num_read_8 : (bytes : List ℕ) (a : ℕ) → a + 8 ≤ length bytes → from_le_bytes w64 (take 8 (drop a bytes)) ≡ num (narrow bytes) a 8
unfolding bytes_in
num_read_8 bytes a h = sym (le_number_8 (take 8 (drop a bytes)) (length-part bytes a 8 h))
