-- What a shape says of its parts, and a scalar of its word.
use Rattle.std.specs.Prelude.{false, ℕ, ◌%◌, ◌≡◌, ◌≤◌, ◌^◌, Bool, suc, true}
use Rattle.canon_context.specs.Quiet.{have_block, has_block, cases_have_block}
use Rattle.canon_model.specs.Layout.{members_flat, size, flat, scalar_size, cases_flat}
use Rattle.canon_lowering.specs.Copies.{case_members, copies}
use Rattle.canon_model.specs.Shape.{Shape, Scalar, Cases, bare, no_cases, payload, bool, char, f32, f64, s16, s32, s64, s8, u16, u32, u64, u8}
use Rattle.canon_model.specs.Flat.{IsLeastWord, flat_bits}
use Rattle.canon_model.specs.Rep.{ScalarIs, IsLeast}
use Rattle.canon_model.specs.Tree.{Tree}
use Rattle.std.proofs.Common.{refl, subst, arith, ◌||◌, zero}
use Rattle.canon_plan.specs.Plan.{shaped_handle}

pub no_first : (a b : Bool) → (a || b) ≡ false → a ≡ false
no_first false b h = refl
no_first true b h = cc

pub no_later : (a b : Bool) → (a || b) ≡ false → b ≡ false
no_later false b h = h
no_later true b h = cc

pub copies_quiet : (n : ℕ) (s : Shape) → has_block s ≡ false → have_block (copies n s) ≡ false
copies_quiet zero s e = refl
copies_quiet (suc n) s e = rw e (copies_quiet n s e)

pub case_quiet : (cs : Cases) (i : ℕ) → cases_have_block cs ≡ false → have_block (case_members cs i) ≡ false
case_quiet no_cases i e = refl
case_quiet (bare name cs) zero e = refl
case_quiet (bare name cs) (suc i) e = case_quiet cs i e
case_quiet (payload name s cs) zero e = rw (no_first (has_block s) (cases_have_block cs) e) refl
case_quiet (payload name s cs) (suc i) e = case_quiet cs i (no_later (has_block s) (cases_have_block cs) e)

-- how many bytes and words it takes
pub handle_size : (owned : Bool) (r : ℕ) → size false (shaped_handle owned r) ≡ 4
unfolding size
handle_size true r = refl
handle_size false r = refl

pub handle_flat : (owned : Bool) (r : ℕ) → flat (shaped_handle owned r) ≡ 1
unfolding flat
handle_flat true r = refl
handle_flat false r = refl

-- a scalar's word, cut to the scalar's bytes
pub least_low : (k : Scalar) (w : ℕ) (t : Tree) → ScalarIs k (w % 2 ^ flat_bits k) t → IsLeastWord k w → ScalarIs k (w % 256 ^ scalar_size k) t × IsLeast k (w % 256 ^ scalar_size k)
least_low bool w t is least =
    let same : w % 2 ^ 32 ≡ w % 256 ^ 1 = omega (arith, least) in
    (subst (λ (n : ℕ). ScalarIs bool n t) same is, omega (arith, least))
least_low s8 w t is least = (is, tt)
least_low u8 w t is least = (is, tt)
least_low s16 w t is least = (is, tt)
least_low u16 w t is least = (is, tt)
least_low s32 w t is least = (is, tt)
least_low u32 w t is least = (is, tt)
least_low s64 w t is least = (is, tt)
least_low u64 w t is least = (is, tt)
least_low f32 w t is least = (is, tt)
least_low f64 w t is least = (is, tt)
least_low char w t is least = (is, tt)

pub scalar_bytes : (k : Scalar) → scalar_size k ≤ 8
scalar_bytes bool = omega arith
scalar_bytes s8 = omega arith
scalar_bytes u8 = omega arith
scalar_bytes s16 = omega arith
scalar_bytes u16 = omega arith
scalar_bytes s32 = omega arith
scalar_bytes u32 = omega arith
scalar_bytes s64 = omega arith
scalar_bytes u64 = omega arith
scalar_bytes f32 = omega arith
scalar_bytes f64 = omega arith
scalar_bytes char = omega arith

-- a payload has no more words than the longest
pub payload_words : (cs : Cases) (i : ℕ) → members_flat (case_members cs i) ≤ cases_flat cs
unfolding flat
payload_words no_cases i = omega arith
payload_words (bare name cs) zero = omega arith
payload_words (bare name cs) (suc i) = payload_words cs i
payload_words (payload name s cs) zero = omega arith
payload_words (payload name s cs) (suc i) = omega (arith, payload_words cs i)
