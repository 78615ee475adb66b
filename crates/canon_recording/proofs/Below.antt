-- What holds of each number below another.
use Rattle.std.proofs.Common.{arith, inl, inr, subst, ℕ, ◌+◌, ◌<◌, ◌≡◌, ◌⊎◌}

abbrev pub AllBelow : (ℕ → Type 0) → ℕ → Type 0
AllBelow P k = (n : ℕ) → n < k → P n

pub none_below : (P : ℕ → Type 0) → AllBelow P 0
none_below P n lt = absurd (omega (arith, lt))

below_or_last : (n k : ℕ) → n < k + 1 → (n < k) ⊎ (k ≡ n)
below_or_last n k lt = grind (arith, lt)

pub one_below : (P : ℕ → Type 0) (k : ℕ) → P k → AllBelow P k → AllBelow P (k + 1)
one_below P k here before n lt = go (below_or_last n k lt)
  where
    go : (n < k) ⊎ (k ≡ n) → P n
    go (inl below) = before n below
    go (inr last) = subst P last here
