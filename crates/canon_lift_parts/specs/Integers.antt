-- Integers in a row in memory.
use Rattle.std.specs.Prelude.{◌+◌, List, [], ◌∷◌, ⊤, ℕ}
use Rattle.canon_model.specs.Memory.{Memory, num}

-- The bytes from p on, k for each, spell these integers. `Held` says which integer a number is.
abbrev pub AreSpelled : {A : Type 0} → (A → ℕ → Type 0) → ℕ → Memory → ℕ → List A → Type 0
AreSpelled Held k m p [] = ⊤
AreSpelled Held k m p (x ∷ xs) = Held x (num m p k) × AreSpelled Held k m (p + k) xs
