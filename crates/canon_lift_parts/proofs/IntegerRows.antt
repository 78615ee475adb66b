-- One more integer at the end of a row.
use Rattle.std.proofs.Common.{◌≡◌, ◌+◌, ◌*◌, ◌++◌, IfOk, List, Result, [], ◌∷◌, arith, length, subst, suc, suc-mul, Vec, ℕ}
use Rattle.std.specs.declared.alloc.Global.{Global}
use Rattle.canon_lowering.specs.Storing.{narrow}
use Rattle.canon_model.specs.Memory.{Memory, num}
use Rattle.canon_lift_parts.specs.Integers.{AreSpelled}

pub held_more : {A : Type 0} (Held : A → ℕ → Type 0) (k : ℕ) (m : Memory) (p : ℕ) (xs : List A) (x : A) → AreSpelled Held k m p xs → Held x (num m (p + length xs * k) k) → AreSpelled Held k m p (xs ++ x ∷ [])
held_more Held k m p [] x h one =
    let here : p + 0 * k ≡ p = omega arith in
    (subst (λ a. Held x (num m a k)) here one, tt)
held_more Held k m p (y ∷ ys) x (first, rest) one =
    let here : p + suc (length ys) * k ≡ p + k + length ys * k = omega (arith, suc-mul (length ys) k) in
    (first, held_more Held k m (p + k) ys x rest (subst (λ a. Held x (num m a k)) here one))

-- the same memory
pub held_there : {A E : Type 0} (Held : A → ℕ → Type 0) (k : ℕ) (ms ms2 : List ℕ) (p : ℕ) (r : Result (Vec A Global) E) → ms ≡ ms2 → IfOk r (λ v. AreSpelled Held k (narrow ms) p v.items)
    → IfOk r (λ v. AreSpelled Held k (narrow ms2) p v.items)
held_there Held k ms ms2 p r same h = subst (λ (xs : List ℕ). IfOk r (λ v. AreSpelled Held k (narrow xs) p v.items)) same h
