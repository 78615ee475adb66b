-- Work that is too much.
use Rattle.std.proofs.Common.{◌≡◌, ℕ, zero, suc, ◌<◌, ◌*◌, ◌&&◌, nat_eq, nat_le, Bool, true, false, refl, ap, ◌∙◌, sym, arith}
use Rattle.std.proofs.Math.Dec.{eqb-suc-zero}
use Rattle.std.proofs.Math.Nat.{mul-le-mul_right}
use Rattle.std.proofs.lemmas.Bool.{le-leb, lt-leb}

and_false : (b : Bool) → b && false ≡ false
and_false true = refl
and_false false = refl

-- so many times are too much work, unless there is no memory at all
pub no_work : (n t most work : ℕ) → work < t → nat_eq n 0 ≡ (nat_le n most && nat_le (n * 2 * t) work)
no_work zero t most work h = sym (ap (λ b. nat_le 0 most && b) (le-leb (0 * 2 * t) work (omega arith)) ∙ ap (λ b. b && true) (le-leb 0 most (omega arith)))
no_work (suc n) t most work h =
    eqb-suc-zero n ∙ sym (ap (λ b. nat_le (suc n) most && b) (lt-leb (suc n * 2 * t) work (omega (arith, h, mul-le-mul_right {m = 1} {n = suc n * 2} t (omega arith)))) ∙ and_false (nat_le (suc n) most))
