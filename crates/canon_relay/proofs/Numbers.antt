-- The words of a reply, one after another.
use Rattle.std.proofs.Common.{List, [], ap, arith, refl, suc, sym, ℕ, ◌*◌, ◌+◌, ◌++◌, ◌-◌, ◌<◌, ◌∙◌, ◌∷◌, ◌≡◌}
use Rattle.canon_relay.specs.Wire.{number_at, numbers_from}

next_number : (bytes : List ℕ) (n i : ℕ) → i < n → numbers_from (n - i) i bytes ≡ number_at bytes (32 + 8 * i) ∷ numbers_from (n - (i + 1)) (i + 1) bytes
next_number bytes n i h = let e : n - i ≡ suc (n - (i + 1)) = omega (arith, h) in rw e

append_one : (ws : List ℕ) (w : ℕ) (us : List ℕ) → (ws ++ w ∷ []) ++ us ≡ ws ++ w ∷ us
append_one [] w us = refl
append_one (x ∷ ws) w us = ap (λ vs. x ∷ vs) (append_one ws w us)

pub one_more_word : (all ws more bytes : List ℕ) (w n i : ℕ) → more ≡ ws ++ w ∷ [] → w ≡ number_at bytes (32 + 8 * i) → i < n → ws ++ numbers_from (n - i) i bytes ≡ all → more ++ numbers_from (n - (i + 1)) (i + 1) bytes ≡ all
one_more_word all ws more bytes w n i pushed is less so =
    ap (λ us. us ++ numbers_from (n - (i + 1)) (i + 1) bytes) pushed
    ∙ append_one ws w (numbers_from (n - (i + 1)) (i + 1) bytes)
    ∙ ap (λ v. ws ++ v ∷ numbers_from (n - (i + 1)) (i + 1) bytes) is
    ∙ ap (λ us. ws ++ us) (sym (next_number bytes n i less))
    ∙ so
