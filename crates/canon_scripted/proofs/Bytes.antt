-- Memory after bytes were copied, written or added.
use Rattle.std.proofs.Common.{◌≡◌, ℕ, ◌+◌, ◌<◌, ◌≤◌, List, ◌++◌, length, take, drop, get_or, ◌⊎◌, sym, ap, ◌∙◌, arith, append_assoc, drop-drop}
use Rattle.std.proofs.Math.Seq.{paste}
use Rattle.std.proofs.lemmas.Grind.{common_steps}
use Rattle.std.proofs.lemmas.List.{take-append-drop}

pub paste_out : (d : List ℕ) (at : ℕ) (s : List ℕ) (n i : ℕ) → at + n ≤ length d → n ≤ length s → (i < at) ⊎ (at + n ≤ i) → get_or (paste d at s n) i 0 ≡ get_or d i 0
paste_out d at s n i room more h = grind (arith, common_steps)

pub paste_in : (d : List ℕ) (at : ℕ) (s : List ℕ) (n j : ℕ) → at + n ≤ length d → n ≤ length s → j < n → get_or (paste d at s n) (at + j) 0 ≡ get_or s j 0
paste_in d at s n j room more h = grind (arith, common_steps)

pub paste_same : (d : List ℕ) (at n : ℕ) → paste d at (drop at d) n ≡ d
paste_same d at n =
    append_assoc (take at d) (take n (drop at d)) (drop (at + n) d)
    ∙ ap (λ (ys : List ℕ). take at d ++ (take n (drop at d) ++ ys)) (sym (drop-drop n at d))
    ∙ ap (λ (ys : List ℕ). take at d ++ ys) (take-append-drop n (drop at d))
    ∙ take-append-drop at d
