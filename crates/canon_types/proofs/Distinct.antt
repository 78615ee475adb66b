-- Names of which none stands among those before it differ from one another.
use Rattle.std.proofs.Common.{append_assoc, arith, true≢false, ◌≡◌, ◌≢◌, ℕ, zero, suc, ◌<◌, ◌≤◌, Bool, true, false, ◌||◌, List, [], ◌∷◌, ◌++◌, length, get_or, refl, sym, ap, ◌∙◌, ⊎_elim}
use Rattle.std.specs.Prelude.{AllPairs, bytes_eq}
use Rattle.std.specs.List.{list_any}
use Rattle.std.proofs.Math.Seq.{get_or-append_seam}
use Rattle.std.proofs.lemmas.Bool.{cases_lt}
use Rattle.std.proofs.lemmas.List.{append-nil, get_or_append_left, length-append}
use Rattle.std.proofs.lemmas.Slice.Eq.{bytes_eq-Decides}
use Rattle.canon_model.specs.Shape.{Name}
use Rattle.canon_types.specs.Refusal.{has_repeats, repeats_after}

neither : (a b : Bool) → (a || b) ≡ false → (a ≡ false) × (b ≡ false)
neither true b h = cc
neither false b h = (refl, h)

absent : (n : Name) (before : List Name) → list_any (bytes_eq n) before ≡ false → (i : ℕ) (d : Name) → i < length before → get_or before i d ≢ n
absent n [] h i d lt e = omega arith
absent n (x ∷ xs) h zero d lt e =
    true≢false (sym ((bytes_eq-Decides n x).1 (sym e)) ∙ (neither (bytes_eq n x) (list_any (bytes_eq n) xs) h).0)
absent n (x ∷ xs) h (suc i) d lt e =
    absent n xs (neither (bytes_eq n x) (list_any (bytes_eq n) xs) h).1 i d (omega arith) e

-- each name after those before it
later : (before ns : List Name) → repeats_after before ns ≡ false → (i j : ℕ) (d : Name) → i < j → length before ≤ j → j < length (before ++ ns) → get_or (before ++ ns) i d ≢ get_or (before ++ ns) j d
later before [] h i j d lt le below e = omega (arith, ap (λ (xs : List Name). length xs) (append-nil before))
later before (n ∷ ns) h i j d lt le below e =
    let both = neither (list_any (bytes_eq n) before) (repeats_after (before ++ n ∷ []) ns) h in
    let joined : (before ++ n ∷ []) ++ ns ≡ before ++ n ∷ ns = append_assoc before (n ∷ []) ns in
    ⊎_elim
    (λ beyond. later (before ++ n ∷ []) ns both.1 i j d lt (omega (arith, length-append before (n ∷ []))) (omega (arith, ap length joined))
    (ap (λ (xs : List Name). get_or xs i d) joined ∙ e ∙ ap (λ (xs : List Name). get_or xs j d) (sym joined)))
    (λ near.
    let here : j ≡ length before = omega arith in
    absent n before both.0 i d (omega arith)
    (sym (get_or_append_left before (n ∷ ns) d i (omega arith)) ∙ e ∙ ap (λ (k : ℕ). get_or (before ++ n ∷ ns) k d) here ∙ get_or-append_seam before n ns d))
    (cases_lt (length before) j)

pub differ : (ns : List Name) → has_repeats ns ≡ false → AllPairs (λ a b. a ≢ b) ns
differ ns h = λ i j d lt below. later [] ns h i j d lt (omega arith) below
