-- The line of a function, and the lines of those after it.
use Rattle.std.proofs.Common.{◌≡◌, ◌<◌, ◌+◌, ◌++◌, ℕ, zero, suc, List, [], ◌∷◌, length, drop, Option, Some, refl, ap, sym, subst, ◌∙◌, arith, append_assoc}
use Rattle.std.specs.Prelude.{IfSome, slice_get}
use Rattle.canon_types.specs.Table.{TypeTable}
use Rattle.canon_types.specs.declared.types.TypeFunc.{TypeFunc}
use Rattle.canon_layout.specs.Lines.{func_line, func_lines}

-- the element at a place, and those after it
record NextLine {A : Type 0} (xs : List A) (i : ℕ) : Type 0 where
  one : A
  here : slice_get xs i ≡ Some one
  rest : drop i xs ≡ one ∷ drop (i + 1) xs

next : {A : Type 0} (xs : List A) (i : ℕ) → i < length xs → NextLine xs i
next [] i lt = absurd (omega arith)
next (x ∷ xs) zero lt = record { one = x; here = refl; rest = refl }
next (x ∷ xs) (suc i) lt =
    let n = next xs i (omega arith) in
    let e : suc (i + 1) ≡ suc i + 1 = omega arith in
    record { one = n.one; here = n.here; rest = n.rest ∙ ap (λ k. n.one ∷ drop k (x ∷ xs)) e }

pub funcs_more : (t : TypeTable) (i k : ℕ) (text text' whole : List ℕ) → k ≡ i → k < length t.funcs → IfSome (slice_get t.funcs k) (λ f. text' ≡ text ++ func_line t k f)
    → text ++ func_lines t i (drop i t.funcs) ≡ whole → text' ++ func_lines t (i + 1) (drop (i + 1) t.funcs) ≡ whole
funcs_more t i k text text' whole same lt printed e =
    let n = next t.funcs i (omega arith) in
    let at : slice_get t.funcs k ≡ Some n.one = ap (slice_get t.funcs) same ∙ n.here in
    let line : text' ≡ text ++ func_line t k n.one = subst (λ (o : Option TypeFunc). IfSome o (λ f. text' ≡ text ++ func_line t k f)) at printed in
    let rest = func_lines t (i + 1) (drop (i + 1) t.funcs) in
    ap (λ s. s ++ rest) (line ∙ ap (λ j. text ++ func_line t j n.one) same)
    ∙ (append_assoc text (func_line t i n.one) rest ∙ (ap (λ fs. text ++ func_lines t i fs) (sym n.rest) ∙ e))
