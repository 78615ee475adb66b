-- Writes at a place of a destination whose front is written.
use Rattle.std.proofs.Common.{List, ap, append_assoc, ap₂, arith, drop, length, length-drop, sym, take, ℕ, ◌++◌, ◌+◌, ◌∙◌, ◌≡◌, ◌≤◌}
use Rattle.std.proofs.lemmas.List.{append-nil, drop-drop, drop_all, drop_at, length-append, take_at}
use Rattle.canon_text.specs.Writing.{over, placed}

pub over-more : (old now new front items : List ℕ) (at : ℕ) → now ≡ over old front → at ≡ length front → new ≡ placed now at items → new ≡ over old (front ++ items)
over-more old now new front items at e h w =
    let kept : take at now ≡ front = ap (λ l. take at l) e ∙ take_at front (drop (length front) old) at (sym h) in
    let behind : drop at now ≡ drop (length front) old = ap (λ l. drop at l) e ∙ drop_at front (drop (length front) old) at (sym h) in
    let left : drop (at + length items) now ≡ drop (length (front ++ items)) old =
    sym (drop-drop (length items) at now) ∙ ap (λ l. drop (length items) l) behind ∙ drop-drop (length items) (length front) old ∙ ap (λ n. drop n old) (sym (length-append front items)) in
    w ∙ ap₂ (λ a b. a ++ (items ++ b)) kept left ∙ sym (append_assoc front items (drop (length (front ++ items)) old))

pub over_all : (old front : List ℕ) → length old ≤ length front → over old front ≡ front
over_all old front h = ap (λ l. front ++ l) (drop_all (length front) old h) ∙ append-nil front

pub length-over : (old front : List ℕ) → length front ≤ length old → length (over old front) ≡ length old
length-over old front h = omega (arith, length-append front (drop (length front) old), length-drop (length front) old)
