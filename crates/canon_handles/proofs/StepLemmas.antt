-- Lemmas on a list that is written at a place, and on counts.
use Rattle.std.proofs.Common.{◌≡◌, ◌≢◌, ℕ, zero, suc, ◌+◌, ◌<◌, ◌≤◌, Bool, true, false, List, [], ◌∷◌, ◌++◌, length, get_or, Option, Some, None, refl, ap, arith, sum_by}
use Rattle.std.proofs.Math.ListN.{set}
use Rattle.std.proofs.lemmas.List.Sums.{sum_by-cons}
use Rattle.canon_handles.specs.Step.{put, one_if}

pub length-put : {A : Type 0} (xs : List A) (i : ℕ) (x : A) → i < length xs → length (put xs i x) ≡ length xs
length-put [] i x h = absurd (omega arith)
length-put (y ∷ ys) zero x h = refl
length-put (y ∷ ys) (suc i) x h = let e = length-put ys i x (omega arith) in omega arith

pub length-put_end : {A : Type 0} (xs : List A) (i : ℕ) (x : A) → i ≡ length xs → length (put xs i x) ≡ length xs + 1
length-put_end [] i x h = refl
length-put_end (y ∷ ys) zero x h = absurd (omega arith)
length-put_end (y ∷ ys) (suc i) x h = let e = length-put_end ys i x (omega arith) in omega arith

pub put_end : {A : Type 0} (xs : List A) (x : A) → put xs (length xs) x ≡ xs ++ x ∷ []
put_end [] x = refl
put_end (y ∷ ys) x = ap (λ l. y ∷ l) (put_end ys x)

pub put_within : {A : Type 0} (xs : List A) (i : ℕ) (x : A) → i < length xs → put xs i x ≡ set xs i x
put_within [] i x h = absurd (omega arith)
put_within (y ∷ ys) zero x h = refl
put_within (y ∷ ys) (suc i) x h = ap (λ l. y ∷ l) (put_within ys i x (omega arith))

pub get_or-put_same : {A : Type 0} (xs : List A) (i : ℕ) (x d : A) → i ≤ length xs → get_or (put xs i x) i d ≡ x
get_or-put_same [] zero x d h = refl
get_or-put_same [] (suc i) x d h = absurd (omega arith)
get_or-put_same (y ∷ ys) zero x d h = refl
get_or-put_same (y ∷ ys) (suc i) x d h = get_or-put_same ys i x d (omega arith)

pub get_or-put_other : {A : Type 0} (xs : List A) (i j : ℕ) (x d : A) → i ≤ length xs → j ≢ i → get_or (put xs i x) j d ≡ get_or xs j d
get_or-put_other [] zero zero x d h ne = absurd (ne refl)
get_or-put_other [] zero (suc j) x d h ne = refl
get_or-put_other [] (suc i) j x d h ne = absurd (omega arith)
get_or-put_other (y ∷ ys) zero zero x d h ne = absurd (ne refl)
get_or-put_other (y ∷ ys) zero (suc j) x d h ne = refl
get_or-put_other (y ∷ ys) (suc i) zero x d h ne = refl
get_or-put_other (y ∷ ys) (suc i) (suc j) x d h ne = get_or-put_other ys i j x d (omega arith) (λ e. ne (ap suc e))

pub sum_by-put : {A : Type 0} (f : A → ℕ) (xs : List A) (i : ℕ) (x d : A) → f d ≡ 0 → sum_by f (put xs i x) + f (get_or xs i d) ≡ sum_by f xs + f x
sum_by-put f [] zero x d z = omega arith
sum_by-put f [] (suc i) x d z = omega arith
sum_by-put f (y ∷ ys) zero x d z =
    let a : sum_by f (put (y ∷ ys) 0 x) ≡ f x + sum_by f ys = sum_by-cons f x ys in
    let b : sum_by f (y ∷ ys) ≡ f y + sum_by f ys = sum_by-cons f y ys in
    let c : f (get_or (y ∷ ys) 0 d) ≡ f y = refl in
    omega arith
sum_by-put f (y ∷ ys) (suc i) x d z =
    let e = sum_by-put f ys i x d z in
    let a : sum_by f (put (y ∷ ys) (suc i) x) ≡ f y + sum_by f (put ys i x) = sum_by-cons f y (put ys i x) in
    let b : sum_by f (y ∷ ys) ≡ f y + sum_by f ys = sum_by-cons f y ys in
    let c : f (get_or (y ∷ ys) (suc i) d) ≡ f (get_or ys i d) = refl in
    omega arith

-- what stands in a list of options stands within it
pub some_within : {A : Type 0} (xs : List (Option A)) (i : ℕ) (x : A) → get_or xs i None ≡ Some x → i < length xs
some_within [] i x e = absurd (cc)
some_within (y ∷ ys) zero x e = omega arith
some_within (y ∷ ys) (suc i) x e = let h = some_within ys i x e in omega arith

pub get_or_past_end : {A : Type 0} (xs : List A) (i : ℕ) (d : A) → length xs ≤ i → get_or xs i d ≡ d
get_or_past_end [] i d h = refl
get_or_past_end (y ∷ ys) zero d h = absurd (omega arith)
get_or_past_end (y ∷ ys) (suc i) d h = get_or_past_end ys i d (omega arith)

pub one_if-true : (b : Bool) → b ≡ true → one_if b ≡ 1
one_if-true true e = refl
one_if-true false e = absurd (cc)

pub one_if-false : (b : Bool) → b ≡ false → one_if b ≡ 0
one_if-false false e = refl
one_if-false true e = absurd (cc)

pub true-one_if : (b : Bool) → 1 ≤ one_if b → b ≡ true
true-one_if true h = refl
true-one_if false h = absurd (omega arith)
