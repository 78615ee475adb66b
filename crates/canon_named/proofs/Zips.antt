-- Two lists in step, one place more, and a place that is found.
use Rattle.std.proofs.Common.{◌≡◌, ◌<◌, ◌+◌, ◌++◌, List, [], ◌∷◌, Err, Ok, OnErr, OnOk, Result, arith, get_or, inl, inr, length, subst, suc, sym, take, zero, ℕ}
use Rattle.std.specs.List.{AllZip}
use Rattle.std.proofs.lemmas.List.{take_more}
use Rattle.canon_named.specs.Named.{AnyZip}

module _ {A B : Type 0} (R : A → B → Type 0) where
  all_push : (xs : List A) (ys : List B) (x : A) (y : B) → AllZip R xs ys → R x y → AllZip R (xs ++ x ∷ []) (ys ++ y ∷ [])
  all_push [] [] x y a h = (h, tt)
  all_push [] (z ∷ ys) x y a h = absurd a
  all_push (z ∷ xs) [] x y a h = absurd a
  all_push (z ∷ xs) (w ∷ ys) x y a h = (a.0, all_push xs ys x y a.1 h)

  -- as far as one place more
  pub all_more : (xs : List A) (ys : List B) (k : ℕ) (d x : A) (e y : B) → k < length xs → k < length ys → get_or xs k d ≡ x → get_or ys k e ≡ y
      → AllZip R (take k xs) (take k ys) → R x y → AllZip R (take (k + 1) xs) (take (k + 1) ys)
  all_more xs ys k d x e y l m is same a h =
      subst (λ (us : List A). AllZip R us (take (k + 1) ys)) (sym (take_more xs k d l))
      (subst (λ (vs : List B). AllZip R (take k xs ++ get_or xs k d ∷ []) vs) (sym (take_more ys k e m))
      (all_push (take k xs) (take k ys) (get_or xs k d) (get_or ys k e) a
      (subst (λ (u : A). R u (get_or ys k e)) (sym is) (subst (λ (v : B). R x v) (sym same) h))))

  -- at this place
  pub any_at : (xs : List A) (ys : List B) (k : ℕ) (d x : A) (e y : B) → k < length xs → k < length ys → get_or xs k d ≡ x → get_or ys k e ≡ y → R x y → AnyZip R xs ys
  any_at [] ys k d x e y l m is same h = absurd (omega (arith, l))
  any_at (z ∷ xs) [] k d x e y l m is same h = absurd (omega (arith, m))
  any_at (z ∷ xs) (w ∷ ys) zero d x e y l m is same h = inl (subst (λ (u : A). R u w) (sym is) (subst (λ (v : B). R x v) (sym same) h))
  any_at (z ∷ xs) (w ∷ ys) (suc k) d x e y l m is same h = inr (any_at xs ys k d x e y (omega (arith, l)) (omega (arith, m)) is same h)

-- what holds, holds on an error
pub on_err : {V E P : Type 0} (r : Result V E) → P → OnErr r P
on_err (Ok v) p = tt
on_err (Err e) p = p

-- what follows on a value, and on an error
pub on_ok_then : {V E P Q : Type 0} (r : Result V E) → (P → Q) → OnOk r P → OnOk r Q
on_ok_then (Ok v) f p = f p
on_ok_then (Err e) f p = tt

pub on_err_then : {V E P Q : Type 0} (r : Result V E) → (P → Q) → OnErr r P → OnErr r Q
on_err_then (Ok v) f p = tt
on_err_then (Err e) f p = f p
