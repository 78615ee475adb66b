-- Lemmas on the values of a function from a number on, on what is left of a stack, and on answers.
use Rattle.std.proofs.Common.{◌≡◌, ◌≢◌, ℕ, zero, suc, ◌+◌, ◌-◌, ◌<◌, ◌≤◌, max, true, cond, List, [], ◌∷◌, ◌++◌, length, get_or, take, reverse, Option, Some, None, is_some, Ok, Err, Result, is_ok, OnOk, IsOk, slice_get, refl, sym, ap, ◌∙◌, arith, ◌⊎◌, inl, inr}
use Rattle.std.proofs.lemmas.List.{reverse-append}
use Rattle.canon_handles.specs.Step.{put}
use Rattle.canon_handles.specs.Table.{other_entries}
use Rattle.canon_handles.specs.Cells.{values_from}
use Rattle.canon_handles.proofs.StepLemmas.{length-put, length-put_end, get_or-put_same, get_or-put_other, get_or_past_end}
use Rattle.canon_handles.proofs.TableLemmas.{equal_or_not}

pub length-values : {A : Type 0} (f : ℕ → A) (a n : ℕ) → length (values_from f a n) ≡ n
length-values f a zero = refl
length-values f a (suc n) = ap suc (length-values f (suc a) n)

get_or-values : {A : Type 0} (f : ℕ → A) (a n j : ℕ) (d : A) → j < n → get_or (values_from f a n) j d ≡ f (a + j)
get_or-values f a zero j d h = absurd (omega arith)
get_or-values f a (suc n) zero d h = let e : a ≡ a + 0 = omega arith in ap f e
get_or-values f a (suc n) (suc j) d h = get_or-values f (suc a) n j d (omega arith) ∙ (let e : suc a + j ≡ a + suc j = omega arith in ap f e)

pub value_at : {A : Type 0} (f : ℕ → A) (n j : ℕ) (d : A) → j < n → get_or (values_from f 0 n) j d ≡ f j
value_at f n j d h = get_or-values f 0 n j d h ∙ (let e : 0 + j ≡ j = omega arith in ap f e)

pub value_past : {A : Type 0} (f : ℕ → A) (n j : ℕ) (d : A) → n ≤ j → get_or (values_from f 0 n) j d ≡ d
value_past f n j d h = get_or_past_end (values_from f 0 n) j d (let l = length-values f 0 n in omega arith)

same_list : {A : Type 0} (d : A) (xs ys : List A) → length xs ≡ length ys → ((j : ℕ) → get_or xs j d ≡ get_or ys j d) → xs ≡ ys
same_list d [] [] e h = refl
same_list d [] (y ∷ ys) e h = absurd (omega arith)
same_list d (x ∷ xs) [] e h = absurd (omega arith)
same_list d (x ∷ xs) (y ∷ ys) e h = λ i. h 0 i ∷ same_list d xs ys (omega arith) (λ j. h (suc j)) i

pub below_or_not : (a b : ℕ) → (a < b) ⊎ (b ≤ a)
below_or_not a b = grind arith

-- a list is written at place i, and has the same number of places after it or one more
put_length : {A : Type 0} (xs : List A) (i : ℕ) (x : A) → i ≤ length xs → length (put xs i x) ≡ max (length xs) (suc i)
put_length xs i x h = elim (equal_or_not i (length xs)) as (λ _. length (put xs i x) ≡ max (length xs) (suc i)) [
  | inl e ↦ (let l = length-put_end xs i x e in omega arith)
  | inr ne ↦ (let l = length-put xs i x (omega arith) in omega arith)
]

-- the values after one is written
pub values_put : {A : Type 0} (f g : ℕ → A) (i n : ℕ) (x d : A) → i ≤ n → ((q : ℕ) → q ≢ i → g q ≡ f q) → g i ≡ x
    → values_from g 0 (max n (suc i)) ≡ put (values_from f 0 n) i x
values_put f g i n x d place else here =
    let ln = length-values f 0 n in
    let lp = put_length (values_from f 0 n) i x (omega arith) in
    let lg = length-values g 0 (max n (suc i)) in
    same_list d (values_from g 0 (max n (suc i))) (put (values_from f 0 n) i x) (omega arith) (λ j.
    elim (equal_or_not j i) as (λ _. get_or (values_from g 0 (max n (suc i))) j d ≡ get_or (put (values_from f 0 n) i x) j d) [
      | inl at ↦
          value_at g (max n (suc i)) j d (omega arith) ∙ ap g at ∙ here
          ∙ sym (ap (λ (k : ℕ). get_or (put (values_from f 0 n) i x) k d) at ∙ get_or-put_same (values_from f 0 n) i x d (omega arith))
      | inr ne ↦
          (elim (below_or_not j n) as (λ _. get_or (values_from g 0 (max n (suc i))) j d ≡ get_or (values_from f 0 n) j d) [
            | inl lt ↦ value_at g (max n (suc i)) j d (omega arith) ∙ else j ne ∙ sym (value_at f n j d lt)
            | inr past ↦ value_past g (max n (suc i)) j d (omega arith) ∙ sym (value_past f n j d past)
          ]) ∙ sym (get_or-put_other (values_from f 0 n) i j x d (omega arith) ne)
    ])

pub no_items : (xs : List ℕ) → length xs ≡ 0 → xs ≡ []
no_items [] e = refl
no_items (x ∷ xs) e = absurd (omega arith)

nothing_at : (xs : List ℕ) (i : ℕ) → i < length xs → None ≡ slice_get xs i → ⊥
nothing_at [] i h e = absurd (omega arith)
nothing_at (x ∷ xs) zero h e = absurd (cc)
nothing_at (x ∷ xs) (suc i) h e = nothing_at xs i (omega arith) e

-- a stack without a top is empty
pub no_top : (xs : List ℕ) → None ≡ slice_get xs (length xs - 1) → length xs ≡ 0
no_top [] e = refl
no_top (x ∷ xs) e = absurd (nothing_at (x ∷ xs) (length (x ∷ xs) - 1) (omega arith) e)

-- the last of a list
last_split : (xs : List ℕ) (n : ℕ) → length xs ≡ suc n → xs ≡ take n xs ++ get_or xs n 0 ∷ []
last_split [] n e = absurd (omega arith)
last_split (x ∷ []) zero e = refl
last_split (x ∷ y ∷ ys) zero e = absurd (omega arith)
last_split (x ∷ []) (suc n) e = absurd (omega arith)
last_split (x ∷ y ∷ ys) (suc n) e = ap (λ l. x ∷ l) (last_split (y ∷ ys) n (omega arith))

-- what is left of a stack when its top is taken off
pub reverse_rest : (xs : List ℕ) (n : ℕ) → n ≡ length xs → reverse (take (n - 1) xs) ≡ other_entries (reverse xs)
reverse_rest [] n e = ap (λ (k : ℕ). reverse (take {A = ℕ} (k - 1) [])) e
reverse_rest (x ∷ xs) n e =
    let k : n - 1 ≡ length xs = omega arith in
    ap (λ (k : ℕ). reverse (take k (x ∷ xs))) k
    ∙ sym (ap other_entries (ap reverse (last_split (x ∷ xs) (length xs) refl) ∙ reverse-append (take (length xs) (x ∷ xs)) (get_or (x ∷ xs) (length xs) 0 ∷ [])))

pub never : {A : Type 0} (o : Option A) → None ≡ o → is_some o ≡ true → ⊥
never None e h = absurd (cc)
never (Some x) e h = absurd (cc)

pub from_ok : {A E : Type 0} (r : Result A E) (P : Type 0) → is_ok r ≡ true → OnOk r P → P
from_ok (Ok x) P e h = h
from_ok (Err d) P e h = absurd (cc)

-- what a push that succeeded leaves
pub pushed_on : {A E : Type 0} (r : Result A E) (xs ys : List ℕ) (x : ℕ) → IsOk r → ys ≡ cond (is_ok r) (xs ++ x ∷ []) xs → ys ≡ xs ++ x ∷ []
pushed_on r xs ys x ok is = is ∙ ap (λ b. cond b (xs ++ x ∷ []) xs) ok
