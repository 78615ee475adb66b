-- Values in a row: those that are left from an index on, and the trees of all of them.
use Rattle.std.proofs.Common.{◌≡◌, ◌<◌, ◌+◌, ◌∙◌, List, [], ◌∷◌, ap, arith, drop, get_or, inl, inr, length, refl, subst, suc, sym, zero, ℕ}
use Rattle.canon_lowering.specs.Copies.{copies}
use Rattle.canon_model.specs.Shape.{Shape}
use Rattle.canon_model.specs.Tree.{Tree, Trees, no_trees, tree, tree_count, trees_of}
use Rattle.canon_plan.proofs.Lookups.{drop_at}
use Rattle.canon_typed.specs.Meaning.{EachMeans, ListMeans, RowMeans}
use Rattle.canon_lower_parts.specs.Blames.{SomeMember, SomePart, SomeTree}

-- ---- lists from an index on

drop_suc : {A : Type 0} (xs : List A) (k : ℕ) → drop (suc k) xs ≡ drop 1 (drop k xs)
drop_suc [] zero = refl
drop_suc [] (suc k) = refl
drop_suc (x ∷ xs) zero = refl
drop_suc (x ∷ xs) (suc k) = drop_suc xs k

drop_next : {A : Type 0} (xs : List A) (k : ℕ) → drop (k + 1) xs ≡ drop 1 (drop k xs)
drop_next xs k = let one : k + 1 ≡ suc k = omega arith in ap (λ n. drop n xs) one ∙ drop_suc xs k

pub next_same : {A : Type 0} (xs ys : List A) (k : ℕ) → drop k xs ≡ drop k ys → drop (k + 1) xs ≡ drop (k + 1) ys
next_same xs ys k e = drop_next xs k ∙ (ap (λ zs. drop 1 zs) e ∙ sym (drop_next ys k))

-- the value of number k, where those from k on are as at the start
pub here_at : {A : Type 0} (xs ys : List A) (k : ℕ) (d x : A) → drop k xs ≡ drop k ys → x ≡ get_or xs k d → k < length xs → drop k ys ≡ x ∷ drop (k + 1) ys
here_at xs ys k d x e is lt = sym e ∙ (drop_at xs k d x is lt ∙ ap (λ zs. x ∷ zs) (next_same xs ys k e))

-- where some are left
pub left_next : {A : Type 0} (xs rest : List A) (k : ℕ) (x : A) → drop k xs ≡ x ∷ rest → drop (k + 1) xs ≡ rest
left_next xs rest k x e = drop_next xs k ∙ ap (λ zs. drop 1 zs) e

pub left_below : {A : Type 0} (xs rest : List A) (k : ℕ) (x : A) → drop k xs ≡ x ∷ rest → k < length xs
left_below [] rest zero x e = cc
left_below [] rest (suc k) x e = cc
left_below (y ∷ xs) rest zero x e = omega arith
left_below (y ∷ xs) rest (suc k) x e = omega (arith, left_below xs rest k x e)

-- ---- each has a tree

pub lower_each_count : {A : Type 0} (Walks : A → Tree → Type 0) (xs : List A) (ts : Trees) → EachMeans Walks xs ts → tree_count ts ≡ length xs
lower_each_count Walks [] ts e = ap tree_count e
lower_each_count Walks (x ∷ xs) ts (t, rest, is, has, each) = ap tree_count is ∙ ap suc (lower_each_count Walks xs rest each)

pub lower_list_trees : {A : Type 0} (Walks : A → Tree → Type 0) (xs : List A) (t : Tree) → ListMeans Walks xs t → EachMeans Walks xs (trees_of t)
lower_list_trees Walks xs t (ts, is, each) = subst (EachMeans Walks xs) (sym (ap trees_of is)) each

pub row_trees : {A : Type 0} (Walks : A → Tree → Type 0) (xs : List A) (t : Tree) → RowMeans Walks xs t → EachMeans Walks xs (trees_of t)
row_trees Walks xs t (ts, is, each) = subst (EachMeans Walks xs) (sym (ap trees_of is)) each

-- ---- one of them is so

pub row_some : (P : Shape → Tree → Type 0) (n : ℕ) (s : Shape) (ts : Trees) → SomeMember P (copies n s) ts → SomeTree (λ u. SomePart P s u) ts
row_some P zero s no_trees h = absurd h
row_some P zero s (tree t ts) h = absurd h
row_some P (suc n) s no_trees h = absurd h
row_some P (suc n) s (tree t ts) (inl h) = inl h
row_some P (suc n) s (tree t ts) (inr h) = inr (row_some P n s ts h)

pub some_row : (P : Shape → Tree → Type 0) (n : ℕ) (s : Shape) (ts : Trees) → tree_count ts ≡ n → SomeTree (λ u. SomePart P s u) ts → SomeMember P (copies n s) ts
some_row P n s no_trees count h = absurd h
some_row P zero s (tree t ts) count h = absurd (omega (arith, count))
some_row P (suc n) s (tree t ts) count (inl h) = inl h
some_row P (suc n) s (tree t ts) count (inr h) = inr (some_row P n s ts (omega (arith, count)) h)
