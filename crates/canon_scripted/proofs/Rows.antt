-- Rows of live blocks.
use Rattle.std.proofs.Common.{◌≡◌, ℕ, zero, suc, ◌+◌, ◌<◌, ◌≤◌, true, false, List, [], ◌∷◌, ◌++◌, length, take, drop, set, Some, ◌⊎◌, inl, inr, ⊎_elim, refl, sym, ap, ap₂, subst, ◌∙◌, add-one, arith, eq-eqb}
use Rattle.std.specs.List.{Contains, slice_get}
use Rattle.std.proofs.lemmas.Bool.{and_parts, and_from, cases_Bool, cond-true, cond-false, eqb-true, ne_eqb, both_ways, false≢true, or_left, or_right, or_cases}
use Rattle.std.proofs.lemmas.Option.{same_Some, none-some}
use Rattle.canon_model.specs.Memory.{Block}
use Rattle.canon_memory.specs.Realloc.{block}
use Rattle.canon_memory.specs.Watch.{is_block}
use Rattle.canon_scripted.specs.Allocator.{InRow, is_live, listed, with_block_resized}
use Rattle.canon_memory.proofs.Watch.{Among}

-- ---- a block is one of a list

pub among_from : (xs : List Block) (b : Block) → Contains xs b → Among xs b
among_from [] b (k, lt, e) = absurd (omega (arith, lt))
among_from (x ∷ xs) b (zero, lt, e) = inl e
among_from (x ∷ xs) b (suc k, lt, e) = inr (among_from xs b (k, omega (arith, lt), e))

pub among_to : (xs : List Block) (b : Block) → Among xs b → Contains xs b
among_to [] b h = absurd h
among_to (x ∷ xs) b (inl e) = (0, omega arith, e)
among_to (x ∷ xs) b (inr h) = let c = among_to xs b h in (suc c.0, omega (arith, c.1), c.2)

among_append_left : (xs ys : List Block) (b : Block) → Among xs b → Among (xs ++ ys) b
among_append_left [] ys b h = absurd h
among_append_left (x ∷ xs) ys b (inl e) = inl e
among_append_left (x ∷ xs) ys b (inr h) = inr (among_append_left xs ys b h)

among_append_right : (xs ys : List Block) (b : Block) → Among ys b → Among (xs ++ ys) b
among_append_right [] ys b h = h
among_append_right (x ∷ xs) ys b h = inr (among_append_right xs ys b h)

among_append : (xs ys : List Block) (b : Block) → Among (xs ++ ys) b → Among xs b ⊎ Among ys b
among_append [] ys b h = inr h
among_append (x ∷ xs) ys b (inl e) = inl (inl e)
among_append (x ∷ xs) ys b (inr h) = ⊎_elim (λ g. inl (inr g)) (λ g. inr g) (among_append xs ys b h)

pub among_got : (xs : List Block) (i : ℕ) (b : Block) → slice_get xs i ≡ Some b → Among xs b
among_got [] i b e = absurd (none-some b e)
among_got (x ∷ xs) zero b e = inl (same_Some x b e)
among_got (x ∷ xs) (suc i) b e = inr (among_got xs i b e)

-- ---- tests of a block

same_yes : (b c : Block) → is_block b c ≡ true → b ≡ c
same_yes b c e = let p = and_parts _ _ e in ap₂ block (eqb-true _ _ p.0) (eqb-true _ _ p.1)

same_from : (b c : Block) → b ≡ c → is_block b c ≡ true
same_from b c e = and_from _ _ (eq-eqb _ _ (ap (λ (x : Block). x.start) e)) (eq-eqb _ _ (ap (λ (x : Block). x.size) e))

same_no : (b c : Block) → is_block b c ≡ false → b ≡ c → ⊥
same_no b c f e = both_ways _ f (same_from b c e)

pub live_from : (xs : List Block) (b : Block) → Among xs b → is_live xs b ≡ true
live_from [] b h = absurd h
live_from (x ∷ xs) b (inl e) = or_left _ _ (same_from x b e)
live_from (x ∷ xs) b (inr h) = or_right _ _ (live_from xs b h)

pub live_among : (xs : List Block) (b : Block) → is_live xs b ≡ true → Among xs b
live_among [] b e = absurd (false≢true e)
live_among (x ∷ xs) b e = ⊎_elim (λ h. inl (same_yes x b h)) (λ h. inr (live_among xs b h)) (or_cases _ _ e)

-- ---- a list of one block, or of none

listed_none : (s n : ℕ) → n ≡ 0 → listed s n ≡ []
listed_none s n e = cond-true _ _ _ (eq-eqb n 0 e)

pub scripted_listed_some : (s n : ℕ) → 0 < n → listed s n ≡ block s n ∷ []
scripted_listed_some s n h = cond-false _ _ _ (ne_eqb n 0 (λ e. omega (arith, h, e)))

-- a fact of a list that holds of both
by_size : (s n : ℕ) (P : List Block → Type 0) → (n ≡ 0 → P []) → (0 < n → P (block s n ∷ [])) → P (listed s n)
by_size s n P f g = ⊎_elim (λ e. subst P (sym (listed_none s n e)) (f e)) (λ h. subst P (sym (scripted_listed_some s n h)) (g h)) (none_or_some n)
  where
    none_or_some : (k : ℕ) → (k ≡ 0) ⊎ (0 < k)
    none_or_some zero = inl refl
    none_or_some (suc k) = inr (omega arith)

pub listed_is : (s n : ℕ) (b : Block) → Among (listed s n) b → (b ≡ block s n) × (0 < n)
listed_is s n b = by_size s n (λ xs. Among xs b → (b ≡ block s n) × (0 < n)) (λ e h. absurd h) (λ some h. ⊎_elim (λ e. (sym e, some)) (λ k. absurd k) h)

listed_has : (s n : ℕ) → 0 < n → Among (listed s n) (block s n)
listed_has s n h = subst (λ xs. Among xs (block s n)) (sym (scripted_listed_some s n h)) (inl refl)

-- ---- rows

pub row_order : (f : ℕ) (xs : List Block) (t : ℕ) → InRow f xs t → f ≤ t
row_order f [] t h = h
row_order f (x ∷ xs) t h = omega (arith, h.0, row_order (x.start + x.size) xs t h.2)

row_lower : (f g : ℕ) (xs : List Block) (t : ℕ) → f ≤ g → InRow g xs t → InRow f xs t
row_lower f g [] t le h = omega (arith, le, h)
row_lower f g (x ∷ xs) t le h = (omega (arith, le, h.0), h.1, h.2)

pub row_more : (f : ℕ) (xs : List Block) (t u : ℕ) → t ≤ u → InRow f xs t → InRow f xs u
row_more f [] t u le h = omega (arith, le, h)
row_more f (x ∷ xs) t u le h = (h.0, h.1, row_more (x.start + x.size) xs t u le h.2)

row_listed : (f s n g : ℕ) (xs : List Block) (t : ℕ) → f ≤ s → s + n ≤ g → InRow g xs t → InRow f (listed s n ++ xs) t
row_listed f s n g xs t le room h = by_size s n (λ ys. InRow f (ys ++ xs) t)
    (λ e. row_lower f g xs t (omega (arith, le, room)) h)
    (λ some. (le, some, row_lower (s + n) g xs t room h))

-- a block at the top or above
pub row_add : (f : ℕ) (xs : List Block) (t s n : ℕ) → t ≤ s → InRow f xs t → InRow f (xs ++ listed s n) (s + n)
row_add f [] t s n le h = by_size s n (λ ys. InRow f ys (s + n)) (λ e. omega (arith, le, h)) (λ some. (omega (arith, le, h), some, omega arith))
row_add f (x ∷ xs) t s n le h = (h.0, h.1, row_add (x.start + x.size) xs t s n le h.2)

-- where a block of a row stands
pub row_place : (f : ℕ) (xs : List Block) (t : ℕ) (b : Block) → InRow f xs t → Among xs b → (f ≤ b.start) × (b.start + b.size ≤ t) × (0 < b.size)
row_place f [] t b h g = absurd g
row_place f (x ∷ xs) t b h (inl e) = subst (λ (y : Block). (f ≤ y.start) × (y.start + y.size ≤ t) × (0 < y.size)) e (h.0, row_order _ xs t h.2, h.1)
row_place f (x ∷ xs) t b h (inr g) = let p = row_place (x.start + x.size) xs t b h.2 g in (omega (arith, h.0, p.0), p.1, p.2)

-- the blocks after the first aren't the first
row_first : (f : ℕ) (x : Block) (xs : List Block) (t : ℕ) (b : Block) → InRow f (x ∷ xs) t → Among xs b → x ≡ b → ⊥
row_first f x xs t b h g e =
    let p = row_place (x.start + x.size) xs t b h.2 g in
    let s : x.start ≡ b.start = ap (λ (y : Block). y.start) e in
    omega (arith, h.1, p.0, s)

-- two blocks of a row are apart
pub row_apart : (f : ℕ) (xs : List Block) (t : ℕ) (b c : Block) (i : ℕ) → InRow f xs t → Among xs b → Among xs c → (b ≡ c → ⊥) → (b.start ≤ i) × (i < b.start + b.size) → (c.start ≤ i) × (i < c.start + c.size) → ⊥
row_apart f [] t b c i h g k other p q = g
row_apart f (x ∷ xs) t b c i h (inl e) (inl d) other p q = other (sym e ∙ d)
row_apart f (x ∷ xs) t b c i h (inl e) (inr k) other p q =
    let w = row_place (x.start + x.size) xs t c h.2 k in
    let s : x.start + x.size ≡ b.start + b.size = ap (λ (y : Block). y.start + y.size) e in
    omega (arith, w.0, s, p.1, q.0)
row_apart f (x ∷ xs) t b c i h (inr g) (inl d) other p q =
    let w = row_place (x.start + x.size) xs t b h.2 g in
    let s : x.start + x.size ≡ c.start + c.size = ap (λ (y : Block). y.start + y.size) d in
    omega (arith, w.0, s, q.1, p.0)
row_apart f (x ∷ xs) t b c i h (inr g) (inr k) other p q = row_apart (x.start + x.size) xs t b c i h.2 g k other p q

row_none : (f : ℕ) (xs : List Block) (t : ℕ) → InRow f xs t → t ≤ f → xs ≡ []
row_none f [] t h le = refl
row_none f (x ∷ xs) t h le = absurd (omega (arith, h.0, h.1, row_order (x.start + x.size) xs t h.2, le))

-- ---- a block of a row in another size

resized_first : (x b : Block) (xs : List Block) (n : ℕ) → is_block x b ≡ true → with_block_resized (x ∷ xs) b n ≡ listed b.start n ++ xs
resized_first x b xs n e = cond-true _ _ _ e

resized_later : (x b : Block) (xs : List Block) (n : ℕ) → is_block x b ≡ false → with_block_resized (x ∷ xs) b n ≡ x ∷ with_block_resized xs b n
resized_later x b xs n e = cond-false _ _ _ e

resized_from : (f : ℕ) (xs : List Block) (t i : ℕ) (b : Block) (n : ℕ) → InRow f xs t → slice_get xs i ≡ Some b → with_block_resized xs b n ≡ take i xs ++ listed b.start n ++ drop (suc i) xs
resized_from f [] t i b n h e = absurd (none-some b e)
resized_from f (x ∷ xs) t zero b n h e = resized_first x b xs n (same_from x b (same_Some x b e))
resized_from f (x ∷ xs) t (suc i) b n h e = ⊎_elim
    (λ s. absurd (row_first f x xs t b h (among_got xs i b e) (same_yes x b s)))
    (λ s. resized_later x b xs n s ∙ ap (λ ys. x ∷ ys) (resized_from (x.start + x.size) xs t i b n h.2 e))
    (cases_Bool (is_block x b))

-- as the code does it, at the block's place
pub resized_at : (f : ℕ) (xs : List Block) (t i : ℕ) (b : Block) (n : ℕ) → InRow f xs t → slice_get xs i ≡ Some b → with_block_resized xs b n ≡ take i xs ++ listed b.start n ++ drop (i + 1) xs
resized_at f xs t i b n h e = resized_from f xs t i b n h e ∙ ap (λ (k : ℕ). take i xs ++ listed b.start n ++ drop k xs) (sym (add-one i))

-- the top stays where the size isn't larger
pub row_smaller : (f : ℕ) (xs : List Block) (t : ℕ) (b : Block) (n : ℕ) → n ≤ b.size → InRow f xs t → InRow f (with_block_resized xs b n) t
row_smaller f [] t b n le h = h
row_smaller f (x ∷ xs) t b n le h = ⊎_elim
    (λ s. let e = same_yes x b s in
    let p : x.start ≡ b.start = ap (λ (y : Block). y.start) e in
    let q : x.size ≡ b.size = ap (λ (y : Block). y.size) e in
    subst (λ ys. InRow f ys t) (sym (resized_first x b xs n s)) (row_listed f b.start n (x.start + x.size) xs t (omega (arith, h.0, p)) (omega (arith, le, p, q)) h.2))
    (λ s. subst (λ ys. InRow f ys t) (sym (resized_later x b xs n s)) (h.0, h.1, row_smaller (x.start + x.size) xs t b n le h.2))
    (cases_Bool (is_block x b))

-- where the block ends at the top, the top is then its end
pub row_last : (f : ℕ) (xs : List Block) (t : ℕ) (b : Block) (n : ℕ) → Among xs b → b.start + b.size ≡ t → InRow f xs t → InRow f (with_block_resized xs b n) (b.start + n)
row_last f [] t b n g last h = absurd g
row_last f (x ∷ xs) t b n g last h = ⊎_elim
    (λ s. let e = same_yes x b s in
    let p : x.start ≡ b.start = ap (λ (y : Block). y.start) e in
    let q : x.start + x.size ≡ b.start + b.size = ap (λ (y : Block). y.start + y.size) e in
    let none : xs ≡ [] = row_none (x.start + x.size) xs t h.2 (omega (arith, q, last)) in
    let only : InRow f (listed b.start n ++ []) (b.start + n) = row_listed f b.start n (b.start + n) [] (b.start + n) (omega (arith, h.0, p)) (omega arith) (omega arith) in
    subst (λ ys. InRow f ys (b.start + n)) (sym (resized_first x b xs n s)) (subst (λ ys. InRow f (listed b.start n ++ ys) (b.start + n)) (sym none) only))
    (λ s. let later : Among xs b = ⊎_elim (λ e. absurd (same_no x b s e)) (λ k. k) g in
    subst (λ ys. InRow f ys (b.start + n)) (sym (resized_later x b xs n s)) (h.0, h.1, row_last (x.start + x.size) xs t b n later last h.2))
    (cases_Bool (is_block x b))

-- what lives after that
abbrev pub Lives : List Block → Block → ℕ → ℕ → Block → Type 0
Lives xs old s n c = (Among xs c × (c ≡ old → ⊥)) ⊎ ((c ≡ block s n) × (0 < n))

pub resized_lives : (f : ℕ) (xs : List Block) (t : ℕ) (b : Block) (n : ℕ) (c : Block) → InRow f xs t → Among (with_block_resized xs b n) c → Lives xs b b.start n c
resized_lives f [] t b n c h g = absurd g
resized_lives f (x ∷ xs) t b n c h g = ⊎_elim
    (λ s. ⊎_elim
    (λ k. inr (listed_is b.start n c k))
    (λ k. inl (inr k, λ e. row_first f x xs t c h k (same_yes x b s ∙ sym e)))
    (among_append (listed b.start n) xs c (subst (λ ys. Among ys c) (resized_first x b xs n s) g)))
    (λ s. ⊎_elim
    (λ e. inl (inl e, λ d. same_no x b s (e ∙ d)))
    (λ k. ⊎_elim (λ w. inl (inr w.0, w.1)) (λ w. inr w) (resized_lives (x.start + x.size) xs t b n c h.2 k))
    (subst (λ ys. Among ys c) (resized_later x b xs n s) g))
    (cases_Bool (is_block x b))

pub resized_keeps : (xs : List Block) (b : Block) (n : ℕ) (c : Block) → Among xs c → (c ≡ b → ⊥) → Among (with_block_resized xs b n) c
resized_keeps [] b n c g other = absurd g
resized_keeps (x ∷ xs) b n c g other = ⊎_elim
    (λ s. subst (λ ys. Among ys c) (sym (resized_first x b xs n s))
    (among_append_right (listed b.start n) xs c (⊎_elim (λ e. absurd (other (sym e ∙ same_yes x b s))) (λ k. k) g)))
    (λ s. subst (λ ys. Among ys c) (sym (resized_later x b xs n s))
    (⊎_elim (λ e. inl e) (λ k. inr (resized_keeps xs b n c k other)) g))
    (cases_Bool (is_block x b))

pub resized_new : (xs : List Block) (b : Block) (n : ℕ) → Among xs b → 0 < n → Among (with_block_resized xs b n) (block b.start n)
resized_new [] b n g some = absurd g
resized_new (x ∷ xs) b n g some = ⊎_elim
    (λ s. subst (λ ys. Among ys (block b.start n)) (sym (resized_first x b xs n s)) (among_append_left (listed b.start n) xs _ (listed_has b.start n some)))
    (λ s. subst (λ ys. Among ys (block b.start n)) (sym (resized_later x b xs n s))
    (inr (resized_new xs b n (⊎_elim (λ e. absurd (same_no x b s e)) (λ k. k) g) some)))
    (cases_Bool (is_block x b))

-- a block more
pub added_lives : (xs : List Block) (s n : ℕ) (c : Block) → Among (xs ++ listed s n) c → Among xs c ⊎ ((c ≡ block s n) × (0 < n))
added_lives xs s n c g = ⊎_elim (λ k. inl k) (λ k. inr (listed_is s n c k)) (among_append xs (listed s n) c g)

pub added_keeps : (xs : List Block) (s n : ℕ) (c : Block) → Among xs c → Among (xs ++ listed s n) c
added_keeps xs s n c g = among_append_left xs (listed s n) c g

pub added_new : (xs : List Block) (s n : ℕ) → 0 < n → Among (xs ++ listed s n) (block s n)
added_new xs s n some = among_append_right xs (listed s n) _ (listed_has s n some)

-- ---- as the code does it

-- a block is written over another
pub set_listed : (xs : List Block) (i s n : ℕ) → i < length xs → 0 < n → set xs i (block s n) ≡ take i xs ++ listed s n ++ drop (i + 1) xs
set_listed xs i s n lt some = parts xs i (block s n) lt ∙ ap₂ (λ (ys : List Block) (k : ℕ). take i xs ++ ys ++ drop k xs) (sym (scripted_listed_some s n some)) (sym (add-one i))
  where
    parts : (xs : List Block) (i : ℕ) (y : Block) → i < length xs → set xs i y ≡ take i xs ++ (y ∷ []) ++ drop (suc i) xs
    parts [] i y lt = absurd (omega (arith, lt))
    parts (x ∷ xs) zero y lt = refl
    parts (x ∷ xs) (suc i) y lt = ap (λ ys. x ∷ ys) (parts xs i y (omega (arith, lt)))
