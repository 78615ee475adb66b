-- Rows of values, of asks and of calls.
use Rattle.std.proofs.Common.{All, Err, List, Ok, Result, [], ap, arith, drop, length, map, refl, subst, subst₂, suc, sym, take, zero, ℕ, ◌+◌, ◌++◌, ◌<◌, ◌≤◌, ◌∙◌, ◌∷◌, ◌≡◌}
use Rattle.std.specs.Prelude.{slice_index_or}
use Rattle.std.proofs.lemmas.List.{take_more}
use Rattle.std.proofs.lemmas.List.Elements.{All-head, All-tail}
use Rattle.canon_recording_parts.proofs.Reading.{recording_row_go_on}
use Rattle.canon_recording_parts.proofs.Writing.{each_added, each_long, long_along, row_added, row_all, row_long}
use Rattle.canon_recording_parts.specs.Format.{Format, IsFormat, exactly, for_each, in_a_row}
use Rattle.canon_recording_parts.specs.Events.{raw}
use Rattle.canon_recording_parts.specs.Read.{IsReadSoFar, ReadsFormat}
use Rattle.canon_recording_parts.specs.Written.{IsAdded, WritesFormat}
use Rattle.canon_recording_parts.specs.declared.error.ReplayError.{ReplayError}

-- ---- lists

take_whole : {A : Type 0} (xs : List A) → take (length xs) xs ≡ xs
take_whole [] = refl
take_whole (x ∷ xs) = ap (λ l. x ∷ l) (take_whole xs)

pub split_at : {A : Type 0} (xs : List A) (n : ℕ) (a : A) → n < length xs → slice_index_or xs n a ≡ a → take n xs ++ a ∷ drop (suc n) xs ≡ xs
split_at [] n a h e = absurd (omega (arith, h))
split_at (x ∷ xs) zero a h e = ap (λ i. i ∷ xs) (sym e)
split_at (x ∷ xs) (suc n) a h e = ap (λ l. x ∷ l) (split_at xs n a (omega (arith, h)) e)

pub take_next : {A : Type 0} (xs : List A) (n : ℕ) (a : A) → n < length xs → slice_index_or xs n a ≡ a → take n xs ++ a ∷ [] ≡ take (n + 1) xs
take_next xs n a h e = ap (λ i. take n xs ++ i ∷ []) (sym e) ∙ sym (take_more xs n a h)

pub map_length : {A B : Type 0} (f : A → B) (xs : List A) → length (map f xs) ≡ length xs
map_length f [] = refl
map_length f (x ∷ xs) = ap suc (map_length f xs)

pub map_at : {A B : Type 0} (f : A → B) (xs : List A) (n : ℕ) (a : A) → n < length xs → slice_index_or xs n a ≡ a → slice_index_or (map f xs) n (f a) ≡ f a
map_at f [] n a h e = absurd (omega (arith, h))
map_at f (x ∷ xs) zero a h e = ap f e
map_at f (x ∷ xs) (suc n) a h e = map_at f xs n a (omega (arith, h)) e

map_more : {A B : Type 0} (f : A → B) (xs : List A) (a : A) → map f (xs ++ a ∷ []) ≡ map f xs ++ f a ∷ []
map_more f [] a = refl
map_more f (x ∷ xs) a = ap (λ l. f x ∷ l) (map_more f xs a)

-- ---- one thing for each of a list

module _ {I A : Type 0} (F : I → Format A) (sound : (i : I) → IsFormat (F i)) (is : List I) (things : List A) (old : List ℕ) where
  pub some_added : (now new : List ℕ) (n : ℕ) (i : I) (a : A) → n < length is → length things ≡ length is → slice_index_or is n i ≡ i → slice_index_or things n a ≡ a
      → IsAdded (for_each F (take n is)) (take n things) old now → WritesFormat (F i) a now new (Ok tt) → IsAdded (for_each F (take (n + 1) is)) (take (n + 1) things) old new
  some_added now new n i a more same ie ae r h = subst₂ (λ js xs. IsAdded (for_each F js) xs old new) (take_next is n i more ie) (take_next things n a (omega (arith, more, same)) ae)
      (each_added F sound old now new (take n is) i (take n things) a r h)

  pub some_long : (now new end : List ℕ) (n : ℕ) (i : I) (a : A) (e : ReplayError) → n < length is → length things ≡ length is → slice_index_or is n i ≡ i → slice_index_or things n a ≡ a
      → IsAdded (for_each F (take n is)) (take n things) old now → WritesFormat (F i) a now new (Err e) → WritesFormat (for_each F is) things old end (Err e)
  some_long now new end n i a e more same ie ae r h = subst₂ (λ js xs. WritesFormat (for_each F js) xs old end (Err e)) (split_at is n i more ie) (split_at things n a (omega (arith, more, same)) ae)
      (each_long F sound old now new end (take n is) i (drop (suc n) is) (take n things) a (drop (suc n) things) e r h)

  pub some_all : (now : List ℕ) (n : ℕ) → n ≡ length is → length things ≡ length is → IsAdded (for_each F (take n is)) (take n things) old now → WritesFormat (for_each F is) things old now (Ok tt)
  some_all now n e same r = subst₂ (λ js xs. IsAdded (for_each F js) xs old now) (ap (λ k. take k is) e ∙ take_whole is) (ap (λ k. take k things) (e ∙ sym same) ∙ take_whole things) r

-- ---- so many in a row, as they are seen

module _ {X A : Type 0} (f : X → A) (F : Format A) where
  pub seen_go_on : (bs : List ℕ) (from mid to n : ℕ) (xs ys : List X) (x : X) → ys ≡ xs ++ x ∷ [] → IsReadSoFar (in_a_row F n) bs from mid (map f xs) → ReadsFormat F bs mid to (Ok (f x))
      → IsReadSoFar (in_a_row F (n + 1)) bs from to (map f ys)
  seen_go_on bs from mid to n xs ys x e r h = subst (IsReadSoFar (in_a_row F (n + 1)) bs from to) (sym (ap (map f) e ∙ map_more f xs x)) (recording_row_go_on F bs from mid to n (map f xs) (f x) r h)

  module _ (sound : IsFormat F) (xs : List X) (old : List ℕ) where
    pub seen_added : (now new : List ℕ) (n : ℕ) (x : X) → n < length xs → slice_index_or xs n x ≡ x → IsAdded (in_a_row F n) (take n (map f xs)) old now → WritesFormat F (f x) now new (Ok tt)
        → IsAdded (in_a_row F (n + 1)) (take (n + 1) (map f xs)) old new
    seen_added now new n x more e r h = row_added F sound (map f xs) old now new n (f x) (omega (arith, more, map_length f xs)) (map_at f xs n x more e) r h

    pub seen_long : (now new end : List ℕ) (n : ℕ) (x : X) (err : ReplayError) → n < length xs → slice_index_or xs n x ≡ x → IsAdded (in_a_row F n) (take n (map f xs)) old now
        → WritesFormat F (f x) now new (Err err) → WritesFormat (in_a_row F (length xs)) (map f xs) old end (Err err)
    seen_long now new end n x err more e r h = subst (λ k. WritesFormat (in_a_row F k) (map f xs) old end (Err err)) (map_length f xs)
        (row_long F sound (map f xs) old now new end n (f x) err (omega (arith, more, map_length f xs)) (map_at f xs n x more e) r h)

    pub seen_all : (now : List ℕ) (n : ℕ) → n ≡ length xs → IsAdded (in_a_row F n) (take n (map f xs)) old now → WritesFormat (in_a_row F (length xs)) (map f xs) old now (Ok tt)
    seen_all now n e r = subst (λ k. WritesFormat (in_a_row F k) (map f xs) old now (Ok tt)) (map_length f xs) (row_all F sound (map f xs) old now n (e ∙ sym (map_length f xs)) r)

pub all_at : {X A : Type 0} (f : X → A) (P : A → Type 0) (xs : List X) (n : ℕ) (x : X) → n < length xs → slice_index_or xs n x ≡ x → All P (map f xs) → P (f x)
all_at f P [] n x h e all = absurd (omega (arith, h))
all_at f P (y ∷ xs) zero x h e all = subst (λ i. P (f i)) e (All-head P (f y) (map f xs) all)
all_at f P (y ∷ xs) (suc n) x h e all = all_at f P xs n x (omega (arith, h)) e (All-tail P (f y) (map f xs) all)

pub take_all : {A : Type 0} (xs : List A) (n : ℕ) → length xs ≤ n → take n xs ≡ xs
take_all [] zero h = refl
take_all [] (suc n) h = refl
take_all (x ∷ xs) zero h = absurd (omega (arith, h))
take_all (x ∷ xs) (suc n) h = ap (λ l. x ∷ l) (take_all xs n (omega (arith, h)))

-- these very bytes were written
pub exact : (xs old new : List ℕ) (result : Result (Unit {0}) ReplayError) → WritesFormat (raw (length xs)) xs old new result → WritesFormat (exactly xs) tt old new result
exact xs old new (Ok done) h = record { xs = h.xs; is = h.is; written = h.written.1; few = h.few }
exact xs old new (Err e) h = long_along (raw (length xs)) (exactly xs) xs tt old old new new e (λ ys w. (ys, (ap length w, w), omega arith)) h
