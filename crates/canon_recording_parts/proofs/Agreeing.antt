-- Two formats which write the same bytes only for things that are so related, whatever follows.
use Rattle.std.proofs.Common.{List, [], ap, ap₂, length, refl, subst, subst₂, suc, sym, zero, ℕ, ◌++◌, ◌<◌, ◌∙◌, ◌∷◌, ◌≡◌}
use Rattle.std.specs.Prelude.{⊤}
use Rattle.canon_memory.specs.declared.event.Event.{Event}
use Rattle.canon_model.specs.Image.{le_bytes}
use Rattle.canon_model.proofs.ImageFields.{append_parts, field_front}
use Rattle.canon_recording_parts.proofs.Formats.{regroup}
use Rattle.canon_recording_parts.specs.Format.{Format, also, any_number, as_, before, counted_row, empty_list, exactly, for_each, in_a_row, number, prepend, sized_field, so_many, then_}
use Rattle.canon_recording_parts.specs.Events.{an_event, ask_event, byte_list, post_event, realloc_event, request, resume_event, return_event, start_event, tagged, two_numbers, word_list, words_and_memory}

-- no way of the one begins a way of the other, and what has the same bytes is related
abbrev pub Agree : {A B : Type 0} → Format A → Format B → (A → B → Type 0) → Type 0
Agree {A} {B} F G R = (a : A) (b : B) (xs ys more rest : List ℕ) → F.writes a xs → G.writes b ys → xs ++ more ≡ ys ++ rest → (xs ≡ ys) × (more ≡ rest) × R a b

-- ---- one behind the other, and in other words

module _ {A B C D : Type 0} (F : Format A) (G : Format B) (F2 : Format C) (G2 : Format D) (R : A → C → Type 0) (S : B → D → Type 0) where
  pub also_agree : Agree F F2 R → Agree G G2 S → Agree (also F G) (also F2 G2) (λ x y. R x.0 y.0 × S x.1 y.1)
  also_agree f g x y xs ys more rest (x1, x2, xe, h, h2) (y1, y2, ye, k, k2) e =
      let first = f x.0 y.0 x1 y1 (x2 ++ more) (y2 ++ rest) h k (regroup x1 x2 xs y1 y2 ys more rest xe ye e) in
      let second = g x.1 y.1 x2 y2 more rest h2 k2 first.1 in
      (xe ∙ ap₂ ◌++◌ first.0 second.0 ∙ sym ye, second.1, (first.2, second.2))

module _ {A B C D : Type 0} (f : A → B) (g : C → D) (F : Format A) (G : Format C) (R : A → C → Type 0) (S : B → D → Type 0) (one : (a : A) (c : C) → R a c → S (f a) (g c)) where
  pub as_agree : Agree F G R → Agree (as_ f F) (as_ g G) S
  as_agree h x y xs ys more rest (a, ae, w) (c, ce, v) e =
      let r = h a c xs ys more rest w v e in
      (r.0, r.1, subst₂ S (sym ae) (sym ce) (one a c r.2))

-- ---- fields

pub number_agree : (k : ℕ) (Good : ℕ → Type 0) → Agree (number k Good) (number k Good) (λ m n. m ≡ n)
number_agree k Good n m xs ys more rest (good, f) (also_good, g) e =
    let r = field_front k n m xs ys [] [] more rest f g e in
    (f.is ∙ ap (λ i. le_bytes k i ++ []) r.0 ∙ sym g.is, r.1, r.0)

module _ {A B : Type 0} (k : ℕ) (Good : ℕ → Type 0) (G : ℕ → Format A) (H : ℕ → Format B) (R : A → B → Type 0) where
  pub then_agree : ((n : ℕ) → Agree (G n) (H n) R) → Agree (then_ k Good G) (then_ k Good H) R
  then_agree agree x y xs ys more rest (n, x2, good, f, h) (m, y2, also_good, f2, h2) e =
      let r = field_front k n m xs ys x2 y2 more rest f f2 e in
      let s = agree n x y x2 y2 more rest h (subst (λ i. (H i).writes y y2) (sym r.0) h2) r.1 in
      (f.is ∙ ap₂ (λ i l. le_bytes k i ++ l) r.0 s.0 ∙ sym f2.is, s.1, s.2)

-- so many bytes that spell the one and the other
module _ {A B : Type 0} (Spell : A → List ℕ → Type 0) (Other : B → List ℕ → Type 0) (R : A → B → Type 0) (one : (a : A) (b : B) (bs : List ℕ) → Spell a bs → Other b bs → R a b) where
  block_agree : (n : ℕ) → Agree (sized_field Spell n) (sized_field Other n) R
  block_agree n a b xs ys more rest h k e =
      let r = append_parts xs ys more rest (h.0 ∙ sym k.0) e in
      (r.0, r.1, one a b xs h.1 (subst (Other b) (sym r.0) k.1))

  pub sized_agree : (k : ℕ) → Agree (then_ k (λ n. ⊤) (sized_field Spell)) (then_ k (λ n. ⊤) (sized_field Other)) R
  sized_agree k = then_agree k (λ n. ⊤) (sized_field Spell) (sized_field Other) R block_agree

pub exactly_agree : (letters : List ℕ) → Agree (exactly letters) (exactly letters) (λ u v. ⊤)
exactly_agree letters a b xs ys more rest h k e =
    let r = append_parts xs ys more rest (ap length (h ∙ sym k)) e in
    (r.0, r.1, tt)

-- ---- in a row

pub empty_agree : {A B : Type 0} (R : List A → List B → Type 0) → R [] [] → Agree (empty_list {A = A}) (empty_list {A = B}) R
empty_agree R base us vs xs ys more rest h k e =
    let r = append_parts xs ys more rest (ap length (h.1 ∙ sym k.1)) e in
    (r.0, r.1, subst₂ R (sym h.0) (sym k.0) base)

module _ {A B : Type 0} (F : Format A) (G : Format (List A)) (F2 : Format B) (G2 : Format (List B)) (R : A → B → Type 0) (T S : List A → List B → Type 0)
    (step : (a : A) (b : B) (us : List A) (vs : List B) → R a b → T us vs → S (a ∷ us) (b ∷ vs)) where
  pub before_agree : Agree F F2 R → Agree G G2 T → Agree (before F G) (before F2 G2) S
  before_agree f g = as_agree (prepend {A = A}) (prepend {A = B}) (also F G) (also F2 G2) (λ x y. R x.0 y.0 × T x.1 y.1) S
      (λ x y h. step x.0 y.0 x.1 y.1 h.0 h.1) (also_agree F G F2 G2 R T f g)

module _ {A B : Type 0} (F : Format A) (G : Format B) (R : A → B → Type 0) (S : List A → List B → Type 0) (base : S [] [])
    (step : (a : A) (b : B) (us : List A) (vs : List B) → R a b → S us vs → S (a ∷ us) (b ∷ vs)) (agree : Agree F G R) where
  each_agree : (us : List (Unit {0})) → Agree (for_each (λ (u : Unit {0}). F) us) (for_each (λ (u : Unit {0}). G) us) S
  each_agree [] = empty_agree S base
  each_agree (u ∷ us) = before_agree F (for_each (λ (u : Unit {0}). F) us) G (for_each (λ (u : Unit {0}). G) us) R S S step agree (each_agree us)

  pub row_agree : (k : ℕ) → Agree (counted_row k F) (counted_row k G) S
  row_agree k = then_agree k (λ n. ⊤) (in_a_row F) (in_a_row G) S (λ n. each_agree (so_many n))

-- ---- the same bytes are the same events

module _ {A B : Type 0} (F : Format A) (G : Format B) where
  also_tells : Agree F F (λ x y. x ≡ y) → Agree G G (λ x y. x ≡ y) → Agree (also F G) (also F G) (λ x y. x ≡ y)
  also_tells f g x y xs ys more rest h k e =
      let r = also_agree F G F G (λ x y. x ≡ y) (λ x y. x ≡ y) f g x y xs ys more rest h k e in
      (r.0, r.1, ap₂ (λ a b. (a, b)) r.2.0 r.2.1)

module _ {A B : Type 0} (c : A → B) (F : Format A) where
  as_tells : Agree F F (λ x y. x ≡ y) → Agree (as_ c F) (as_ c F) (λ x y. x ≡ y)
  as_tells = as_agree c c F F (λ x y. x ≡ y) (λ x y. x ≡ y) (λ x y e. ap c e)

any_tells : (k : ℕ) → Agree (any_number k) (any_number k) (λ x y. x ≡ y)
any_tells k = number_agree k (λ n. ⊤)

words_tell : Agree word_list word_list (λ x y. x ≡ y)
words_tell = row_agree (any_number 8) (any_number 8) (λ x y. x ≡ y) (λ x y. x ≡ y) refl (λ a b us vs e f. ap₂ (λ x l. x ∷ l) e f) (any_tells 8) 4

bytes_tell : Agree byte_list byte_list (λ x y. x ≡ y)
bytes_tell = sized_agree (λ (xs bs : List ℕ). bs ≡ xs) (λ (xs bs : List ℕ). bs ≡ xs) (λ x y. x ≡ y) (λ x y bs h k. sym h ∙ k) 8

moment_tells : Agree words_and_memory words_and_memory (λ x y. x ≡ y)
moment_tells = also_tells word_list byte_list words_tell bytes_tell

pair_tells : Agree two_numbers two_numbers (λ x y. x ≡ y)
pair_tells = also_tells (any_number 8) (any_number 8) (any_tells 8) (any_tells 8)

request_tells : Agree request request (λ x y. x ≡ y)
request_tells = also_tells two_numbers (also (any_number 4) two_numbers) pair_tells (also_tells (any_number 4) two_numbers (any_tells 4) pair_tells)

module _ (imports : ℕ) where
  tagged_tells : (n : ℕ) → Agree (tagged imports n) (tagged imports n) (λ x y. x ≡ y)
  tagged_tells zero = as_tells start_event (also (any_number 4) words_and_memory) (also_tells (any_number 4) words_and_memory (any_tells 4) moment_tells)
  tagged_tells (suc zero) = as_tells ask_event (also (number 4 (λ n. n < imports)) words_and_memory)
      (also_tells (number 4 (λ n. n < imports)) words_and_memory (number_agree 4 (λ n. n < imports)) moment_tells)
  tagged_tells (suc (suc zero)) = as_tells resume_event words_and_memory moment_tells
  tagged_tells (suc (suc (suc zero))) = as_tells return_event words_and_memory moment_tells
  tagged_tells (suc (suc (suc (suc zero)))) = as_tells realloc_event request request_tells
  tagged_tells (suc (suc (suc (suc (suc zero))))) = as_tells post_event (also (any_number 4) word_list) (also_tells (any_number 4) word_list (any_tells 4) words_tell)
  tagged_tells (suc (suc (suc (suc (suc (suc n)))))) = λ a b xs ys more rest h k e. absurd h

  event_tells : Agree (an_event imports) (an_event imports) (λ x y. x ≡ y)
  event_tells = then_agree 1 (λ n. n < 6) (tagged imports) (tagged imports) (λ x y. x ≡ y) tagged_tells

  pub events_tell : (k : ℕ) → Agree (counted_row k (an_event imports)) (counted_row k (an_event imports)) (λ x y. x ≡ y)
  events_tell k = row_agree (an_event imports) (an_event imports) (λ x y. x ≡ y) (λ x y. x ≡ y) refl (λ a b us vs e f. ap₂ (λ (x : Event) (l : List Event). x ∷ l) e f) event_tells k
