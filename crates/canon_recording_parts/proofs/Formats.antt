-- The ways to make a format keep its laws.
use Rattle.std.proofs.Common.{List, [], append_assoc, ap, ap₂, arith, inl, inr, length, refl, subst, suc, sym, zero, ℕ, ◌+◌, ◌++◌, ◌∙◌, ◌∷◌, ◌≡◌, append-nil}
use Rattle.std.specs.Prelude.{⊤}
use Rattle.canon_model.specs.Image.{IsField, le_bytes}
use Rattle.canon_model.proofs.ImageFields.{append_parts, field_front, field_length, field_once, field_then, length-join}
use Rattle.canon_recording_parts.specs.Format.{Format, IsFormat, also, as_, before, counted_row, empty_list, exactly, for_each, in_a_row, none, number, prepend, sized_field, so_many, then_}

-- ---- lists

pub regroup : (x1 x2 xs y1 y2 ys more rest : List ℕ) → xs ≡ x1 ++ x2 → ys ≡ y1 ++ y2 → xs ++ more ≡ ys ++ rest → x1 ++ (x2 ++ more) ≡ y1 ++ (y2 ++ rest)
regroup x1 x2 xs y1 y2 ys more rest xe ye e = sym (append_assoc x1 x2 more) ∙ ap (λ l. l ++ more) (sym xe) ∙ e ∙ ap (λ l. l ++ rest) ye ∙ append_assoc y1 y2 rest

-- ---- one behind the other

module _ {A B : Type 0} (F : Format A) (G : Format B) (f : IsFormat F) (g : IsFormat G) where
  also_apart : (x y : A × B) (xs ys more rest : List ℕ) → (also F G).writes x xs → (also F G).writes y ys → xs ++ more ≡ ys ++ rest → (xs ≡ ys) × (more ≡ rest)
  also_apart x y xs ys more rest (x1, x2, xe, h, h2) (y1, y2, ye, k, k2) e =
      let first = f.apart x.0 y.0 x1 y1 (x2 ++ more) (y2 ++ rest) h k (regroup x1 x2 xs y1 y2 ys more rest xe ye e) in
      let second = g.apart x.1 y.1 x2 y2 more rest h2 k2 first.1 in
      (xe ∙ ap₂ ◌++◌ first.0 second.0 ∙ sym ye, second.1)

  also_whole : (x : A × B) (bs xs rest : List ℕ) (p : ℕ) → bs ≡ xs ++ rest → (also F G).writes x xs → ¬ (also F G).stops bs p
  also_whole x bs xs rest p e (x1, x2, xe, h, h2) (inl s) = f.whole x.0 bs x1 (x2 ++ rest) p (e ∙ ap (λ l. l ++ rest) xe ∙ append_assoc x1 x2 rest) h s
  also_whole x bs xs rest p e (x1, x2, xe, h, h2) (inr (a, ys, end, j, be, k, pe, s)) =
      let r = f.apart x.0 a x1 ys (x2 ++ rest) end h k (sym (append_assoc x1 x2 rest) ∙ ap (λ l. l ++ rest) (sym xe) ∙ sym e ∙ be) in
      g.whole x.1 end x2 rest j (sym r.1) h2 s

  also_once : (bs : List ℕ) (p q : ℕ) → (also F G).stops bs p → (also F G).stops bs q → p ≡ q
  also_once bs p q (inl s) (inl t) = f.once bs p q s t
  also_once bs p q (inl s) (inr (a, ys, end, j, be, k, pe, t)) = absurd (f.whole a bs ys end p be k s)
  also_once bs p q (inr (a, ys, end, j, be, k, pe, s)) (inl t) = absurd (f.whole a bs ys end q be k t)
  also_once bs p q (inr (a, xs, more, i, ae, h, pe, s)) (inr (b, ys, end, j, be, k, qe, t)) =
      let r = f.apart a b xs ys more end h k (sym ae ∙ be) in
      let same = g.once more i j s (subst (λ l. G.stops l j) (sym r.1) t) in
      pe ∙ ap₂ ◌+◌ (ap length r.0) same ∙ sym qe

  also_one_way : (x : A × B) (xs ys : List ℕ) → (also F G).writes x xs → (also F G).writes x ys → xs ≡ ys
  also_one_way x xs ys (x1, x2, xe, h, h2) (y1, y2, ye, k, k2) = xe ∙ ap₂ ◌++◌ (f.one_way x.0 x1 y1 h k) (g.one_way x.1 x2 y2 h2 k2) ∙ sym ye

  pub also_sound : IsFormat (also F G)
  also_sound = record { apart = also_apart; whole = also_whole; once = also_once; one_way = also_one_way }

-- ---- in other words, which tell different things apart

module _ {A B : Type 0} (c : A → B) (F : Format A) (f : IsFormat F) (one : (x y : A) → c x ≡ c y → x ≡ y) where
  as_apart : (x y : B) (xs ys more rest : List ℕ) → (as_ c F).writes x xs → (as_ c F).writes y ys → xs ++ more ≡ ys ++ rest → (xs ≡ ys) × (more ≡ rest)
  as_apart x y xs ys more rest (a, ae, h) (b, be, k) e = f.apart a b xs ys more rest h k e

  as_whole : (x : B) (bs xs rest : List ℕ) (p : ℕ) → bs ≡ xs ++ rest → (as_ c F).writes x xs → ¬ (as_ c F).stops bs p
  as_whole x bs xs rest p e (a, ae, h) s = f.whole a bs xs rest p e h s

  as_one_way : (x : B) (xs ys : List ℕ) → (as_ c F).writes x xs → (as_ c F).writes x ys → xs ≡ ys
  as_one_way x xs ys (a, ae, h) (b, be, k) = f.one_way a xs ys h (subst (λ i. F.writes i ys) (sym (one a b (sym ae ∙ be))) k)

  pub as_sound : IsFormat (as_ c F)
  as_sound = record { apart = as_apart; whole = as_whole; once = f.once; one_way = as_one_way }

-- ---- fields

module _ (k : ℕ) (Good : ℕ → Type 0) where
  pub number_good : (n : ℕ) (bs rest : List ℕ) (p : ℕ) → IsField k n bs rest → Good n → ¬ (number k Good).stops bs p
  number_good n bs rest p f good (e, inl h) = omega (arith, h, field_length k n bs rest f)
  number_good n bs rest p f good (e, inr (m, end, g, bad)) = bad (subst Good (field_once k n m bs rest end f g).0 good)

  number_apart : (n m : ℕ) (xs ys more rest : List ℕ) → (number k Good).writes n xs → (number k Good).writes m ys → xs ++ more ≡ ys ++ rest → (xs ≡ ys) × (more ≡ rest)
  number_apart n m xs ys more rest (gn, f) (gm, g) e = append_parts xs ys more rest (field_length k n xs [] f ∙ sym (field_length k m ys [] g)) e

  number_whole : (n : ℕ) (bs xs rest : List ℕ) (p : ℕ) → bs ≡ xs ++ rest → (number k Good).writes n xs → ¬ (number k Good).stops bs p
  number_whole n bs xs rest p e (good, f) s = number_good n (xs ++ rest) ([] ++ rest) p (field_then k n xs [] rest f) good (subst (λ l. (number k Good).stops l p) e s)

  number_once : (bs : List ℕ) (p q : ℕ) → (number k Good).stops bs p → (number k Good).stops bs q → p ≡ q
  number_once bs p q s t = s.0 ∙ sym t.0

  number_one_way : (n : ℕ) (xs ys : List ℕ) → (number k Good).writes n xs → (number k Good).writes n ys → xs ≡ ys
  number_one_way n xs ys (gn, f) (gm, g) = f.is ∙ sym g.is

  pub number_sound : IsFormat (number k Good)
  number_sound = record { apart = number_apart; whole = number_whole; once = number_once; one_way = number_one_way }

  -- what is written so is written behind one number
  module _ {B : Type 0} (G : ℕ → Format B) (g : (n : ℕ) → Good n → IsFormat (G n)) (one : (n m : ℕ) (b : B) (xs ys : List ℕ) → (G n).writes b xs → (G m).writes b ys → n ≡ m) where
    then_apart : (x y : B) (xs ys more rest : List ℕ) → (then_ k Good G).writes x xs → (then_ k Good G).writes y ys → xs ++ more ≡ ys ++ rest → (xs ≡ ys) × (more ≡ rest)
    then_apart x y xs ys more rest (n, x2, good, f, h) (m, y2, also_good, f2, h2) e =
        let r = field_front k n m xs ys x2 y2 more rest f f2 e in
        let s = (g n good).apart x y x2 y2 more rest h (subst (λ i. (G i).writes y y2) (sym r.0) h2) r.1 in
        (f.is ∙ ap₂ (λ i l. le_bytes k i ++ l) r.0 s.0 ∙ sym f2.is, s.1)

    then_whole : (x : B) (bs xs rest : List ℕ) (p : ℕ) → bs ≡ xs ++ rest → (then_ k Good G).writes x xs → ¬ (then_ k Good G).stops bs p
    then_whole x bs xs rest p e (n, x2, good, f, h) (inl s) = number_good n (xs ++ rest) (x2 ++ rest) p (field_then k n xs x2 rest f) good (subst (λ l. (number k Good).stops l p) e s)
    then_whole x bs xs rest p e (n, x2, good, f, h) (inr (m, end, j, good2, f2, pe, s)) =
        let r = field_front k n m xs bs x2 end rest [] f f2 (sym e ∙ sym (append-nil bs)) in
        (g n good).whole x end x2 rest j (sym (append-nil end) ∙ sym r.1) h (subst (λ i. (G i).stops end j) (sym r.0) s)

    then_once : (bs : List ℕ) (p q : ℕ) → (then_ k Good G).stops bs p → (then_ k Good G).stops bs q → p ≡ q
    then_once bs p q (inl s) (inl t) = number_once bs p q s t
    then_once bs p q (inl s) (inr (m, end, j, good, f, pe, t)) = absurd (number_good m bs end p f good s)
    then_once bs p q (inr (m, end, j, good, f, pe, s)) (inl t) = absurd (number_good m bs end q f good t)
    then_once bs p q (inr (n, end, i, good, f, pe, s)) (inr (m, other, j, good2, f2, qe, t)) =
        let r = field_once k n m bs end other f f2 in
        let same = (g n good).once end i j s (subst (λ a. (G a).stops end j) (sym r.0) (subst (λ l. (G m).stops l j) (sym r.1) t)) in
        pe ∙ ap (λ i. k + i) same ∙ sym qe

    then_one_way : (x : B) (xs ys : List ℕ) → (then_ k Good G).writes x xs → (then_ k Good G).writes x ys → xs ≡ ys
    then_one_way x xs ys (n, x2, good, f, h) (m, y2, also_good, f2, h2) =
        let same = one n m x x2 y2 h h2 in
        let rest = (g n good).one_way x x2 y2 h (subst (λ i. (G i).writes x y2) (sym same) h2) in
        f.is ∙ ap₂ (λ i l. le_bytes k i ++ l) same rest ∙ sym f2.is

    pub then_sound : IsFormat (then_ k Good G)
    then_sound = record { apart = then_apart; whole = then_whole; once = then_once; one_way = then_one_way }

-- bytes of which a thing is spelled in one way
module _ {A : Type 0} (Spell : A → List ℕ → Type 0) (one : (a : A) (xs ys : List ℕ) → Spell a xs → Spell a ys → xs ≡ ys) where
  block_whole : (n : ℕ) (a : A) (bs xs rest : List ℕ) (p : ℕ) → bs ≡ xs ++ rest → (sized_field Spell n).writes a xs → ¬ (sized_field Spell n).stops bs p
  block_whole n a bs xs rest p e (l, h) (pe, inl s) = omega (arith, l, s, ap length e, length-join xs rest)
  block_whole n a bs xs rest p e (l, h) (pe, inr (ys, end, be, m, bad)) = bad a (subst (Spell a) (append_parts xs ys rest end (l ∙ sym m) (sym e ∙ be)).0 h)

  pub block_sound : (n : ℕ) → IsFormat (sized_field Spell n)
  block_sound n = record {
    apart = λ a b xs ys more rest h k e. append_parts xs ys more rest (h.0 ∙ sym k.0) e;
    whole = block_whole n;
    once = λ bs p q s t. s.0 ∙ sym t.0;
    one_way = λ a xs ys h k. one a xs ys h.1 k.1;
  }

  block_one : (n m : ℕ) (a : A) (xs ys : List ℕ) → (sized_field Spell n).writes a xs → (sized_field Spell m).writes a ys → n ≡ m
  block_one n m a xs ys h k = sym h.0 ∙ ap length (one a xs ys h.1 k.1) ∙ k.0

  -- behind their number
  pub sized_sound : (k : ℕ) → IsFormat (then_ k (λ n. ⊤) (sized_field Spell))
  sized_sound k = then_sound k (λ n. ⊤) (sized_field Spell) (λ n t. block_sound n) block_one

pub exactly_sound : (letters : List ℕ) → IsFormat (exactly letters)
exactly_sound letters = record {
  apart = λ a b xs ys more rest h k e. append_parts xs ys more rest (ap length (h ∙ sym k)) e;
  whole = λ a bs xs rest p e h s. s.1 rest (e ∙ ap (λ l. l ++ rest) h);
  once = λ bs p q s t. s.0 ∙ sym t.0;
  one_way = λ a xs ys h k. h ∙ sym k;
}

pub none_sound : {A : Type 0} → IsFormat (none {A = A})
none_sound = record { apart = λ a b xs ys more rest h k e. absurd h; whole = λ a bs xs rest p e h s. h; once = λ bs p q s t. s ∙ sym t; one_way = λ a xs ys h k. absurd h }

pub nothing_sound : {A : Type 0} → IsFormat (empty_list {A = A})
nothing_sound = record {
  apart = λ a b xs ys more rest h k e. append_parts xs ys more rest (ap length (h.1 ∙ sym k.1)) e;
  whole = λ a bs xs rest p e h s. s;
  once = λ bs p q s t. absurd s;
  one_way = λ a xs ys h k. h.1 ∙ sym k.1;
}

-- ---- in a row

prepend_one : {A : Type 0} (x y : A × List A) → prepend x ≡ prepend y → x ≡ y
prepend_one x y e =
    let first : x.0 ≡ y.0 = cc in
    let rest : x.1 ≡ y.1 = cc in
    ap₂ (λ a l. (a, l)) first rest

pub before_sound : {A : Type 0} (F : Format A) (G : Format (List A)) → IsFormat F → IsFormat G → IsFormat (before F G)
before_sound {A} F G f g = as_sound (prepend {A = A}) (also F G) (also_sound F G f g) (prepend_one {A = A})

pub each_sound : {I A : Type 0} (F : I → Format A) → ((i : I) → IsFormat (F i)) → (is : List I) → IsFormat (for_each F is)
each_sound F f [] = nothing_sound
each_sound F f (i ∷ is) = before_sound (F i) (for_each F is) (f i) (each_sound F f is)

pub recording_each_count : {I A : Type 0} (F : I → Format A) (is : List I) (things : List A) (bs : List ℕ) → (for_each F is).writes things bs → length things ≡ length is
recording_each_count F [] things bs (e, h) = ap length e
recording_each_count F (i ∷ is) things bs (x, e, (xs, ys, be, h, k)) = ap length e ∙ ap suc (recording_each_count F is x.1 ys k)

length-times : (n : ℕ) → length (so_many n) ≡ n
length-times zero = refl
length-times (suc n) = ap suc (length-times n)

pub row_count : {A : Type 0} (F : Format A) (n : ℕ) (things : List A) (bs : List ℕ) → (in_a_row F n).writes things bs → length things ≡ n
row_count F n things bs h = recording_each_count (λ (u : Unit {0}). F) (so_many n) things bs h ∙ length-times n

pub counted_sound : {A : Type 0} (F : Format A) (k : ℕ) → IsFormat F → IsFormat (counted_row k F)
counted_sound {A} F k f = then_sound k (λ n. ⊤) (in_a_row F) (λ n t. each_sound (λ (u : Unit {0}). F) (λ u. f) (so_many n))
    (λ n m b xs ys h g. sym (row_count F n b xs h) ∙ row_count F m b ys g)
