-- What writing adds, one format after another.
use Rattle.std.proofs.Common.{Err, List, Ok, Result, [], append-nil, append_assoc, ap, arith, div-one, drop, length, length-append, refl, subst, subst₂, suc, sym, take, w32, w64, zero, ℕ, ◌%◌, ◌+◌, ◌++◌, ◌-◌, ◌<◌, ◌^◌, ◌∙◌, ◌∷◌, ◌≡◌, ◌≤◌}
use Rattle.std.specs.Prelude.{slice_index_or, ⊤}
use Rattle.std.specs.Int.{to_le_bytes}
use Rattle.std.proofs.lemmas.List.{take_more}
use Rattle.canon_model.specs.Image.{IsField, le_bytes}
use Rattle.canon_model.proofs.NumberBytes.{low_first}
use Rattle.canon_model.proofs.ImageFields.{field_length, field_then}
use Rattle.canon_recording_parts.proofs.Reading.{each_more, times_more, times_split}
use Rattle.canon_recording_parts.specs.Format.{Format, IsFormat, also, any_number, as_, empty_list, for_each, in_a_row, number, sized_field, so_many, then_}
use Rattle.canon_recording_parts.specs.Events.{byte_list, raw}
use Rattle.canon_recording_parts.specs.Written.{IsAdded, WritesFormat}
use Rattle.canon_recording_parts.specs.declared.error.ReplayError.{ReplayError}
use Rattle.canon_recording_parts.specs.declared.error.ReplayError.TheVariants as error

-- where each way to write one thing has the bytes of a way to write another, which stands further on, too many of those are too many of these
pub long_along : {A B : Type 0} (F : Format A) (G : Format B) (a : A) (b : B) (old mid new end : List ℕ) (e : ReplayError) → ((xs : List ℕ) → G.writes b xs → (ys : List ℕ) × F.writes a ys × (length mid + length ys ≤ length old + length xs))
    → WritesFormat F a mid end (Err e) → WritesFormat G b old new (Err e)
long_along F G a b old mid new end error.TooLong h long = λ xs w.
    let (ys, g, more) = h xs w in
    omega (arith, more, long ys g)
long_along F G a b old mid new end error.OutOfMemory h g = tt
long_along F G a b old mid new end (error.BadRecording p) h g = absurd g
long_along F G a b old mid new end (error.NotARun k) h g = absurd g

-- ---- one behind the other

module _ {A B : Type 0} (F : Format A) (G : Format B) (a : A) (b : B) (old mid new end : List ℕ) where
  pub both_written : WritesFormat F a old mid (Ok tt) → WritesFormat G b mid new (Ok tt) → WritesFormat (also F G) (a, b) old new (Ok tt)
  both_written f g = record {
    xs = f.xs ++ g.xs;
    is = g.is ∙ ap (λ l. l ++ g.xs) f.is ∙ append_assoc old f.xs g.xs;
    written = (f.xs, g.xs, refl, f.written, g.written);
    few = λ h. g.few (f.few h);
  }

  pub first_long : (e : ReplayError) → WritesFormat F a old mid (Err e) → WritesFormat (also F G) (a, b) old new (Err e)
  first_long e h = long_along F (also F G) a (a, b) old old new mid e (λ xs w. let (x1, x2, xe, f, g) = w in (x1, f, omega (arith, ap length xe, length-append x1 x2))) h

  pub second_long : (e : ReplayError) → IsFormat F → WritesFormat F a old mid (Ok tt) → WritesFormat G b mid end (Err e) → WritesFormat (also F G) (a, b) old new (Err e)
  second_long e sound f h = long_along G (also F G) b (a, b) old mid new end e
      (λ xs w. let (x1, x2, xe, f2, g) = w in (x2, g, omega (arith, ap length xe, length-append x1 x2, ap length f.is, length-append old f.xs, ap length (sound.one_way a f.xs x1 f.written f2)))) h

  -- the second one, however it ends
  pub then_written : (result : Result (Unit {0}) ReplayError) → IsFormat F → WritesFormat F a old mid (Ok tt) → WritesFormat G b mid new result → WritesFormat (also F G) (a, b) old new result
  then_written (Ok done) sound f g = both_written f g
  then_written (Err e) sound f g = second_long e sound f (long_along G G b b mid mid end new e (λ xs w. (xs, w, omega arith)) g)

-- ---- in other words

module _ {A B : Type 0} (c : A → B) (F : Format A) (one : (x y : A) → c x ≡ c y → x ≡ y) (a : A) (old new : List ℕ) where
  pub named_written : (result : Result (Unit {0}) ReplayError) → WritesFormat F a old new result → WritesFormat (as_ c F) (c a) old new result
  named_written (Ok done) h = record { xs = h.xs; is = h.is; written = (a, refl, h.written); few = h.few }
  named_written (Err e) h = long_along F (as_ c F) a (c a) old old new new e (λ xs w. let (b, be, f) = w in (xs, subst (λ i. F.writes i xs) (sym (one a b be)) f, omega arith)) h

-- ---- behind a number, which what is written tells

module _ {B : Type 0} (k : ℕ) (Good : ℕ → Type 0) (G : ℕ → Format B) (n : ℕ) (b : B) (one : (m : ℕ) (xs : List ℕ) → (G m).writes b xs → m ≡ n) (old mid new : List ℕ) where
  pub number_long : (e : ReplayError) → WritesFormat (any_number k) n old mid (Err e) → WritesFormat (then_ k Good G) b old new (Err e)
  number_long e h = long_along (any_number k) (then_ k Good G) n b old old new mid e
      (λ xs w.
      let (m, rest, good, f, g) = w in
      let field : IsField k n (le_bytes k n) [] = record { fits = subst (λ i. i < 256 ^ k) (one m rest g) f.fits; is = sym (append-nil (le_bytes k n)) } in
      (le_bytes k n, (tt, field), omega (arith, field_length k m xs rest f, field_length k n (le_bytes k n) [] field))) h

  pub numbered_written : (result : Result (Unit {0}) ReplayError) → Good n → WritesFormat (any_number k) n old mid (Ok tt) → WritesFormat (G n) b mid new result → WritesFormat (then_ k Good G) b old new result
  numbered_written (Ok done) good f g =
      let (t, field) = f.written in
      record {
        xs = f.xs ++ g.xs;
        is = g.is ∙ ap (λ l. l ++ g.xs) f.is ∙ append_assoc old f.xs g.xs;
        written = (n, g.xs, good, field_then k n f.xs [] g.xs field, g.written);
        few = λ h. g.few (f.few h);
      }
  numbered_written (Err e) good f h =
      let (t, field) = f.written in
      long_along (G n) (then_ k Good G) b b old mid new new e
      (λ xs w.
      let (m, rest, also_good, f2, g) = w in
      (rest, subst (λ i. (G i).writes b rest) (one m rest g) g, omega (arith, field_length k m xs rest f2, field_length k n f.xs [] field, ap length f.is, length-append old f.xs))) h

-- ---- numbers

to_le_4 : (n : ℕ) → to_le_bytes w32 n ≡ le_bytes 4 n
to_le_4 n = low_first 4 0 n ∙ ap (le_bytes 4) (div-one n)

to_le_8 : (n : ℕ) → to_le_bytes w64 n ≡ le_bytes 8 n
to_le_8 n = low_first 8 0 n ∙ ap (le_bytes 8) (div-one n)

module _ (old new : List ℕ) (result : Result (Unit {0}) ReplayError) where
  number_written : (k n : ℕ) (xs : List ℕ) → n < 256 ^ k → xs ≡ le_bytes k n → WritesFormat (raw (length xs)) xs old new result → WritesFormat (any_number k) n old new result
  number_written k n xs small is h = written result h
    where
      field : IsField k n xs []
      field = record { fits = small; is = is ∙ sym (append-nil (le_bytes k n)) }

      written : (r : Result (Unit {0}) ReplayError) → WritesFormat (raw (length xs)) xs old new r → WritesFormat (any_number k) n old new r
      written (Ok done) w = record { xs = w.xs; is = w.is; written = (tt, subst (λ l. IsField k n l []) (sym w.written.1) field); few = w.few }
      written (Err e) w = long_along (raw (length xs)) (any_number k) xs n old old new new e (λ ys v. (xs, (refl, refl), omega (arith, field_length k n ys [] v.1, field_length k n xs [] field))) w

  pub number_1 : (n : ℕ) (xs : List ℕ) → n < 2 ^ 8 → xs ≡ n ∷ [] → WritesFormat (raw (length xs)) xs old new result → WritesFormat (any_number 1) n old new result
  number_1 n xs small is h =
      let low : n ≡ n % 256 = omega (arith, small) in
      number_written 1 n xs small (is ∙ ap (λ i. i ∷ []) low) h

  pub number_4 : (n : ℕ) (xs : List ℕ) → n < 2 ^ 32 → xs ≡ to_le_bytes w32 n → WritesFormat (raw (length xs)) xs old new result → WritesFormat (any_number 4) n old new result
  number_4 n xs small is h = number_written 4 n xs small (is ∙ to_le_4 n) h

  pub number_8 : (n : ℕ) (xs : List ℕ) → n < 2 ^ 64 → xs ≡ to_le_bytes w64 n → WritesFormat (raw (length xs)) xs old new result → WritesFormat (any_number 8) n old new result
  number_8 n xs small is h = number_written 8 n xs small (is ∙ to_le_8 n) h

-- a number that is good
module _ {B : Type 0} (k : ℕ) (Good : ℕ → Type 0) (G : Format B) (n : ℕ) (b : B) (old new : List ℕ) where
  pub number_known : (result : Result (Unit {0}) ReplayError) → Good n → WritesFormat (also (any_number k) G) (n, b) old new result → WritesFormat (also (number k Good) G) (n, b) old new result
  number_known (Ok done) good h =
      let (xs, ys, e, (t, f), g) = h.written in
      record { xs = h.xs; is = h.is; written = (xs, ys, e, (good, f), g); few = h.few }
  number_known (Err e) good h = long_along (also (any_number k) G) (also (number k Good) G) (n, b) (n, b) old old new new e
      (λ ys w. let (x1, x2, xe, (t, f), g) = w in (ys, (x1, x2, xe, (tt, f), g), omega arith)) h

-- no count has more than 4 bytes
pub many_long : (n : ℕ) (old new : List ℕ) → 2 ^ 32 ≤ n → WritesFormat (any_number 4) n old new (Err error.TooLong)
many_long n old new h xs (t, f) = absurd (omega (arith, h, f.fits))

-- ---- a block

module _ {A : Type 0} (Spell : A → List ℕ → Type 0) (one : (a : A) (xs ys : List ℕ) → Spell a xs → Spell a ys → xs ≡ ys) (a : A) (xs old new : List ℕ) (spelled : Spell a xs) where
  pub block_written : (result : Result (Unit {0}) ReplayError) → WritesFormat byte_list xs old new result → WritesFormat (then_ 8 (λ n. ⊤) (sized_field Spell)) a old new result
  block_written (Ok done) h =
      let (n, rest, t, f, (l, e)) = h.written in
      record { xs = h.xs; is = h.is; written = (n, rest, t, f, (l, subst (Spell a) (sym e) spelled)); few = h.few }
  block_written (Err e) h = long_along byte_list (then_ 8 (λ n. ⊤) (sized_field Spell)) xs a old old new new e
      (λ ys w. let (n, rest, t, f, (l, s)) = w in (ys, (n, rest, t, f, (l, one a rest xs s spelled)), omega arith)) h

-- ---- in a row

module _ {I A : Type 0} (F : I → Format A) (sound : (i : I) → IsFormat (F i)) where
  -- the bytes of these are in those of these and more
  each_split : (is : List I) (i : I) (rest : List I) (things : List A) (a : A) (others : List A) (xs ys : List ℕ) → (for_each F is).writes things xs → (for_each F (is ++ i ∷ rest)).writes (things ++ a ∷ others) ys
      → (zs : List ℕ) × (F i).writes a zs × (length xs + length zs ≤ length ys)
  each_split [] i rest [] a others xs ys (te, xe) (x, e, (y1, y2, ye, h, g)) =
      let first : x.0 ≡ a = cc in
      (y1, subst (λ k. (F i).writes k y1) first h, omega (arith, ap length ye, ap length xe, length-append y1 y2))
  each_split [] i rest (t ∷ ts) a others xs ys (te, xe) w = absurd (cons_not_nil te)
    where
      cons_not_nil : ¬ (t ∷ ts ≡ [])
      cons_not_nil e = omega (arith, ap length e)
  each_split (k ∷ is) i rest [] a others xs ys (z, e, w) v = absurd (omega (arith, ap length e))
  each_split (k ∷ is) i rest (t ∷ ts) a others xs ys (z, e, (x1, x2, xe, h, g)) (x, e2, (y1, y2, ye, h2, g2)) =
      let first : z.0 ≡ x.0 = cc in
      let those : z.1 ≡ ts = cc in
      let these : x.1 ≡ ts ++ a ∷ others = cc in
      let same : x1 ≡ y1 = (sound k).one_way z.0 x1 y1 h (subst (λ j. (F k).writes j y1) (sym first) h2) in
      let (zs, w, l) = each_split is i rest ts a others x2 y2 (subst (λ j. (for_each F is).writes j x2) those g) (subst (λ j. (for_each F (is ++ i ∷ rest)).writes j y2) these g2) in
      (zs, w, omega (arith, l, ap length xe, ap length ye, ap length same, length-append x1 x2, length-append y1 y2))

  pub each_added : (old now new : List ℕ) (is : List I) (i : I) (things : List A) (a : A) → IsAdded (for_each F is) things old now → WritesFormat (F i) a now new (Ok tt) → IsAdded (for_each F (is ++ i ∷ [])) (things ++ a ∷ []) old new
  each_added old now new is i things a r h = record {
    xs = r.xs ++ h.xs;
    is = h.is ∙ ap (λ l. l ++ h.xs) r.is ∙ append_assoc old r.xs h.xs;
    written = each_more F is i things a r.xs h.xs r.written h.written;
    few = λ l. h.few (r.few l);
  }

  pub each_long : (old now new end : List ℕ) (is : List I) (i : I) (rest : List I) (things : List A) (a : A) (others : List A) (e : ReplayError) → IsAdded (for_each F is) things old now → WritesFormat (F i) a now new (Err e)
      → WritesFormat (for_each F (is ++ i ∷ rest)) (things ++ a ∷ others) old end (Err e)
  each_long old now new end is i rest things a others e r h = long_along (F i) (for_each F (is ++ i ∷ rest)) a (things ++ a ∷ others) old now end new e
      (λ ys w. let (zs, v, l) = each_split is i rest things a others r.xs ys r.written w in (zs, v, omega (arith, l, ap length r.is, length-append old r.xs))) h

pub none_added : {A : Type 0} (old : List ℕ) → IsAdded (empty_list {A = A}) [] old old
none_added old = record { xs = []; is = sym (append-nil old); written = (refl, refl); few = λ h. h }

take_all : {A : Type 0} (xs : List A) → take (length xs) xs ≡ xs
take_all [] = refl
take_all (x ∷ xs) = ap (λ l. x ∷ l) (take_all xs)

take_drop_at : {A : Type 0} (xs : List A) (n : ℕ) (a : A) → n < length xs → take n xs ++ slice_index_or xs n a ∷ drop (suc n) xs ≡ xs
take_drop_at [] n a h = absurd (omega (arith, h))
take_drop_at (x ∷ xs) zero a h = refl
take_drop_at (x ∷ xs) (suc n) a h = ap (λ l. x ∷ l) (take_drop_at xs n a (omega (arith, h)))

-- ---- so many in a row: the first n of these

module _ {A : Type 0} (F : Format A) (sound : IsFormat F) (things : List A) (old : List ℕ) where
  pub row_added : (now new : List ℕ) (n : ℕ) (a : A) → n < length things → slice_index_or things n a ≡ a → IsAdded (in_a_row F n) (take n things) old now → WritesFormat F a now new (Ok tt)
      → IsAdded (in_a_row F (n + 1)) (take (n + 1) things) old new
  row_added now new n a more is r h =
      let next : suc n ≡ n + 1 = omega arith in
      let items : take n things ++ a ∷ [] ≡ take (n + 1) things = ap (λ i. take n things ++ i ∷ []) (sym is) ∙ sym (take_more things n a more) in
      subst₂ (λ is xs. IsAdded (for_each (λ (u : Unit {0}). F) is) xs old new) (times_more n ∙ ap (λ i. so_many i) next) items
      (each_added (λ (u : Unit {0}). F) (λ u. sound) old now new (so_many n) tt (take n things) a r h)

  pub row_long : (now new end : List ℕ) (n : ℕ) (a : A) (e : ReplayError) → n < length things → slice_index_or things n a ≡ a → IsAdded (in_a_row F n) (take n things) old now
      → WritesFormat F a now new (Err e) → WritesFormat (in_a_row F (length things)) things old end (Err e)
  row_long now new end n a e more is r h =
      let split : so_many n ++ tt ∷ so_many (length things - suc n) ≡ so_many (length things) = times_split n (length things - suc n) (length things) (omega (arith, more)) in
      let items : take n things ++ a ∷ drop (suc n) things ≡ things = ap (λ i. take n things ++ i ∷ drop (suc n) things) (sym is) ∙ take_drop_at things n a more in
      subst₂ (λ is xs. WritesFormat (for_each (λ (u : Unit {0}). F) is) xs old end (Err e)) split items
      (each_long (λ (u : Unit {0}). F) (λ u. sound) old now new end (so_many n) tt (so_many (length things - suc n)) (take n things) a (drop (suc n) things) e r h)

  pub row_all : (now : List ℕ) (n : ℕ) → n ≡ length things → IsAdded (in_a_row F n) (take n things) old now → WritesFormat (in_a_row F (length things)) things old now (Ok tt)
  row_all now n e r = subst₂ (λ i xs. IsAdded (in_a_row F i) xs old now) e (ap (λ i. take i things) e ∙ take_all things) r
