-- What reading gives, one format after another.
use Rattle.std.proofs.Common.{Err, List, Ok, Result, [], append-nil, append_assoc, ap, ap₂, arith, drop, drop-drop, get_or-drop, inl, inr, length, length-append, length-drop, length-take-le, refl, subst, subst₂, suc, sym, take, zero, ℕ, ⊎_elim, ◌+◌, ◌++◌, ◌-◌, ◌<◌, ◌^◌, ◌∙◌, ◌∷◌, ◌≡◌, ◌≤◌}
use Rattle.std.specs.Prelude.{slice_index, ⊤}
use Rattle.std.proofs.lemmas.Bool.{cases_lt}
use Rattle.std.proofs.lemmas.List.{get_or-take, get_or_past, take-append-drop}
use Rattle.canon_lowering.specs.Storing.{narrow}
use Rattle.canon_model.specs.Image.{IsField, le_bytes}
use Rattle.canon_model.specs.Memory.{bytes_in, num}
use Rattle.canon_model.proofs.NumberBytes.{le_number_bytes}
use Rattle.canon_model.proofs.ImageFields.{field_length, field_then}
use Rattle.canon_recording_parts.specs.Format.{Format, also, any_number, as_, for_each, in_a_row, number, sized_field, so_many, then_}
use Rattle.canon_recording_parts.specs.Events.{byte_list, raw}
use Rattle.canon_recording_parts.specs.Read.{IsReadSoFar, ReadsFormat, StandBetween}
use Rattle.canon_recording_parts.specs.declared.error.ReplayError.{ReplayError}
use Rattle.canon_recording_parts.specs.declared.error.ReplayError.TheVariants as error

-- ---- spans

pub no_span : (bs : List ℕ) (at : ℕ) → at ≤ length bs → StandBetween bs at at []
no_span bs at h = record { is = refl; to_is = omega arith; inside = h }

pub span_then : (bs : List ℕ) (from mid to : ℕ) (xs ys : List ℕ) → StandBetween bs from mid xs → StandBetween bs mid to ys → StandBetween bs from to (xs ++ ys)
span_then bs from mid to xs ys s t = record {
  is = s.is ∙ ap (λ l. xs ++ l) t.is ∙ sym (append_assoc xs ys (drop to bs));
  to_is = omega (arith, s.to_is, t.to_is, length-append xs ys);
  inside = t.inside;
}

-- the n bytes from a place on
pub recording_taken : (bs : List ℕ) (at n : ℕ) → at + n ≤ length bs → StandBetween bs at (at + n) (take n (drop at bs))
recording_taken bs at n room = record {
  is = sym (take-append-drop n (drop at bs)) ∙ ap (λ l. take n (drop at bs) ++ l) (drop-drop n at bs);
  to_is = ap (λ i. at + i) (sym (length-take-le n (drop at bs) (omega (arith, length-drop at bs, room))));
  inside = room;
}

-- a thing that was read ends inside
pub ok_inside : {A : Type 0} (F : Format A) (bs : List ℕ) (from to : ℕ) (a : A) → ReadsFormat F bs from to (Ok a) → to ≤ length bs
ok_inside F bs from to a (xs, s, h) = s.inside

-- ---- how a reading stops

-- where each stop of one is one of the other, later or at the same place
pub stops_along : {A B : Type 0} (F : Format A) (G : Format B) (bs : List ℕ) (from mid at to : ℕ) (e : ReplayError) → ((j p : ℕ) → p ≡ mid + j → F.stops (drop mid bs) j → (i : ℕ) × (p ≡ from + i) × G.stops (drop from bs) i)
    → ReadsFormat F bs mid at (Err e) → ReadsFormat G bs from to (Err e)
stops_along F G bs from mid at to (error.BadRecording p) h (j, e, s) = h j p e s
stops_along F G bs from mid at to error.OutOfMemory h g = tt
stops_along F G bs from mid at to (error.NotARun k) h g = absurd g
stops_along F G bs from mid at to error.TooLong h g = absurd g

-- ---- one behind the other

module _ {A B : Type 0} (F : Format A) (G : Format B) (bs : List ℕ) (from mid to at : ℕ) where
  pub both_read : (a : A) (b : B) → ReadsFormat F bs from mid (Ok a) → ReadsFormat G bs mid to (Ok b) → ReadsFormat (also F G) bs from to (Ok (a, b))
  both_read a b (xs, s, h) (ys, t, g) = (xs ++ ys, span_then bs from mid to xs ys s t, (xs, ys, refl, h, g))

  pub recording_first_stops : (e : ReplayError) → ReadsFormat F bs from mid (Err e) → ReadsFormat (also F G) bs from at (Err e)
  recording_first_stops e h = stops_along F (also F G) bs from from mid at e (λ j p is s. (j, is, inl s)) h

  pub second_stops : (a : A) (e : ReplayError) → ReadsFormat F bs from mid (Ok a) → ReadsFormat G bs mid to (Err e) → ReadsFormat (also F G) bs from at (Err e)
  second_stops a e (xs, t, h) g = stops_along G (also F G) bs from mid to at e
      (λ j p is s. (length xs + j, omega (arith, is, t.to_is), inr (a, xs, drop mid bs, j, t.is, h, refl, s))) g

-- ---- in other words

module _ {A B : Type 0} (c : A → B) (F : Format A) (bs : List ℕ) (from to : ℕ) where
  pub recording_named : (a : A) → ReadsFormat F bs from to (Ok a) → ReadsFormat (as_ c F) bs from to (Ok (c a))
  recording_named a (xs, s, h) = (xs, s, (a, refl, h))

  pub named_stops : (at : ℕ) (e : ReplayError) → ReadsFormat F bs from to (Err e) → ReadsFormat (as_ c F) bs from at (Err e)
  named_stops at e h = stops_along F (as_ c F) bs from from to at e (λ j p is s. (j, is, s)) h

-- ---- behind a number

field_here : (bs : List ℕ) (k n from to : ℕ) (xs : List ℕ) → StandBetween bs from to xs → IsField k n xs [] → IsField k n (drop from bs) (drop to bs)
field_here bs k n from to xs s f = subst (λ l. IsField k n l (drop to bs)) (sym s.is) (field_then k n xs [] (drop to bs) f)

module _ {B : Type 0} (k : ℕ) (Good : ℕ → Type 0) (G : ℕ → Format B) (bs : List ℕ) (from mid to at : ℕ) where
  pub then_read : (n : ℕ) (b : B) → ReadsFormat (number k Good) bs from mid (Ok n) → ReadsFormat (G n) bs mid to (Ok b) → ReadsFormat (then_ k Good G) bs from to (Ok b)
  then_read n b (xs, s, (good, f)) (ys, t, g) =
      let whole : IsField k n (xs ++ ys) ys = field_then k n xs [] ys f in
      (xs ++ ys, span_then bs from mid to xs ys s t, (n, ys, good, whole, g))

  pub number_stops : (e : ReplayError) → ReadsFormat (number k Good) bs from mid (Err e) → ReadsFormat (then_ k Good G) bs from at (Err e)
  number_stops e h = stops_along (number k Good) (then_ k Good G) bs from from mid at e (λ j p is s. (j, is, inl s)) h

  pub then_stops : (n : ℕ) (e : ReplayError) → ReadsFormat (number k Good) bs from mid (Ok n) → ReadsFormat (G n) bs mid to (Err e) → ReadsFormat (then_ k Good G) bs from at (Err e)
  then_stops n e (xs, s, (good, f)) g = stops_along (G n) (then_ k Good G) bs from mid to at e
      (λ j p is h. (k + j, omega (arith, is, s.to_is, field_length k n xs [] f), inr (n, drop mid bs, j, good, field_here bs k n from mid xs s f, refl, h))) g

  -- the rest, however it ends
  pub rest_read : (n : ℕ) (result : Result B ReplayError) → ReadsFormat (number k Good) bs from mid (Ok n) → ReadsFormat (G n) bs mid to result → ReadsFormat (then_ k Good G) bs from to result
  rest_read n (Ok b) h g = then_read n b h g
  rest_read n (Err e) (xs, s, (good, f)) g = stops_along (G n) (then_ k Good G) bs from mid to to e
      (λ j p is h. (k + j, omega (arith, is, s.to_is, field_length k n xs [] f), inr (n, drop mid bs, j, good, field_here bs k n from mid xs s f, refl, h))) g

-- ---- a number

module _ (bs : List ℕ) (at k : ℕ) (room : at + k ≤ length bs) (small : (i : ℕ) → slice_index bs i < 256) where
  number_here : (n : ℕ) → n ≡ num (narrow bs) at k → IsField k n (take k (drop at bs)) []
  unfolding bytes_in
  number_here n e =
      let xs : List ℕ = take k (drop at bs) in
      let width : length xs ≡ k = length-take-le k (drop at bs) (omega (arith, length-drop at bs, room)) in
      let below : (i : ℕ) → slice_index xs i < 256 = λ i. ⊎_elim
      (λ (l : i < k). subst (λ x. x < 256) (sym (get_or-take k (drop at bs) i 0 l ∙ get_or-drop at bs i 0)) (small (at + i)))
      (λ (l : k ≤ i). subst (λ x. x < 256) (sym (get_or_past xs i 0 (omega (arith, l, width)))) (omega arith))
      (cases_lt i k) in
      let bytes = le_number_bytes xs below in
      record {
        fits = subst (λ j. n < 256 ^ j) width (subst (λ j. j < 256 ^ length xs) (sym e) bytes.1);
        is = sym bytes.0 ∙ ap₂ le_bytes width (sym e) ∙ sym (append-nil (le_bytes k n));
      }

  pub recording_number_read : (n : ℕ) → n ≡ num (narrow bs) at k → ReadsFormat (any_number k) bs at (at + k) (Ok n)
  recording_number_read n e = (take k (drop at bs), recording_taken bs at k room, (tt, number_here n e))

pub number_short : (bs : List ℕ) (k at to : ℕ) → length bs - at < k → at ≤ length bs → ReadsFormat (any_number k) bs at to (Err (error.BadRecording at))
number_short bs k at to h l = (0, omega arith, (refl, inl (omega (arith, h, length-drop at bs))))

-- a number that is to be good
module _ (k : ℕ) (Good : ℕ → Type 0) (bs : List ℕ) (from to at : ℕ) where
  pub number_good : (n : ℕ) → Good n → ReadsFormat (any_number k) bs from to (Ok n) → ReadsFormat (number k Good) bs from to (Ok n)
  number_good n good (xs, s, (t, f)) = (xs, s, (good, f))

  pub number_bad : (n : ℕ) → ¬ Good n → ReadsFormat (any_number k) bs from to (Ok n) → ReadsFormat (number k Good) bs from at (Err (error.BadRecording from))
  number_bad n bad (xs, s, (t, f)) = (0, omega arith, (refl, inr (n, drop to bs, field_here bs k n from to xs s f, bad)))

  pub number_cut : (e : ReplayError) → ReadsFormat (any_number k) bs from to (Err e) → ReadsFormat (number k Good) bs from at (Err e)
  number_cut e h = stops_along (any_number k) (number k Good) bs from from to at e (λ j p is s. (j, is, only_cut s)) h
    where
      only_cut : {j : ℕ} → (any_number k).stops (drop from bs) j → (number k Good).stops (drop from bs) j
      only_cut (z, inl s) = (z, inl s)
      only_cut (z, inr (n, rest, f, bad)) = absurd (bad tt)

-- ---- a block

-- the bytes that stand in a block, and their place
pub block_read : (bs : List ℕ) (from mid n : ℕ) → mid + n ≤ length bs → ReadsFormat (any_number 8) bs from mid (Ok n) → ReadsFormat byte_list bs from (mid + n) (Ok (take n (drop mid bs)))
block_read bs from mid n room count =
    then_read 8 (λ n. ⊤) raw bs from mid (mid + n) 0 n (take n (drop mid bs)) count
    (take n (drop mid bs), recording_taken bs mid n room, (length-take-le n (drop mid bs) (omega (arith, length-drop mid bs, room)), refl))

pub block_short : (bs : List ℕ) (from mid n at : ℕ) → length bs - mid < n → mid ≤ length bs → ReadsFormat (any_number 8) bs from mid (Ok n) → ReadsFormat byte_list bs from at (Err (error.BadRecording mid))
block_short bs from mid n at h l count =
    then_stops 8 (λ n. ⊤) raw bs from mid mid at n (error.BadRecording mid) count
    (0, omega arith, (refl, inl (omega (arith, h, length-drop mid bs))))

-- what a block's bytes spell
module _ {A : Type 0} (Spell : A → List ℕ → Type 0) (bs : List ℕ) (from to at : ℕ) where
  pub block_spells : (a : A) (ys : List ℕ) → Spell a ys → ReadsFormat byte_list bs from to (Ok ys) → ReadsFormat (then_ 8 (λ n. ⊤) (sized_field Spell)) bs from to (Ok a)
  block_spells a ys h (xs, s, (n, rest, t, f, (l, e))) = (xs, s, (n, rest, t, f, (l, subst (Spell a) (sym e) h)))

  pub block_bad : (ys : List ℕ) → ((a : A) → ¬ Spell a ys) → ReadsFormat byte_list bs from to (Ok ys) → ReadsFormat (then_ 8 (λ n. ⊤) (sized_field Spell)) bs from at (Err (error.BadRecording (to - length ys)))
  block_bad ys bad (xs, s, (n, rest, t, f, (l, e))) =
      let here : drop from bs ≡ xs ++ drop to bs = s.is in
      let field : IsField 8 n (drop from bs) (rest ++ drop to bs) = subst (λ l. IsField 8 n l (rest ++ drop to bs)) (sym here) (field_then 8 n xs rest (drop to bs) f) in
      let size = field_length 8 n xs rest f in
      (8, omega (arith, size, s.to_is, ap length e), inr (n, rest ++ drop to bs, 0, tt, field, refl, (refl, inr (rest, drop to bs, refl, l, λ a h. bad a (subst (Spell a) e h)))))

  pub block_cut : (e : ReplayError) → ReadsFormat byte_list bs from to (Err e) → ReadsFormat (then_ 8 (λ n. ⊤) (sized_field Spell)) bs from at (Err e)
  block_cut e h = stops_along byte_list (then_ 8 (λ n. ⊤) (sized_field Spell)) bs from from to at e (λ j p is s. (j, is, cut s)) h
    where
      none_bad : {j : ℕ} {n : ℕ} {rest : List ℕ} → (raw n).stops rest j → (sized_field Spell n).stops rest j
      none_bad (z, inl s) = (z, inl s)
      none_bad (z, inr (ys, end, e, l, bad)) = absurd (bad ys refl)

      cut : {j : ℕ} → byte_list.stops (drop from bs) j → (then_ 8 (λ n. ⊤) (sized_field Spell)).stops (drop from bs) j
      cut (inl s) = inl s
      cut (inr (n, rest, i, t, f, e, s)) = inr (n, rest, i, t, f, e, none_bad s)

-- ---- in a row

module _ {I A : Type 0} (F : I → Format A) where
  -- one more behind those
  pub each_more : (is : List I) (i : I) (things : List A) (a : A) (xs ys : List ℕ) → (for_each F is).writes things xs → (F i).writes a ys → (for_each F (is ++ i ∷ [])).writes (things ++ a ∷ []) (xs ++ ys)
  each_more [] i things a xs ys (te, xe) h = ((a, []), ap (λ l. l ++ a ∷ []) te, (ys, [], ap (λ l. l ++ ys) xe ∙ sym (append-nil ys), h, (refl, refl)))
  each_more (k ∷ is) i things a xs ys (x, te, (x1, x2, xe, h, g)) m =
      ((x.0, x.1 ++ a ∷ []), ap (λ l. l ++ a ∷ []) te, (x1, x2 ++ ys, ap (λ l. l ++ ys) xe ∙ append_assoc x1 x2 ys, h, each_more is i x.1 a x2 ys g m))

  -- the next one stops reading
  each_stops : (is : List I) (i : I) (rest : List I) (things : List A) (bs xs end : List ℕ) (j : ℕ) → bs ≡ xs ++ end → (for_each F is).writes things xs → (F i).stops end j
      → (for_each F (is ++ i ∷ rest)).stops bs (length xs + j)
  each_stops [] i rest things bs xs end j e (te, xe) s =
      let same : end ≡ bs = ap (λ l. l ++ end) (sym xe) ∙ sym e in
      inl (subst₂ (λ l p. (F i).stops l p) same (omega (arith, ap length xe)) s)
  each_stops (k ∷ is) i rest things bs xs end j e (x, te, (x1, x2, xe, h, g)) s =
      let split : bs ≡ x1 ++ (x2 ++ end) = e ∙ ap (λ l. l ++ end) xe ∙ append_assoc x1 x2 end in
      inr (x.0, x1, x2 ++ end, length x2 + j, split, h, omega (arith, ap length xe, length-append x1 x2), each_stops is i rest x.1 (x2 ++ end) x2 end j refl g s)

  pub each_begin : (bs : List ℕ) (at : ℕ) → at ≤ length bs → IsReadSoFar (for_each F []) bs at at []
  each_begin bs at h = record { xs = []; span = no_span bs at h; are = (refl, refl) }

  pub each_go_on : (bs : List ℕ) (from mid to : ℕ) (is : List I) (i : I) (things : List A) (a : A) → IsReadSoFar (for_each F is) bs from mid things → ReadsFormat (F i) bs mid to (Ok a)
      → IsReadSoFar (for_each F (is ++ i ∷ [])) bs from to (things ++ a ∷ [])
  each_go_on bs from mid to is i things a r (ys, s, h) = record { xs = r.xs ++ ys; span = span_then bs from mid to r.xs ys r.span s; are = each_more is i things a r.xs ys r.are h }

  pub each_stop : (bs : List ℕ) (from mid to at : ℕ) (is : List I) (i : I) (rest : List I) (things : List A) (e : ReplayError) → IsReadSoFar (for_each F is) bs from mid things
      → ReadsFormat (F i) bs mid to (Err e) → ReadsFormat (for_each F (is ++ i ∷ rest)) bs from at (Err e)
  each_stop bs from mid to at is i rest things e r h = stops_along (F i) (for_each F (is ++ i ∷ rest)) bs from mid to at e
      (λ j p e s. (length r.xs + j, omega (arith, e, r.span.to_is), each_stops is i rest things (drop from bs) r.xs (drop mid bs) j r.span.is r.are s)) h

pub read_done : {A : Type 0} (F : Format (List A)) (bs : List ℕ) (from to : ℕ) (things : List A) → IsReadSoFar F bs from to things → ReadsFormat F bs from to (Ok things)
read_done F bs from to things r = (r.xs, r.span, r.are)

-- ---- so many in a row

pub times_more : (n : ℕ) → so_many n ++ tt ∷ [] ≡ so_many (suc n)
times_more zero = refl
times_more (suc n) = ap (λ l. tt ∷ l) (times_more n)

pub times_split : (n k m : ℕ) → m ≡ n + suc k → so_many n ++ tt ∷ so_many k ≡ so_many m
times_split zero k m e =
    let same : suc k ≡ m = omega arith in
    ap (λ i. so_many i) same
times_split (suc n) k zero e = absurd (omega arith)
times_split (suc n) k (suc m) e = ap (λ l. tt ∷ l) (times_split n k m (omega arith))

module _ {A : Type 0} (F : Format A) (bs : List ℕ) where
  pub recording_row_begin : (at : ℕ) → at ≤ length bs → IsReadSoFar (in_a_row F 0) bs at at []
  recording_row_begin at h = each_begin (λ (u : Unit {0}). F) bs at h

  pub recording_row_go_on : (from mid to n : ℕ) (things : List A) (a : A) → IsReadSoFar (in_a_row F n) bs from mid things → ReadsFormat F bs mid to (Ok a) → IsReadSoFar (in_a_row F (n + 1)) bs from to (things ++ a ∷ [])
  recording_row_go_on from mid to n things a r h =
      let next : suc n ≡ n + 1 = omega arith in
      subst (λ is. IsReadSoFar (for_each (λ (u : Unit {0}). F) is) bs from to (things ++ a ∷ [])) (times_more n ∙ ap (λ i. so_many i) next)
      (each_go_on (λ (u : Unit {0}). F) bs from mid to (so_many n) tt things a r h)

  pub recording_row_stop : (from mid to at n count : ℕ) (things : List A) (e : ReplayError) → n < count → IsReadSoFar (in_a_row F n) bs from mid things → ReadsFormat F bs mid to (Err e) → ReadsFormat (in_a_row F count) bs from at (Err e)
  recording_row_stop from mid to at n count things e more r h =
      let split : so_many n ++ tt ∷ so_many (count - suc n) ≡ so_many count = times_split n (count - suc n) count (omega (arith, more)) in
      subst (λ is. ReadsFormat (for_each (λ (u : Unit {0}). F) is) bs from at (Err e)) split
      (each_stop (λ (u : Unit {0}). F) bs from mid to at (so_many n) tt (so_many (count - suc n)) things e r h)

  pub row_done : (from to n count : ℕ) (things : List A) → n ≡ count → IsReadSoFar (in_a_row F n) bs from to things → ReadsFormat (in_a_row F count) bs from to (Ok things)
  row_done from to n count things e r = read_done (in_a_row F count) bs from to things (subst (λ i. IsReadSoFar (in_a_row F i) bs from to things) e r)
