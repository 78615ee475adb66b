-- Characters up to U+00FF, as bytes.
use Rattle.std.proofs.Common.{IsTrue, List, [], ap, arith, drop, get_or, inl, inr, le-ltb, length, lt-ltb, nat_lt, refl, set, slice_get, subst, sym, ℕ, ⊎_elim, ◌*◌, ◌++◌, ◌+◌, ◌-◌, ◌/◌, ◌%◌, ◌<◌, ◌∙◌, ◌∷◌, ◌≡◌, ◌≤◌, ◌⊎◌}
use Rattle.std.proofs.lemmas.Bool.{and_from, cases_lt, cond-false, cond-true}
use Rattle.std.proofs.lemmas.List.{append-nil, drop_all, drop_more, get_or-drop, length-append, length-drop, length_push}
use Rattle.std.proofs.lemmas.Str.{encode_ascii, length-le-encodes}
use Rattle.std.specs.Char.{encode_utf8}
use Rattle.std.specs.Str.{encode_utf8_all}
use lib.Utf8.{low_scalar}
use Rattle.canon_model.proofs.Passes.{can_spell-append}
use Rattle.canon_model.specs.Text.{Form, all_latin1, in_latin1, in_utf16, in_utf8, units}
use Rattle.canon_text.specs.Answers.{Narrows}
use Rattle.canon_text.specs.Faults.{Begins, BeginsNoLatin1}
use Rattle.canon_text.specs.TwoBytes.{IsTwoBytes}
use Rattle.canon_text.specs.Writing.{over}
use Rattle.canon_text.proofs.Bytes.{one_latin1, over-set}
use Rattle.canon_text.proofs.Pairs.{begins_char, units-one}
use Rattle.canon_text.proofs.Reading.{IsFront, front-more, front-nil}

pub record IsNarrowing (form : Form) (source old now : List ℕ) (read written : ℕ) (scalars : List ℕ) : Type 0 where
  pub front : IsFront form source read scalars
  pub latin1 : IsTrue (all_latin1 scalars)
  pub count : written ≡ length scalars
  pub writes : now ≡ over old scalars

pub record Narrowing (form : Form) (source old now : List ℕ) (read written : ℕ) : Type 0 where
  pub scalars : List ℕ
  pub so_far : IsNarrowing form source old now read written scalars

pub narrowing-nil : (form : Form) (source old : List ℕ) → Narrowing form source old old 0 0
narrowing-nil form source old = record { scalars = []; so_far = record { front = front-nil form source; latin1 = refl; count = refl; writes = refl } }

pub narrowing-more : (form : Form) (source old now new : List ℕ) (read read2 written c : ℕ) → Narrowing form source old now read written →
    Begins form c (drop read source) → c < 256 → read2 ≡ read + length (units form (c ∷ [])) → written < length old → new ≡ set now written c →
    Narrowing form source old new read2 (written + 1)
narrowing-more form source old now new read read2 written c h b small e room w =
    let cs = h.scalars in
    record {
      scalars = cs ++ c ∷ [];
      so_far = record {
        front = front-more form source read read2 c cs h.so_far.front b e;
        latin1 = can_spell-append in_latin1 cs (c ∷ []) h.so_far.latin1 (one_latin1 c small);
        count = let k : written ≡ length cs = h.so_far.count in omega (arith, length_push cs c);
        writes = w ∙ over-set old now cs written c h.so_far.writes (sym h.so_far.count) room;
      };
    }

pub narrowing-stop : (form : Form) (source old now : List ℕ) (read written : ℕ) → Narrowing form source old now read written → BeginsNoLatin1 form (drop read source) → Narrows form source old now read written
narrowing-stop form source old now read written h stops = record {
  scalars = h.scalars;
  rest = drop read source;
  can = h.so_far.front.can;
  latin1 = h.so_far.latin1;
  is = h.so_far.front.is;
  stops = stops;
  reads = h.so_far.front.place;
  count = h.so_far.count;
  writes = h.so_far.writes;
}

pub some_units : (form : Form) (c : ℕ) → 0 < length (units form (c ∷ []))
unfolding encode_utf8
some_units in_utf8 c = let few = length-le-encodes (c ∷ []) in omega arith
some_units in_utf16 c = grind arith
some_units in_latin1 c = omega arith

none_begins : (form : Form) (source : List ℕ) → source ≡ [] → BeginsNoLatin1 form source
none_begins form source e c small b =
    let long : length source ≡ length (units form (c ∷ [])) + length b.more = ap length b.is ∙ length-append (units form (c ∷ [])) b.more in
    let none : length source ≡ 0 = ap length e in
    let some = some_units form c in
    omega arith

pub narrowing-end : (form : Form) (source old now : List ℕ) (read written : ℕ) → Narrowing form source old now read written → length source ≤ read → Narrows form source old now read written
narrowing-end form source old now read written h e = narrowing-stop form source old now read written h (none_begins form (drop read source) (drop_all read source e))

-- what is written is no longer than what is read
pub narrowing_room : (source old now : List ℕ) (read written : ℕ) → Narrowing in_utf8 source old now read written → written ≤ read
narrowing_room source old now read written h =
    let k : written ≡ length h.scalars = h.so_far.count in
    let r : read ≡ length (encode_utf8_all h.scalars) = h.so_far.front.place in
    let few = length-le-encodes h.scalars in
    omega arith

-- ---- a unit up to 255
slice_get_head : (u : ℕ) (next : List ℕ) → u < 256 → Begins in_utf16 u (u ∷ next)
slice_get_head u next h = begins_char u u (slice_get next 0) next (omega arith) refl (inl (refl, inl (omega arith)))

pub begins_unit : (xs : List ℕ) (n : ℕ) → n < length xs → get_or xs n 0 < 256 → Begins in_utf16 (get_or xs n 0) (drop n xs)
begins_unit xs n h small = subst (λ l. Begins in_utf16 (get_or xs n 0) l) (sym (drop_more xs n 0 h)) (slice_get_head (get_or xs n 0) (drop (n + 1) xs) small)

pub unit_width : (u : ℕ) → u < 256 → length (units in_utf16 (u ∷ [])) ≡ 1
unit_width u h = ap length (units-one u ∙ cond-true (nat_lt u 0x1_0000) _ _ (lt-ltb u 0x1_0000 (omega arith)))

begins_above : (u : ℕ) (rest : List ℕ) → 256 ≤ u → BeginsNoLatin1 in_utf16 (u ∷ rest)
begins_above u rest h c small b =
    let is : u ∷ rest ≡ c ∷ b.more = b.is ∙ ap (λ l. l ++ b.more) (units-one c ∙ cond-true (nat_lt c 0x1_0000) _ _ (lt-ltb c 0x1_0000 (omega arith))) in
    let same : u ≡ c = cc in
    omega arith

pub no_unit : (xs : List ℕ) (n : ℕ) → n < length xs → 256 ≤ get_or xs n 0 → BeginsNoLatin1 in_utf16 (drop n xs)
no_unit xs n h big = subst (λ l. BeginsNoLatin1 in_utf16 l) (sym (drop_more xs n 0 h)) (begins_above (get_or xs n 0) (drop (n + 1) xs) big)

-- ---- a character up to U+00FF in UTF-8
encode_two : (c : ℕ) → 128 ≤ c → c < 256 → encode_utf8 c ≡ (192 + c / 64) ∷ (128 + c % 64) ∷ []
unfolding encode_utf8
encode_two c h k = cond-false (nat_lt c 128) _ _ (le-ltb c 128 h) ∙ cond-true (nat_lt c 2048) _ _ (lt-ltb c 2048 (omega arith))

begins8 : (c : ℕ) (source more : List ℕ) → c < 256 → source ≡ encode_utf8 c ++ more → Begins in_utf8 c source
begins8 c source more small e = record { more = more; can = and_from _ _ (low_scalar c (omega arith)) refl; is = e ∙ ap (λ l. l ++ more) (sym (append-nil (encode_utf8 c))) }

pub begins_ascii : (xs : List ℕ) (n : ℕ) → n < length xs → get_or xs n 0 < 128 → Begins in_utf8 (get_or xs n 0) (drop n xs)
begins_ascii xs n h small = begins8 (get_or xs n 0) (drop n xs) (drop (n + 1) xs) (omega arith) (drop_more xs n 0 h ∙ ap (λ l. l ++ drop (n + 1) xs) (sym (encode_ascii (get_or xs n 0) small)))

two_more : (xs : List ℕ) (n : ℕ) → n + 1 < length xs → drop n xs ≡ get_or xs n 0 ∷ get_or xs (n + 1) 0 ∷ drop (n + 2) xs
two_more xs n h = drop_more xs n 0 (omega arith) ∙ ap (λ l. get_or xs n 0 ∷ l) (drop_more xs (n + 1) 0 h ∙ ap (λ k. get_or xs (n + 1) 0 ∷ drop k xs) (omega arith))

pub begins_two : (xs : List ℕ) (n c : ℕ) → n + 1 < length xs → 194 ≤ get_or xs n 0 → get_or xs n 0 ≤ 195 → 128 ≤ get_or xs (n + 1) 0 → get_or xs (n + 1) 0 < 192
    → c ≡ (get_or xs n 0 - 192) * 64 + (get_or xs (n + 1) 0 - 128) → Begins in_utf8 c (drop n xs)
begins_two xs n c h a b d e is =
    let first : 192 + c / 64 ≡ get_or xs n 0 = omega arith in
    let second : 128 + c % 64 ≡ get_or xs (n + 1) 0 = omega arith in
    let two : encode_utf8 c ≡ get_or xs n 0 ∷ get_or xs (n + 1) 0 ∷ [] = encode_two c (omega arith) (omega arith) ∙ cc in
    begins8 c (drop n xs) (drop (n + 2) xs) (omega arith) (two_more xs n h ∙ ap (λ l. l ++ drop (n + 2) xs) (sym two))

-- what a character up to U+00FF begins with
Starts : ℕ → List ℕ → Type 0
Starts c source = ((c < 128) × (0 < length source) × (get_or source 0 0 ≡ c)) ⊎ ((128 ≤ c) × (1 < length source) × (get_or source 0 0 ≡ 192 + c / 64) × (get_or source 1 0 ≡ 128 + c % 64))

starts_one : (c : ℕ) (source more : List ℕ) → c < 128 → source ≡ encode_utf8 c ++ more → Starts c source
unfolding Starts
starts_one c source more h e =
    let is : source ≡ c ∷ more = e ∙ ap (λ l. l ++ more) (encode_ascii c h) in
    inl (h, omega (arith, ap length is), ap (λ l. get_or l 0 0) is)

starts_two : (c : ℕ) (source more : List ℕ) → 128 ≤ c → c < 256 → source ≡ encode_utf8 c ++ more → Starts c source
unfolding Starts
starts_two c source more h k e =
    let is : source ≡ (192 + c / 64) ∷ (128 + c % 64) ∷ more = e ∙ ap (λ l. l ++ more) (encode_two c h k) in
    inr (h, omega (arith, ap length is), ap (λ l. get_or l 0 0) is, ap (λ l. get_or l 1 0) is)

starts : (c : ℕ) (source : List ℕ) → c < 256 → Begins in_utf8 c source → Starts c source
starts c source k b =
    let e : source ≡ encode_utf8 c ++ b.more = b.is ∙ ap (λ l. l ++ b.more) (append-nil (encode_utf8 c)) in
    ⊎_elim (λ l. starts_one c source b.more l e) (λ g. starts_two c source b.more g k e) (cases_lt c 128)

-- bytes that begin no such character
NotLatin1 : List ℕ → Type 0
NotLatin1 source = (128 ≤ get_or source 0 0) × ((length source ≤ 1) ⊎ (get_or source 0 0 < 194) ⊎ (195 < get_or source 0 0) ⊎ (get_or source 1 0 < 128) ⊎ (192 ≤ get_or source 1 0))

clash : (c : ℕ) (source : List ℕ) → c < 256 → Starts c source → NotLatin1 source → ⊥
unfolding Starts NotLatin1
clash c source k (inl (a, b, d)) (h, g) = omega arith
clash c source k (inr (a, b, d, e)) (h, g) = grind arith

pub no_latin1 : (xs : List ℕ) (n : ℕ) → 128 ≤ get_or xs n 0 → (length xs ≤ n + 1) ⊎ ((get_or xs n 0 < 194) ⊎ ((195 < get_or xs n 0) ⊎ ((get_or xs (n + 1) 0 < 128) ⊎ (192 ≤ get_or xs (n + 1) 0)))) → BeginsNoLatin1 in_utf8 (drop n xs)
unfolding NotLatin1
no_latin1 xs n h cause c small b =
    let zeroth : get_or (drop n xs) 0 0 ≡ get_or xs n 0 = get_or-drop n xs 0 0 ∙ ap (λ k. get_or xs k 0) (omega arith) in
    let first : get_or (drop n xs) 1 0 ≡ get_or xs (n + 1) 0 = get_or-drop n xs 1 0 in
    let long : length (drop n xs) ≡ length xs - n = length-drop n xs in
    clash c (drop n xs) small (starts c (drop n xs) small b) (
      omega arith,
      ⊎_elim (λ l. inl (omega arith))
          (λ r. ⊎_elim (λ l. inr (inl (omega arith)))
          (λ r2. ⊎_elim (λ l. inr (inr (inl (omega arith))))
          (λ r3. ⊎_elim (λ l. inr (inr (inr (inl (omega arith))))) (λ l. inr (inr (inr (inr (omega arith))))) r3) r2) r) cause,
    )

-- such a character has two bytes
pub two_long : (first second c : ℕ) → IsTwoBytes first second c → 2 ≡ length (encode_utf8 c)
two_long first second c a =
    let low : 194 ≤ first = a.0 in
    let high : first ≤ 195 = a.1 in
    let is : c ≡ (first - 192) * 64 + (second - 128) = a.4 in
    let top : second < 192 = a.3 in
    sym (ap length (encode_two c (omega arith) (omega arith)))
