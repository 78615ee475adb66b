-- The characters of UTF-16, of one unit or a pair of surrogates.
use Rattle.std.proofs.Common.{IfSome, IsSomeAnd, List, MatchOption, None, Option, Some, [], ap, arith, drop, flat_map, get_or, inl, inr, le-ltb, length, lt-ltb, nat_lt, refl, set, slice_get, subst, subst₂, take, suc, sym, true, zero, ℕ, ⊎_elim, ◌*◌, ◌++◌, ◌+◌, ◌-◌, ◌/◌, ◌%◌, ◌<◌, ◌∙◌, ◌∷◌, ◌≡◌, ◌≤◌, ◌⊎◌}
use Rattle.std.proofs.lemmas.Bool.{and_from, and_parts, cases_lt, cond-false, cond-true, le-leb}
use Rattle.std.proofs.lemmas.List.{append-nil, drop_more, get_or-append_right, get_or-drop, get_or-take, get_or_past, length-append, length-drop, take_more, take_more_set}
use Rattle.std.specs.Char.Escape.{encode_utf16}
use Rattle.std.specs.Char.Utf16.{surrogate_pair_char}
use lib.Utf8.{scalar, scalar_cases}
use Rattle.canon_model.specs.Text.{in_utf16, unit_bytes, units}
use Rattle.canon_text.specs.Decoding.{units_in}
use Rattle.canon_text.specs.Faults.{Begins, IllFormed}
use Rattle.canon_text.specs.Runs.{run}
use Rattle.canon_text.specs.Surrogates.{CutsNoPair, IsCharOf, IsLone}

-- what is known of a scalar value's units
IsUnits : ℕ → List ℕ → Type 0
IsUnits c us = ((us ≡ c ∷ []) × ((c < 0xD800) ⊎ (0xE000 ≤ c)))
    ⊎ ((high : ℕ) × (low : ℕ) × (us ≡ high ∷ low ∷ []) × (0xD800 ≤ high) × (high < 0xDC00) × (0xDC00 ≤ low) × (low < 0xE000) × (c ≡ 0x1_0000 + (high - 0xD800) * 0x400 + (low - 0xDC00)))

units_of : (c : ℕ) → scalar c ≡ true → IsUnits c (encode_utf16 c)
unfolding IsUnits
units_of c s = ⊎_elim
    (λ h. inl (cond-true (nat_lt c 0x1_0000) _ _ (lt-ltb c 0x1_0000 h), ⊎_elim (λ l. inl l) (λ g. inr g.0) (scalar_cases c s)))
    (λ h. inr (
      (0xD800 + (c - 0x1_0000) / 0x400),
      (0xDC00 + (c - 0x1_0000) % 0x400),
      cond-false (nat_lt c 0x1_0000) _ _ (le-ltb c 0x1_0000 h),
      omega arith,
      ⊎_elim (λ l. omega arith) (λ g. let top : c < 1114112 = g.1 in omega arith) (scalar_cases c s),
      omega arith,
      omega arith,
      omega arith,
    ))
    (cases_lt c 0x1_0000)

pub scalar_low : (c : ℕ) → c < 0xD800 → scalar c ≡ true
scalar_low c h = cond-true (nat_lt c 55296) _ _ (lt-ltb c 55296 h)

pub scalar_high : (c : ℕ) → 0xE000 ≤ c → c < 0x11_0000 → scalar c ≡ true
scalar_high c h g = cond-false (nat_lt c 55296) _ _ (le-ltb c 55296 (omega arith)) ∙ and_from _ _ (le-leb 57344 c h) (lt-ltb c 1114112 g)

-- the units of one character
pub units-one : (c : ℕ) → units in_utf16 (c ∷ []) ≡ encode_utf16 c
units-one c = append-nil (encode_utf16 c)

begins : (c : ℕ) (source more : List ℕ) → scalar c ≡ true → source ≡ encode_utf16 c ++ more → Begins in_utf16 c source
begins c source more s e = record { more = more; can = and_from _ _ s refl; is = e ∙ ap (λ l. l ++ more) (sym (units-one c)) }

pair_units : (u v : ℕ) → 0xD800 ≤ u → u < 0xDC00 → 0xDC00 ≤ v → v < 0xE000 → encode_utf16 (surrogate_pair_char u v) ≡ u ∷ v ∷ []
pair_units u v a b c d =
    let e : (0xD800 + (surrogate_pair_char u v - 0x1_0000) / 0x400) ≡ u = omega arith in
    let f : (0xDC00 + (surrogate_pair_char u v - 0x1_0000) % 0x400) ≡ v = omega arith in
    cond-false (nat_lt (surrogate_pair_char u v) 0x1_0000) _ _ (le-ltb (surrogate_pair_char u v) 0x1_0000 (omega arith)) ∙ cc

pub begins_char : (u c : ℕ) (next : Option ℕ) (rest : List ℕ) → u < 0x1_0000 → next ≡ slice_get rest 0 → IsCharOf u next c → Begins in_utf16 c (u ∷ rest)
begins_char u c next rest k e (inl (same, free)) =
    let s : scalar c ≡ true = ⊎_elim (λ l. let l2 : u < 0xD800 = l in scalar_low c (omega arith)) (λ g. let g2 : 0xE000 ≤ u = g in scalar_high c (omega arith) (omega arith)) free in
    let one : encode_utf16 c ≡ c ∷ [] = cond-true (nat_lt c 0x1_0000) _ _ (lt-ltb c 0x1_0000 (omega arith)) in
    begins c (u ∷ rest) rest s (ap (λ x. x ∷ rest) (sym same) ∙ ap (λ l. l ++ rest) (sym one))
begins_char u c next [] k e (inr (low, high, pair)) = absurd (subst (λ o. IsSomeAnd o (λ v. (0xDC00 ≤ v) × (v < 0xE000) × (c ≡ surrogate_pair_char u v))) e pair)
begins_char u c next (v ∷ rest) k e (inr (low, high, pair)) =
    let parts = subst (λ o. IsSomeAnd o (λ v. (0xDC00 ≤ v) × (v < 0xE000) × (c ≡ surrogate_pair_char u v))) e pair in
    let a : 0xDC00 ≤ v = parts.0 in
    let b : v < 0xE000 = parts.1 in
    let d : c ≡ surrogate_pair_char u v = parts.2 in
    let s : scalar c ≡ true = scalar_high c (omega arith) (omega arith) in
    let two : encode_utf16 c ≡ u ∷ v ∷ [] = ap (λ x. encode_utf16 x) d ∙ pair_units u v low high a b in
    begins c (u ∷ v ∷ rest) rest s (ap (λ l. l ++ rest) (sym two))

no_char : (u c : ℕ) (next : Option ℕ) (rest more us : List ℕ) → next ≡ slice_get rest 0 → IsLone u next → IsUnits c us → u ∷ rest ≡ us ++ more → ⊥
unfolding IsUnits
no_char u c next rest more us e lone (inl h) is =
    let is2 : u ∷ rest ≡ c ∷ more = is ∙ ap (λ l. l ++ more) h.0 in
    let same : u ≡ c = cc in
    let low : 0xD800 ≤ u = lone.0 in
    let high : u < 0xE000 = lone.1 in
    absurd (⊎_elim (λ l. let l2 : c < 0xD800 = l in omega arith) (λ l. let l2 : 0xE000 ≤ c = l in omega arith) h.1)
no_char u c next [] more us e lone (inr (hi, lo, h, h1, h2, h3, h4, h5)) is =
    let is2 : u ∷ [] ≡ hi ∷ lo ∷ more = is ∙ ap (λ l. l ++ more) h in cc
no_char u c next (v ∷ rest) more us e lone (inr (hi, lo, h, h1, h2, h3, h4, h5)) is =
    let is2 : u ∷ v ∷ rest ≡ hi ∷ lo ∷ more = is ∙ ap (λ l. l ++ more) h in
    let same : u ≡ hi = cc in
    let same2 : v ≡ lo = cc in
    let f = subst (λ o. IfSome o (λ v. u < 0xDC00 → (v < 0xDC00) ⊎ (0xE000 ≤ v))) e lone.2 in
    absurd (⊎_elim (λ l. let l2 : v < 0xDC00 = l in omega arith) (λ l. let l2 : 0xE000 ≤ v = l in omega arith) (f (omega arith)))

pub ill_char : (u : ℕ) (next : Option ℕ) (rest : List ℕ) → next ≡ slice_get rest 0 → IsLone u next → IllFormed in_utf16 (u ∷ rest)
ill_char u next rest e lone = record {
  some = omega arith;
  none = λ c b. no_char u c next rest b.more (encode_utf16 c) e lone (units_of c (and_parts _ _ b.can).0) (b.is ∙ ap (λ l. l ++ b.more) (units-one c));
}

next_of : (xs : List ℕ) (n : ℕ) → slice_get xs n ≡ slice_get (drop n xs) 0
next_of [] zero = refl
next_of [] (suc n) = refl
next_of (x ∷ xs) zero = refl
next_of (x ∷ xs) (suc n) = next_of xs n

IsAnswer : List ℕ → Option ℕ → Type 0
IsAnswer xs r = MatchOption r (IllFormed in_utf16 xs) (λ c. Begins in_utf16 c xs)

answer : (u : ℕ) (next r : Option ℕ) (rest : List ℕ) → u < 0x1_0000 → next ≡ slice_get rest 0 → MatchOption r (IsLone u next) (λ c. IsCharOf u next c) → IsAnswer (u ∷ rest) r
unfolding IsAnswer
answer u next None rest k e h = ill_char u next rest e h
answer u next (Some c) rest k e h = begins_char u c next rest k e h

-- what a unit and the next tell of the units from a place on
pub char_begins : (xs : List ℕ) (n u : ℕ) (next r : Option ℕ) → n < length xs → u ≡ get_or xs n 0 → u < 0x1_0000 → next ≡ slice_get xs (n + 1) → MatchOption r (IsLone u next) (λ c. IsCharOf u next c)
    → MatchOption r (IllFormed in_utf16 (drop n xs)) (λ c. Begins in_utf16 c (drop n xs))
unfolding IsAnswer
char_begins xs n u next r h is k e a =
    let whole : u ∷ drop (n + 1) xs ≡ drop n xs = ap (λ x. x ∷ drop (n + 1) xs) is ∙ sym (drop_more xs n 0 h) in
    subst (λ l. IsAnswer l r) whole (answer u next r (drop (n + 1) xs) k (e ∙ next_of xs (n + 1)) a)

-- the units that bytes hold
unit_in : (bytes : List ℕ) (n k : ℕ) → k ≡ 2 * n → suc k < length bytes → get_or (units_in bytes) n 0 ≡ get_or bytes k 0 + 256 * get_or bytes (suc k) 0
unit_in [] n k e h = absurd (omega arith)
unit_in (low ∷ []) n k e h = absurd (omega arith)
unit_in (low ∷ high ∷ bytes) zero zero e h = refl
unit_in (low ∷ high ∷ bytes) zero (suc k) e h = absurd (omega arith)
unit_in (low ∷ high ∷ bytes) (suc n) zero e h = absurd (omega arith)
unit_in (low ∷ high ∷ bytes) (suc n) (suc zero) e h = absurd (omega arith)
unit_in (low ∷ high ∷ bytes) (suc n) (suc (suc k)) e h = unit_in bytes n k (omega arith) (omega arith)

one_more : (k : ℕ) → k + 1 ≡ suc k
one_more k = omega arith

pub length-units_in : (bytes : List ℕ) → length (units_in bytes) ≡ length bytes / 2
length-units_in [] = refl
length-units_in (low ∷ []) = refl
length-units_in (low ∷ high ∷ bytes) = let more = length-units_in bytes in omega arith

units_back : (bytes : List ℕ) (half : ℕ) → ((k : ℕ) → get_or bytes k 0 < 256) → length bytes ≡ 2 * half → flat_map unit_bytes (units_in bytes) ≡ bytes
units_back [] half small even = refl
units_back (low ∷ []) half small even = absurd (omega arith)
units_back (low ∷ high ∷ bytes) half small even =
    let l : low < 256 = small 0 in
    let h : high < 256 = small 1 in
    let a : (low + 256 * high) % 256 ≡ low = omega arith in
    let b : (low + 256 * high) / 256 ≡ high = omega arith in
    let more : flat_map unit_bytes (units_in bytes) ≡ bytes = units_back bytes (half - 1) (λ k. small (suc (suc k))) (omega arith) in
    cc

-- bytes are the bytes of the units that they hold
pub units_in-bytes : (bytes : List ℕ) → ((k : ℕ) → get_or bytes k 0 < 256) → length bytes % 2 ≡ 0 → flat_map unit_bytes (units_in bytes) ≡ bytes
units_in-bytes bytes small even = units_back bytes (length bytes / 2) small (omega arith)

same_units : (c d : ℕ) (us vs xs ys : List ℕ) → IsUnits c us → IsUnits d vs → us ++ xs ≡ vs ++ ys → (c ≡ d) × (xs ≡ ys)
unfolding IsUnits
same_units c d us vs xs ys (inl h) (inl g) e =
    let e2 : c ∷ xs ≡ d ∷ ys = ap (λ l. l ++ xs) (sym h.0) ∙ e ∙ ap (λ l. l ++ ys) g.0 in (cc, cc)
same_units c d us vs xs ys (inl h) (inr (hi, lo, g, g1, g2, g3, g4, g5)) e =
    let e2 : c ∷ xs ≡ hi ∷ lo ∷ ys = ap (λ l. l ++ xs) (sym h.0) ∙ e ∙ ap (λ l. l ++ ys) g in
    let same : c ≡ hi = cc in
    absurd (⊎_elim (λ l. let l2 : c < 0xD800 = l in omega arith) (λ l. let l2 : 0xE000 ≤ c = l in omega arith) h.1)
same_units c d us vs xs ys (inr (hi, lo, h, h1, h2, h3, h4, h5)) (inl g) e =
    let e2 : hi ∷ lo ∷ xs ≡ d ∷ ys = ap (λ l. l ++ xs) (sym h) ∙ e ∙ ap (λ l. l ++ ys) g.0 in
    let same : d ≡ hi = cc in
    absurd (⊎_elim (λ l. let l2 : d < 0xD800 = l in omega arith) (λ l. let l2 : 0xE000 ≤ d = l in omega arith) g.1)
same_units c d us vs xs ys (inr (hi, lo, h, h1, h2, h3, h4, h5)) (inr (hj, lj, g, g1, g2, g3, g4, g5)) e =
    let e2 : hi ∷ lo ∷ xs ≡ hj ∷ lj ∷ ys = ap (λ l. l ++ xs) (sym h) ∙ e ∙ ap (λ l. l ++ ys) g in
    let same : hi ≡ hj = cc in
    let same2 : lo ≡ lj = cc in
    (omega arith, cc)

-- no character's units begin another's
pub char_same : (c d : ℕ) (xs ys : List ℕ) → scalar c ≡ true → scalar d ≡ true → encode_utf16 c ++ xs ≡ encode_utf16 d ++ ys → (c ≡ d) × (xs ≡ ys)
char_same c d xs ys h g e = same_units c d (encode_utf16 c) (encode_utf16 d) xs ys (units_of c h) (units_of d g) e

-- a character that begins a source begins its front, where the front ends in no half of a pair
in_front : (front tail more us : List ℕ) (c : ℕ) → 0 < length front → CutsNoPair (front ++ tail) (length front) → IsUnits c us → front ++ tail ≡ us ++ more → (left : List ℕ) × (front ≡ us ++ left)
unfolding IsUnits
in_front [] tail more us c some whole is e = absurd (omega arith)
in_front (u ∷ front) tail more us c some whole (inl h) e =
    let e2 : u ∷ (front ++ tail) ≡ c ∷ more = e ∙ ap (λ l. l ++ more) h.0 in
    let same : u ≡ c = cc in
    (front, ap (λ x. x ∷ front) same ∙ ap (λ l. l ++ front) (sym h.0))
in_front (u ∷ []) tail more us c some whole (inr (hi, lo, h, h1, h2, h3, h4, h5)) e =
    let e2 : u ∷ tail ≡ hi ∷ lo ∷ more = e ∙ ap (λ l. l ++ more) h in
    let same : u ≡ hi = cc in
    let next : get_or tail 0 0 ≡ lo = ap (λ l. get_or l 1 0) e2 in
    absurd (⊎_elim
    (λ before. ⊎_elim (λ l. let l2 : u < 0xD800 = l in omega arith) (λ l. let l2 : 0xDC00 ≤ u = l in omega arith) before)
    (λ behind. let l2 : get_or tail 0 0 < 0xDC00 = behind in omega arith)
    whole)
in_front (u ∷ v ∷ front) tail more us c some whole (inr (hi, lo, h, h1, h2, h3, h4, h5)) e =
    let e2 : u ∷ v ∷ (front ++ tail) ≡ hi ∷ lo ∷ more = e ∙ ap (λ l. l ++ more) h in
    let same : u ≡ hi = cc in
    let same2 : v ≡ lo = cc in
    (front, ap (λ x. x ∷ v ∷ front) same ∙ ap (λ x. hi ∷ x ∷ front) same2 ∙ ap (λ l. l ++ front) (sym h))

-- of a whole that is cut in no pair, what stands behind a front
pub cuts_none_behind : (front rest : List ℕ) (at n : ℕ) → at ≡ length front + n → 0 < n → CutsNoPair (front ++ rest) at → CutsNoPair rest n
cuts_none_behind front rest at n e some whole =
    let before : get_or (front ++ rest) (at - 1) 0 ≡ get_or rest (n - 1) 0 = get_or-append_right front rest (length front) (at - 1) 0 refl (omega arith) ∙ ap (λ k. get_or rest k 0) (omega arith) in
    let behind : get_or (front ++ rest) at 0 ≡ get_or rest n 0 = get_or-append_right front rest (length front) at 0 refl (omega arith) ∙ ap (λ k. get_or rest k 0) (omega arith) in
    subst₂ (λ u v. ((u < 0xD800) ⊎ (0xDC00 ≤ u)) ⊎ (v < 0xDC00)) before behind whole

-- what no character begins, none begins where more follows and no pair is cut
pub ill_longer : (front tail : List ℕ) → IllFormed in_utf16 front → CutsNoPair (front ++ tail) (length front) → IllFormed in_utf16 (front ++ tail)
ill_longer front tail ill whole = record {
  some = let some : 0 < length front = ill.some in omega (arith, length-append front tail);
  none = λ c b.
      let one = units-one c in
      let found = in_front front tail b.more (encode_utf16 c) c ill.some whole (units_of c (and_parts _ _ b.can).0) (b.is ∙ ap (λ l. l ++ b.more) one) in
      ill.none c (record { more = found.0; can = b.can; is = found.1 ∙ ap (λ l. l ++ found.0) (sym one) });
}

-- one unit more of what bytes hold from a place on
pub units-set : (bytes now : List ℕ) (from i u : ℕ) → i < length now → take i now ≡ run (units_in bytes) from i → from + i < length bytes / 2 → u ≡ get_or bytes (2 * (from + i)) 0 + 256 * get_or bytes (2 * (from + i) + 1) 0
    → take (i + 1) (set now i u) ≡ run (units_in bytes) from (i + 1)
units-set bytes now from i u room h small is =
    let at = from + i in
    let here : u ≡ get_or (units_in bytes) at 0 = is ∙ ap (λ k. get_or bytes (2 * at) 0 + 256 * get_or bytes k 0) (one_more (2 * at)) ∙ sym (unit_in bytes at (2 * at) refl (omega arith)) in
    take_more_set now i u room ∙ ap (λ l. l ++ u ∷ []) h ∙ ap (λ x. run (units_in bytes) from i ++ x ∷ []) (here ∙ sym (get_or-drop from (units_in bytes) i 0))
    ∙ sym (take_more (drop from (units_in bytes)) i 0 (omega (arith, length-drop from (units_in bytes), length-units_in bytes)))

-- a unit that was made
pub unit_made : (source now : List ℕ) (from count k : ℕ) → take count now ≡ run source from count → k < count → get_or now k 0 ≡ get_or source (from + k) 0
unit_made source now from count k h small = sym (get_or-take count now k 0 small) ∙ ap (λ l. get_or l k 0) h ∙ get_or-take count (drop from source) k 0 small ∙ get_or-drop from source k 0

-- behind a unit that begins no pair none is cut, nor is one at the end
pub cuts_none_last : (source now : List ℕ) (from count at : ℕ) → at ≡ from + count → take count now ≡ run source from count → 0 < count
    → (get_or now (count - 1) 0 < 0xD800) ⊎ (0xDC00 ≤ get_or now (count - 1) 0) → CutsNoPair source at
cuts_none_last source now from count at e made some last =
    let is : get_or now (count - 1) 0 ≡ get_or source (at - 1) 0 = unit_made source now from count (count - 1) made (omega arith) ∙ ap (λ k. get_or source k 0) (omega arith) in
    inl (subst (λ u. (u < 0xD800) ⊎ (0xDC00 ≤ u)) is last)

pub cuts_none_end : (source : List ℕ) (at : ℕ) → length source ≤ at → CutsNoPair source at
cuts_none_end source at past = inr (subst (λ u. u < 0xDC00) (sym (get_or_past source at 0 past)) (omega arith))
