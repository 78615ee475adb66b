-- What the conversions of a text into its block say of its scalar values.
use Rattle.std.proofs.Common.{◌≡◌, ◌≤◌, ◌<◌, ◌*◌, ◌+◌, ◌-◌, ◌/◌, ◌%◌, ◌++◌, ◌^◌, ◌∙◌, ◌⊎◌, ◌↔◌, Bool, IsTrue, IsUtf8, List, [], ◌∷◌, ap}
use Rattle.std.proofs.Common.{arith, drop, false, get_or, inl, inr, le-ltb, length, lt-ltb, nat_lt, refl, subst, suc, sym, take, true, zero, ℕ, ⊎_elim}
use Rattle.std.proofs.lemmas.Bool.{cases_lt, cond-false, cond-true, false≢true}
use Rattle.std.proofs.lemmas.List.{append-nil, drop_at, get_or-append-add, get_or_at, length-append, length-drop, length-take, take-take, take_all, take_at}
use Rattle.std.proofs.lemmas.Str.{encode_ascii, encodes_same, length-le-encodes}
use Rattle.std.specs.Char.{encode_utf8}
use Rattle.std.specs.Str.{all_scalars, encode_utf8_all}
use Rattle.canon_lowering.specs.Storing.{narrow}
use Rattle.canon_model.proofs.Passes.{units-append}
use Rattle.canon_model.specs.Memory.{bytes_at, bytes_in}
use Rattle.canon_model.specs.Text.{Spells, all_latin1, can_spell, compact, in_utf16, in_utf8, spelling, units}
use Rattle.canon_text.proofs.Bytes.{latin1_not, latin1_units}
use Rattle.canon_text.proofs.Splits.{GoesOn, first_can, first_units, fronts}
use Rattle.canon_text.proofs.Widths.{length-unit_bytes, widths_le}
use Rattle.canon_text.specs.Answers.{Narrows, Widens}
use Rattle.canon_text.specs.Faults.{Begins, IsFirstFault, error_place}
use Rattle.canon_text.specs.declared.error.TextError.{TextError}
use Rattle.canon_text.proofs.Lawful.{one_fault}
use Rattle.canon_model.proofs.Numbers.{bytes_at-put_mid}
use borrow.Rule.Slice.PartMut.{put_mid}
use Rattle.canon_text.specs.Writing.{over}
use Rattle.canon_model.specs.Text.{most_bytes}
use Rattle.canon_text.proofs.Kept.{spelling16-append}

-- ---- which texts are Latin-1

-- a character above U+00FF begins with a byte from 0xC4 on
high_first : (c : ℕ) (rest : List ℕ) → 256 ≤ c → 196 ≤ get_or (encode_utf8 c ++ rest) 0 0
unfolding encode_utf8
high_first c rest h = grind arith

low_one : (c : ℕ) (rest : List ℕ) (k : ℕ) → c < 128 → 196 ≤ get_or (encode_utf8 c ++ rest) k 0 → (j : ℕ) × (196 ≤ get_or rest j 0)
low_one c rest zero h big = absurd (omega (arith, h, ap (λ (l : List ℕ). get_or (l ++ rest) 0 0) (encode_ascii c h), big))
low_one c rest (suc k) h big = (k, omega (arith, ap (λ (l : List ℕ). get_or (l ++ rest) (suc k) 0) (encode_ascii c h), big))

encode_two : (c : ℕ) → 128 ≤ c → c < 256 → encode_utf8 c ≡ (192 + c / 64) ∷ (128 + c % 64) ∷ []
unfolding encode_utf8
encode_two c h k = cond-false (nat_lt c 128) _ _ (le-ltb c 128 h) ∙ cond-true (nat_lt c 2048) _ _ (lt-ltb c 2048 (omega arith))

low_two : (c : ℕ) (rest : List ℕ) (k : ℕ) → 128 ≤ c → c < 256 → 196 ≤ get_or (encode_utf8 c ++ rest) k 0 → (j : ℕ) × (196 ≤ get_or rest j 0)
low_two c rest zero h g big = absurd (omega (arith, h, g, ap (λ (l : List ℕ). get_or (l ++ rest) 0 0) (encode_two c h g), big))
low_two c rest (suc zero) h g big = absurd (omega (arith, h, g, ap (λ (l : List ℕ). get_or (l ++ rest) 1 0) (encode_two c h g), big))
low_two c rest (suc (suc k)) h g big = (k, omega (arith, ap (λ (l : List ℕ). get_or (l ++ rest) (suc (suc k)) 0) (encode_two c h g), big))

-- and the others have none
low_each : (c : ℕ) (rest : List ℕ) (k : ℕ) → c < 256 → 196 ≤ get_or (encode_utf8 c ++ rest) k 0 → (j : ℕ) × (196 ≤ get_or rest j 0)
low_each c rest k h big = ⊎_elim (λ l. low_one c rest k l big) (λ g. low_two c rest k g h big) (cases_lt c 128)

pub high_byte : (cs : List ℕ) (k : ℕ) → 196 ≤ get_or (encode_utf8_all cs) k 0 → all_latin1 cs ≡ false
high_byte [] k h = absurd (omega (arith, h))
high_byte (c ∷ cs) k h = ⊎_elim
    (λ l. let (j, big) = low_each c (encode_utf8_all cs) k l h in cond-true (nat_lt c 256) (all_latin1 cs) false (lt-ltb c 256 l) ∙ high_byte cs j big)
    (λ g. cond-false (nat_lt c 256) (all_latin1 cs) false (le-ltb c 256 g))
    (cases_lt c 256)

pub string_low_bytes : (cs : List ℕ) → ((k : ℕ) → get_or (encode_utf8_all cs) k 0 < 196) → all_latin1 cs ≡ true
string_low_bytes [] h = refl
string_low_bytes (c ∷ cs) h = ⊎_elim
    (λ l. cond-true (nat_lt c 256) (all_latin1 cs) false (lt-ltb c 256 l) ∙ string_low_bytes cs (λ k. later c cs k h))
    (λ g. absurd (omega (arith, h 0, high_first c (encode_utf8_all cs) g)))
    (cases_lt c 256)
  where
    later : (c : ℕ) (cs : List ℕ) (k : ℕ) → ((j : ℕ) → get_or (encode_utf8 c ++ encode_utf8_all cs) j 0 < 196) → get_or (encode_utf8_all cs) k 0 < 196
    later c cs k h = omega (arith, h (length (encode_utf8 c) + k), get_or-append-add (encode_utf8 c) (encode_utf8_all cs) k 0)

-- ---- a text in Latin-1 as far as it goes

-- no bytes spell no characters alone
none_spelled : (cs : List ℕ) → length (encode_utf8_all cs) ≡ 0 → cs ≡ []
none_spelled [] h = refl
none_spelled (c ∷ cs) h = absurd (omega (arith, h, length-le-encodes (c ∷ cs)))

-- `front` was read, and `more` is left
pub record IsCut (source cs new : List ℕ) (read written : ℕ) (front more : List ℕ) : Type 0 where
  pub is : cs ≡ front ++ more
  pub latin1 : all_latin1 front ≡ true
  pub count : written ≡ length front
  pub reads : read ≡ length (encode_utf8_all front)
  pub rest : drop read source ≡ encode_utf8_all more
  pub can : all_scalars more ≡ true
  pub there : take written new ≡ front
  pub stops : (more ≡ []) ⊎ (all_latin1 cs ≡ false)

-- the front of a text that was read in another way
goes_on : (front cs rest : List ℕ) → can_spell in_utf8 front ≡ true → can_spell in_utf8 cs ≡ true → units in_utf8 front ++ rest ≡ units in_utf8 cs ++ [] → GoesOn in_utf8 front cs rest []
goes_on front cs rest h g e = ⊎_elim (λ l. l) back (fronts in_utf8 front cs rest [] h g e)
  where
    back : GoesOn in_utf8 cs front [] rest → GoesOn in_utf8 front cs rest []
    back r =
        let long : length (encode_utf8_all r.more ++ rest) ≡ 0 = sym (ap length r.rest) in
        let none : r.more ≡ [] = none_spelled r.more (omega (arith, long, length-append (encode_utf8_all r.more) rest)) in
        let same : front ≡ cs = r.is ∙ (ap (λ (l : List ℕ). cs ++ l) none ∙ append-nil cs) in
        record { more = []; is = sym same ∙ sym (append-nil front); rest = ap (λ (l : List ℕ). encode_utf8_all l ++ rest) (sym none) ∙ sym r.rest; can = refl }

-- what is left is nothing, or begins above U+00FF
above : (front more rest cs : List ℕ) → ((c : ℕ) → c < 256 → Begins in_utf8 c rest → ⊥) → cs ≡ front ++ more → rest ≡ units in_utf8 more ++ [] → can_spell in_utf8 more ≡ true → (more ≡ []) ⊎ (all_latin1 cs ≡ false)
above front [] rest cs stops is e can = inl refl
above front (c ∷ more) rest cs stops is e can =
    let begins : Begins in_utf8 c rest = record { more = units in_utf8 more ++ []; can = (first_can in_utf8 c more can).0; is = e ∙ first_units in_utf8 c more [] } in
    inr (⊎_elim (λ l. absurd (stops c l begins)) (λ g. latin1_not cs (length front) (omega (arith, g, ap (λ (l : List ℕ). get_or l (length front) 0) is, get_or_at front c more 0 (length front) refl))) (cases_lt c 256))

pub cut : (source cs old new : List ℕ) (read written : ℕ) → Spells in_utf8 source cs → Narrows in_utf8 source old new read written → (front : List ℕ) × (more : List ℕ) × IsCut source cs new read written front more
cut source cs old new read written spells h =
    let on = goes_on h.scalars cs h.rest h.can spells.can (sym h.is ∙ (sym spells.is ∙ sym (append-nil _))) in
    let left : h.rest ≡ encode_utf8_all on.more = on.rest ∙ append-nil (encode_utf8_all on.more) in (
      h.scalars,
      on.more,
      record {
        is = on.is;
        latin1 = h.latin1;
        count = h.count;
        reads = h.reads;
        rest = ap (drop read) h.is ∙ (drop_at (units in_utf8 h.scalars) h.rest read (sym h.reads) ∙ left);
        can = on.can;
        there = ap (take written) h.writes ∙ take_at h.scalars _ written (sym h.count);
        stops = above h.scalars on.more h.rest cs h.stops on.is on.rest on.can;
      },
    )

-- all was read, or not
pub cut_whole : (source cs new : List ℕ) (read written : ℕ) (front more : List ℕ) → Spells in_utf8 source cs → IsCut source cs new read written front more → read ≡ length source → cs ≡ front
cut_whole source cs new read written front more spells h all =
    let left : length (drop read source) ≡ 0 = omega (arith, length-drop read source, all) in
    h.is ∙ (ap (λ (l : List ℕ). front ++ l) (none_spelled more (sym (ap length h.rest) ∙ left)) ∙ append-nil front)

pub cut_short : (source cs new : List ℕ) (read written : ℕ) (front more : List ℕ) → Spells in_utf8 source cs → IsCut source cs new read written front more → (read ≡ length source → ⊥) → all_latin1 cs ≡ false
cut_short source cs new read written front more spells h short = ⊎_elim
    (λ none. absurd (short (h.reads ∙ ap length (ap encode_utf8_all (sym (h.is ∙ (ap (λ (l : List ℕ). front ++ l) none ∙ append-nil front))) ∙ spells.is))))
    (λ wide. wide)
    h.stops

-- ---- a text in UTF-16 behind its front in Latin-1

pub wide_count : (front more text old new : List ℕ) (so_far units16 : ℕ) → all_latin1 front ≡ true → so_far ≡ length front → text ≡ encode_utf8_all more → Widens in_utf8 text old new so_far units16
    → units16 ≡ length (units in_utf16 (front ++ more))
wide_count front more text old new so_far n latin1 count is h =
    let same : h.scalars ≡ more = encodes_same h.scalars more (sym h.reads ∙ is) in
    omega (arith, h.count, count, ap (λ (l : List ℕ). length (units in_utf16 l)) same, ap length (latin1_units front latin1), ap length (units-append in_utf16 front more), length-append (units in_utf16 front) (units in_utf16 more))

pub length-wide : (cs : List ℕ) → length (spelling in_utf16 cs) ≡ 2 * length (units in_utf16 cs)
length-wide cs = length-unit_bytes (units in_utf16 cs)

pub wide_there : (front more text old new : List ℕ) (so_far k : ℕ) → text ≡ encode_utf8_all more → Widens in_utf8 text old new so_far k → take so_far old ≡ front
    → take (length (spelling in_utf16 (front ++ more))) new ≡ spelling in_utf16 (front ++ more)
wide_there front more text old new so_far k is h first =
    let same : h.scalars ≡ more = encodes_same h.scalars more (sym h.reads ∙ is) in
    let whole : new ≡ over old (spelling in_utf16 (front ++ more)) =
    h.writes ∙ (ap (λ (l : List ℕ). over old (spelling in_utf16 l ++ spelling in_utf16 h.scalars)) first
    ∙ (ap (λ (l : List ℕ). over old (spelling in_utf16 front ++ spelling in_utf16 l)) same ∙ ap (over old) (sym (spelling16-append front more)))) in
    ap (take (length (spelling in_utf16 (front ++ more)))) whole ∙ take_at (spelling in_utf16 (front ++ more)) _ _ refl

-- its units are no more than the bytes of UTF-8
pub units_few : (source cs : List ℕ) → Spells in_utf8 source cs → length (units in_utf16 cs) ≤ length source
units_few source cs spells = omega (arith, widths_le cs, ap length spells.is)

-- ---- in memory

-- the first of the bytes at an address
pub first_bytes : (xs : List ℕ) (p j k : ℕ) → j ≤ k → take j (bytes_at (narrow xs) p k) ≡ bytes_at (narrow xs) p j
unfolding bytes_in
first_bytes xs p j k h = take-take j k _ h

-- a block of memory that was lent, before and after
pub block_old : (xs : List ℕ) (at n : ℕ) → take (at + n - at) (drop at xs) ≡ bytes_at (narrow xs) at n
unfolding bytes_in
block_old xs at n = ap (λ (k : ℕ). take k (drop at xs)) (omega arith)

pub block_new : (xs ys : List ℕ) (at n : ℕ) → at + n ≤ length xs → length ys ≡ length (take (at + n - at) (drop at xs)) → bytes_at (narrow (put_mid at (at + n - at) xs ys)) at n ≡ ys
block_new xs ys at n room long =
    let same : at + n - at ≡ n = omega arith in
    let whole : length ys ≡ n = omega (arith, long, length-take (at + n - at) (drop at xs), length-drop at xs, room) in
    subst (λ (k : ℕ). bytes_at (narrow (put_mid at k xs ys)) at n ≡ ys) (sym same) (bytes_at-put_mid xs ys false at n (omega (arith, room)) whole)

-- a text has no fault
pub no_fault : (text : List ℕ) (e : TextError) → IsUtf8 text → IsFirstFault in_utf8 text e → ⊥
no_fault text e (cs, (can, is)) h = one_fault.excludes in_utf8 text (error_place e) h.at (record { scalars = cs; can = can; is = sym is })

-- the rest of a text, as it is lent
pub rest_slice : (text : List ℕ) (read : ℕ) → take (length text - read) (drop read text) ≡ drop read text
rest_slice text read = take_all (length text - read) (drop read text) (omega (arith, length-drop read text))

-- ---- how many bytes are too many

pub past : (text cs : List ℕ) (b : Bool) → b ≡ true → IsTrue b ↔ (2 ^ 31 ≤ most_bytes compact (length text) cs) → 2 ^ 31 ≤ most_bytes compact (length text) cs
past text cs b is h = h.0 is

pub most_more : (n : ℕ) (cs : List ℕ) (b : Bool) → all_latin1 cs ≡ b → n ≤ most_bytes compact n cs
most_more n cs true is = omega (arith, cond-true (all_latin1 cs) n (2 * n) is)
most_more n cs false is = omega (arith, cond-false (all_latin1 cs) n (2 * n) is)

pub few : (text cs : List ℕ) (b : Bool) → b ≡ false → IsTrue b ↔ (2 ^ 31 ≤ most_bytes compact (length text) cs) → most_bytes compact (length text) cs < 2 ^ 31
few text cs b is h = ⊎_elim (λ l. l) (λ g. absurd (false≢true (sym is ∙ h.1 g))) (cases_lt (most_bytes compact (length text) cs) (2 ^ 31))
