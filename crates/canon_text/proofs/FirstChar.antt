-- The character that a text begins with, out of its bytes.
use Rattle.std.proofs.Common.{IsUtf8, List, [], ap, arith, drop, drop-drop, get_or, le-ltb, length, length-drop, lt-ltb, nat_lt, refl, sym, true, ℕ, ⊎_elim, ◌*◌, ◌++◌, ◌+◌, ◌-◌, ◌/◌, ◌%◌, ◌<◌, ◌∙◌, ◌∷◌, ◌≡◌, ◌≤◌}
use Rattle.std.proofs.lemmas.Bool.{and_parts, cases_lt, cond-false, cond-true}
use Rattle.std.proofs.lemmas.List.{drop_at, get_or-drop}
use Rattle.std.proofs.lemmas.Str.{encode_ascii}
use Rattle.std.specs.Char.{encode_utf8}
use Rattle.std.specs.Str.{encode_utf8_all}
use lib.Utf8.{scalar, scalar_cases}

pub encode-two : (c : ℕ) → 128 ≤ c → c < 2048 → encode_utf8 c ≡ (192 + c / 64) ∷ (128 + c % 64) ∷ []
unfolding encode_utf8
encode-two c h k = cond-false (nat_lt c 128) _ _ (le-ltb c 128 h) ∙ cond-true (nat_lt c 2048) _ _ (lt-ltb c 2048 k)

pub encode-three : (c : ℕ) → 2048 ≤ c → c < 65536 → encode_utf8 c ≡ (224 + c / 4096) ∷ (128 + c / 64 % 64) ∷ (128 + c % 64) ∷ []
unfolding encode_utf8
encode-three c h k = cond-false (nat_lt c 128) _ _ (le-ltb c 128 (omega arith)) ∙ cond-false (nat_lt c 2048) _ _ (le-ltb c 2048 h) ∙ cond-true (nat_lt c 65536) _ _ (lt-ltb c 65536 k)

pub encode-four : (c : ℕ) → 65536 ≤ c → encode_utf8 c ≡ (240 + c / 262144) ∷ (128 + c / 4096 % 64) ∷ (128 + c / 64 % 64) ∷ (128 + c % 64) ∷ []
unfolding encode_utf8
encode-four c h = cond-false (nat_lt c 128) _ _ (le-ltb c 128 (omega arith)) ∙ cond-false (nat_lt c 2048) _ _ (le-ltb c 2048 (omega arith)) ∙ cond-false (nat_lt c 65536) _ _ (le-ltb c 65536 h)

-- what the bytes of a text say of its first character
pub record Told (c : ℕ) (bs : List ℕ) : Type 0 where
  pub one : get_or bs 0 0 < 128 → c ≡ get_or bs 0 0
  pub two : 128 ≤ get_or bs 0 0 → get_or bs 0 0 < 224 → c ≡ get_or bs 0 0 % 32 * 64 + get_or bs 1 0 % 64
  pub three : 224 ≤ get_or bs 0 0 → get_or bs 0 0 < 240 → c ≡ get_or bs 0 0 % 16 * 4096 + get_or bs 1 0 % 64 * 64 + get_or bs 2 0 % 64
  pub four : 240 ≤ get_or bs 0 0 → c ≡ get_or bs 0 0 % 8 * 262144 + get_or bs 1 0 % 64 * 4096 + get_or bs 2 0 % 64 * 64 + get_or bs 3 0 % 64
  pub wide1 : get_or bs 0 0 < 128 → length (encode_utf8 c) ≡ 1
  pub wide2 : 128 ≤ get_or bs 0 0 → get_or bs 0 0 < 224 → length (encode_utf8 c) ≡ 2
  pub wide3 : 224 ≤ get_or bs 0 0 → get_or bs 0 0 < 240 → length (encode_utf8 c) ≡ 3
  pub wide4 : 240 ≤ get_or bs 0 0 → length (encode_utf8 c) ≡ 4
  pub long2 : 128 ≤ get_or bs 0 0 → 2 ≤ length bs
  pub long3 : 224 ≤ get_or bs 0 0 → 3 ≤ length bs
  pub long4 : 240 ≤ get_or bs 0 0 → 4 ≤ length bs

told-one : (c : ℕ) (bs rest : List ℕ) → c < 128 → bs ≡ c ∷ rest → Told c bs
told-one c bs rest h e =
    let wide = ap length (encode_ascii c h) in
    let b0 : get_or bs 0 0 ≡ c = ap (λ l. get_or l 0 0) e in
    record {
      one = λ a. omega arith;
      two = λ a b. omega arith;
      three = λ a b. omega arith;
      four = λ a. omega arith;
      wide1 = λ a. omega arith;
      wide2 = λ a b. omega arith;
      wide3 = λ a b. omega arith;
      wide4 = λ a. omega arith;
      long2 = λ a. omega arith;
      long3 = λ a. omega arith;
      long4 = λ a. omega arith;
    }

told-two : (c : ℕ) (bs rest : List ℕ) → 128 ≤ c → c < 2048 → bs ≡ (192 + c / 64) ∷ (128 + c % 64) ∷ rest → Told c bs
told-two c bs rest h k e =
    let wide = ap length (encode-two c h k) in
    let b0 : get_or bs 0 0 ≡ 192 + c / 64 = ap (λ l. get_or l 0 0) e in
    let b1 : get_or bs 1 0 ≡ 128 + c % 64 = ap (λ l. get_or l 1 0) e in
    let long = ap length e in
    record {
      one = λ a. omega arith;
      two = λ a b. omega arith;
      three = λ a b. omega arith;
      four = λ a. omega arith;
      wide1 = λ a. omega arith;
      wide2 = λ a b. omega arith;
      wide3 = λ a b. omega arith;
      wide4 = λ a. omega arith;
      long2 = λ a. omega arith;
      long3 = λ a. omega arith;
      long4 = λ a. omega arith;
    }

told-three : (c : ℕ) (bs rest : List ℕ) → 2048 ≤ c → c < 65536 → bs ≡ (224 + c / 4096) ∷ (128 + c / 64 % 64) ∷ (128 + c % 64) ∷ rest → Told c bs
told-three c bs rest h k e =
    let wide = ap length (encode-three c h k) in
    let b0 : get_or bs 0 0 ≡ 224 + c / 4096 = ap (λ l. get_or l 0 0) e in
    let b1 : get_or bs 1 0 ≡ 128 + c / 64 % 64 = ap (λ l. get_or l 1 0) e in
    let b2 : get_or bs 2 0 ≡ 128 + c % 64 = ap (λ l. get_or l 2 0) e in
    let long = ap length e in
    record {
      one = λ a. omega arith;
      two = λ a b. omega arith;
      three = λ a b. omega arith;
      four = λ a. omega arith;
      wide1 = λ a. omega arith;
      wide2 = λ a b. omega arith;
      wide3 = λ a b. omega arith;
      wide4 = λ a. omega arith;
      long2 = λ a. omega arith;
      long3 = λ a. omega arith;
      long4 = λ a. omega arith;
    }

told-four : (c : ℕ) (bs rest : List ℕ) → 65536 ≤ c → c < 1114112 → bs ≡ (240 + c / 262144) ∷ (128 + c / 4096 % 64) ∷ (128 + c / 64 % 64) ∷ (128 + c % 64) ∷ rest → Told c bs
told-four c bs rest h k e =
    let wide = ap length (encode-four c h) in
    let b0 : get_or bs 0 0 ≡ 240 + c / 262144 = ap (λ l. get_or l 0 0) e in
    let b1 : get_or bs 1 0 ≡ 128 + c / 4096 % 64 = ap (λ l. get_or l 1 0) e in
    let b2 : get_or bs 2 0 ≡ 128 + c / 64 % 64 = ap (λ l. get_or l 2 0) e in
    let b3 : get_or bs 3 0 ≡ 128 + c % 64 = ap (λ l. get_or l 3 0) e in
    let long = ap length e in
    record {
      one = λ a. omega arith;
      two = λ a b. omega arith;
      three = λ a b. omega arith;
      four = λ a. omega arith;
      wide1 = λ a. omega arith;
      wide2 = λ a b. omega arith;
      wide3 = λ a b. omega arith;
      wide4 = λ a. omega arith;
      long2 = λ a. omega arith;
      long3 = λ a. omega arith;
      long4 = λ a. omega arith;
    }

told : (c : ℕ) (bs rest : List ℕ) → c < 1114112 → bs ≡ encode_utf8 c ++ rest → Told c bs
told c bs rest top e = ⊎_elim
    (λ h. told-one c bs rest h (e ∙ ap (λ l. l ++ rest) (encode_ascii c h)))
    (λ h. ⊎_elim
    (λ k. told-two c bs rest h k (e ∙ ap (λ l. l ++ rest) (encode-two c h k)))
    (λ k. ⊎_elim
    (λ l. told-three c bs rest k l (e ∙ ap (λ l. l ++ rest) (encode-three c k l)))
    (λ l. told-four c bs rest l top (e ∙ ap (λ l. l ++ rest) (encode-four c l)))
    (cases_lt c 65536))
    (cases_lt c 2048))
    (cases_lt c 128)

pub record Starts (bs : List ℕ) : Type 0 where
  pub c : ℕ
  pub rest : List ℕ
  pub is : bs ≡ encode_utf8 c ++ rest
  pub small : c < 1114112
  pub bytes : Told c bs

scalar_top : (c : ℕ) → scalar c ≡ true → c < 1114112
scalar_top c s = ⊎_elim (λ l. omega arith) (λ g. g.1) (scalar_cases c s)

pub starts_with : (bs : List ℕ) → IsUtf8 bs → 0 < length bs → Starts bs
starts_with bs ([], p) h = absurd (omega (arith, ap length p.1))
starts_with bs (c ∷ cs, p) h =
    let small = scalar_top c (and_parts _ _ p.0).0 in
    record { c = c; rest = encode_utf8_all cs; is = sym p.1; small = small; bytes = told c bs (encode_utf8_all cs) small (sym p.1) }

-- the scalar value that was read begins the bytes from a place on
pub begins_with : (xs : List ℕ) (at n : ℕ) (s : Starts (drop at xs)) → n ≡ s.c → drop at xs ≡ encode_utf8 n ++ drop (at + length (encode_utf8 n)) xs
begins_with xs at n s e =
    let is : drop at xs ≡ encode_utf8 n ++ s.rest = s.is ∙ ap (λ k. encode_utf8 k ++ s.rest) (sym e) in
    is ∙ ap (λ l. encode_utf8 n ++ l) (sym (sym (drop-drop (length (encode_utf8 n)) at xs) ∙ ap (λ l. drop (length (encode_utf8 n)) l) is ∙ drop_at (encode_utf8 n) s.rest (length (encode_utf8 n)) refl))

-- so long is the scalar value that was read
pub has_width : (c n k : ℕ) → n ≡ c → length (encode_utf8 c) ≡ k → k ≡ length (encode_utf8 n)
has_width c n k e h = sym (ap (λ m. length (encode_utf8 m)) e ∙ h)

-- the same, in terms of the bytes at the place
pub record StartsAt (xs : List ℕ) (at : ℕ) : Type 0 where
  pub start : Starts (drop at xs)
  pub b0 : get_or (drop at xs) 0 0 ≡ get_or xs at 0
  pub b1 : get_or (drop at xs) 1 0 ≡ get_or xs (at + 1) 0
  pub b2 : get_or (drop at xs) 2 0 ≡ get_or xs (at + 2) 0
  pub b3 : get_or (drop at xs) 3 0 ≡ get_or xs (at + 3) 0
  pub long : length (drop at xs) ≡ length xs - at

pub starts_at : (xs : List ℕ) (at : ℕ) → IsUtf8 (drop at xs) → at < length xs → StartsAt xs at
starts_at xs at u h = record {
  start = starts_with (drop at xs) u (omega (arith, length-drop at xs));
  b0 = get_or-drop at xs 0 0 ∙ ap (λ k. get_or xs k 0) (omega arith);
  b1 = get_or-drop at xs 1 0;
  b2 = get_or-drop at xs 2 0;
  b3 = get_or-drop at xs 3 0;
  long = length-drop at xs;
}

-- the scalar value, by the bytes at the place
pub record ReadAt (xs : List ℕ) (at : ℕ) : Type 0 where
  pub start : Starts (drop at xs)
  pub one : get_or xs at 0 < 128 → get_or xs at 0 ≡ start.c
  pub two : 128 ≤ get_or xs at 0 → get_or xs at 0 < 224 → get_or xs at 0 % 32 * 64 + get_or xs (at + 1) 0 % 64 ≡ start.c
  pub three : 224 ≤ get_or xs at 0 → get_or xs at 0 < 240 → get_or xs at 0 % 16 * 4096 + get_or xs (at + 1) 0 % 64 * 64 + get_or xs (at + 2) 0 % 64 ≡ start.c
  pub four : 240 ≤ get_or xs at 0 → get_or xs at 0 % 8 * 262144 + get_or xs (at + 1) 0 % 64 * 4096 + get_or xs (at + 2) 0 % 64 * 64 + get_or xs (at + 3) 0 % 64 ≡ start.c
  pub wide1 : get_or xs at 0 < 128 → length (encode_utf8 start.c) ≡ 1
  pub wide2 : 128 ≤ get_or xs at 0 → get_or xs at 0 < 224 → length (encode_utf8 start.c) ≡ 2
  pub wide3 : 224 ≤ get_or xs at 0 → get_or xs at 0 < 240 → length (encode_utf8 start.c) ≡ 3
  pub wide4 : 240 ≤ get_or xs at 0 → length (encode_utf8 start.c) ≡ 4
  pub long2 : 128 ≤ get_or xs at 0 → at + 1 < length xs
  pub long3 : 224 ≤ get_or xs at 0 → at + 2 < length xs
  pub long4 : 240 ≤ get_or xs at 0 → at + 3 < length xs

pub read_at : (xs : List ℕ) (at : ℕ) → IsUtf8 (drop at xs) → at < length xs → ReadAt xs at
read_at xs at u h =
    let s = starts_at xs at u h in
    let t = s.start.bytes in
    record {
      start = s.start;
      one = λ a. omega (arith, s.b0, t.one (omega (arith, s.b0)));
      two = λ a b. omega (arith, s.b0, s.b1, t.two (omega (arith, s.b0)) (omega (arith, s.b0)));
      three = λ a b. omega (arith, s.b0, s.b1, s.b2, t.three (omega (arith, s.b0)) (omega (arith, s.b0)));
      four = λ a. omega (arith, s.b0, s.b1, s.b2, s.b3, t.four (omega (arith, s.b0)));
      wide1 = λ a. t.wide1 (omega (arith, s.b0));
      wide2 = λ a b. t.wide2 (omega (arith, s.b0)) (omega (arith, s.b0));
      wide3 = λ a b. t.wide3 (omega (arith, s.b0)) (omega (arith, s.b0));
      wide4 = λ a. t.wide4 (omega (arith, s.b0));
      long2 = λ a. omega (arith, s.long, t.long2 (omega (arith, s.b0)));
      long3 = λ a. omega (arith, s.long, t.long3 (omega (arith, s.b0)));
      long4 = λ a. omega (arith, s.long, t.long4 (omega (arith, s.b0)));
    }
