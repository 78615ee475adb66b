-- Blocks of units, as bytes.
use Rattle.std.proofs.Common.{List, [], ap, append_assoc, ap₂, arith, drop, drop-drop, flat_map, get_or, length, length-drop, length-take-le, refl, suc, sym, take, take-add, w16, Fits, ℕ, ◌*◌, ◌++◌, ◌+◌, ◌/◌, ◌%◌, ◌<◌, ◌∙◌, ◌∷◌, ◌≡◌, ◌≤◌}
use Rattle.std.proofs.lemmas.Grind.{flat_map-append}
use Rattle.std.proofs.lemmas.List.{drop_at, ext_get_or, get_or-drop, get_or-take, get_or_append_left, length-append, take-append-drop, take-append-le, take-take}
use Rattle.std.proofs.lemmas.Simd.{put_chunk_is}
use lib.Lanes.{Each1, digits_l, number_l, put_chunk}
use Rattle.canon_model.specs.Text.{unit_bytes}
use Rattle.canon_text.specs.Writing.{inflating, placed}
use Rattle.canon_text.proofs.Bytes.{placed-more}
use Rattle.canon_text.proofs.Widths.{length-unit_bytes}

pub le_bytes : (n : ℕ) (xs : List ℕ) → n ≡ 2 * length xs → Each1 (Fits w16) xs → digits_l 256 n (number_l 65536 xs) ≡ flat_map unit_bytes xs
le_bytes n [] e h = ap (λ k. digits_l 256 k 0) e
le_bytes n (x ∷ xs) e h =
    let m = 2 * length xs in
    let rest = number_l 65536 xs in
    let small : x < 65536 = h.0.fits in
    let low : (x + 65536 * rest) % 256 ≡ x % 256 = omega arith in
    let high : (x + 65536 * rest) / 256 % 256 ≡ x / 256 = omega arith in
    let more : (x + 65536 * rest) / 256 / 256 ≡ rest = omega arith in
    let two : n ≡ suc (suc m) = omega (arith, e) in
    ap (λ k. digits_l 256 k (x + 65536 * rest)) two
    ∙ ap (λ a. a ∷ (x + 65536 * rest) / 256 % 256 ∷ digits_l 256 m ((x + 65536 * rest) / 256 / 256)) low
    ∙ ap (λ a. x % 256 ∷ a ∷ digits_l 256 m ((x + 65536 * rest) / 256 / 256)) high
    ∙ ap (λ a. x % 256 ∷ x / 256 ∷ digits_l 256 m a) more
    ∙ ap (λ l. x % 256 ∷ x / 256 ∷ l) (le_bytes m xs refl h.1)

-- a store
pub stored : (now lanes items : List ℕ) (at : ℕ) → lanes ≡ items → at + length items ≤ length now → put_chunk at now lanes ≡ placed now at items
stored now lanes items at same room = ap (λ l. put_chunk at now l) same ∙ put_chunk_is at now items room ∙ ap (λ l. take at now ++ (items ++ l)) (drop-drop (length items) at now)

-- a block of units more
pub placed-block : (old now new units : List ℕ) (at n k : ℕ) → at ≤ length old → now ≡ placed old at (flat_map unit_bytes (take n units)) →
    n + k ≤ length units → new ≡ placed now (at + 2 * n) (flat_map unit_bytes (take k (drop n units))) →
    new ≡ placed old at (flat_map unit_bytes (take (n + k) units))
placed-block old now new units at n k h e room w =
    let long : at + 2 * n ≡ at + length (flat_map unit_bytes (take n units)) = omega (arith, length-unit_bytes (take n units), length-take-le n units (omega arith)) in
    w ∙ placed-more old now (flat_map unit_bytes (take n units)) (flat_map unit_bytes (take k (drop n units))) at (at + 2 * n) h e long
    ∙ ap (λ l. placed old at l) (sym (flat_map-append unit_bytes (take n units) (take k (drop n units))) ∙ ap (λ l. flat_map unit_bytes l) (sym (take-add n k units)))

-- ---- in place
inflating_get : (old : List ℕ) (count j m : ℕ) → m < j → j ≤ count → 2 * count ≤ length old → get_or (inflating old count j) m 0 ≡ get_or old m 0
unfolding inflating
inflating_get old count j m h g room =
    get_or_append_left (take (2 * j) old) _ 0 m (omega (arith, length-take-le (2 * j) old (omega arith))) ∙ get_or-take (2 * j) old m 0 (omega arith)

length-inflating : (old : List ℕ) (count j : ℕ) → j ≤ count → 2 * count ≤ length old → length (inflating old count j) ≡ length old
unfolding inflating
length-inflating old count j h room =
    let units = flat_map unit_bytes (drop j (take count old)) in
    omega (
      arith,
      length-append (take (2 * j) old) (units ++ drop (2 * count) old),
      length-append units (drop (2 * count) old),
      length-unit_bytes (drop j (take count old)),
      length-drop j (take count old),
      length-take-le count old (omega arith),
      length-take-le (2 * j) old (omega arith),
      length-drop (2 * count) old,
    )

block_read : (old now : List ℕ) (count i k : ℕ) → now ≡ inflating old count (i + k) → i + k ≤ count → 2 * count ≤ length old → take k (drop i now) ≡ take k (drop i (take count old))
block_read old now count i k e h room =
    let same : length now ≡ length old = ap length e ∙ length-inflating old count (i + k) h room in
    let a : length (take k (drop i now)) ≡ k = length-take-le k (drop i now) (omega (arith, length-drop i now)) in
    let b : length (take k (drop i (take count old))) ≡ k = length-take-le k (drop i (take count old)) (omega (arith, length-drop i (take count old), length-take-le count old (omega arith))) in
    ext_get_or 0 _ _ (a ∙ sym b) (λ m lt.
    let small : m < k = omega (arith, a) in
    get_or-take k (drop i now) m 0 small ∙ get_or-drop i now m 0 ∙ ap (λ l. get_or l (i + m) 0) e ∙ inflating_get old count (i + k) (i + m) (omega arith) h room
    ∙ sym (get_or-take k (drop i (take count old)) m 0 small ∙ get_or-drop i (take count old) m 0 ∙ get_or-take count old (i + m) 0 (omega arith)))

pub inflating_block : (old now new : List ℕ) (count i k : ℕ) → now ≡ inflating old count (i + k) → i + k ≤ count → 2 * count ≤ length old → new ≡ placed now (2 * i) (flat_map unit_bytes (take k (drop i now))) → new ≡ inflating old count i
unfolding inflating
inflating_block old now new count i k e h room w =
    let xs = take count old in
    let read : take k (drop i now) ≡ take k (drop i xs) = block_read old now count i k e h room in
    let items = flat_map unit_bytes (take k (drop i xs)) in
    let long : length items ≡ 2 * k = omega (arith, length-unit_bytes (take k (drop i xs)), length-take-le k (drop i xs) (omega (arith, length-drop i xs, length-take-le count old (omega arith)))) in
    let behind = flat_map unit_bytes (drop (i + k) xs) ++ drop (2 * count) old in
    let front : length (take (2 * (i + k)) old) ≡ 2 * (i + k) = length-take-le (2 * (i + k)) old (omega arith) in
    let kept : take (2 * i) now ≡ take (2 * i) old =
    ap (λ l. take (2 * i) l) e ∙ take-append-le (2 * i) (take (2 * (i + k)) old) behind (omega arith) ∙ take-take (2 * i) (2 * (i + k)) old (omega arith) in
    let left : drop (2 * i + length items) now ≡ behind =
    ap (λ l. drop (2 * i + length items) l) e ∙ drop_at (take (2 * (i + k)) old) behind (2 * i + length items) (omega arith) in
    let more : flat_map unit_bytes (drop i xs) ≡ items ++ flat_map unit_bytes (drop (i + k) xs) =
    ap (λ l. flat_map unit_bytes l) (sym (take-append-drop k (drop i xs)) ∙ ap (λ l. take k (drop i xs) ++ l) (drop-drop k i xs)) ∙ flat_map-append unit_bytes (take k (drop i xs)) (drop (i + k) xs) in
    w ∙ ap (λ l. placed now (2 * i) (flat_map unit_bytes l)) read ∙ ap₂ (λ a b. a ++ (items ++ b)) kept left
    ∙ ap (λ l. take (2 * i) old ++ l) (sym (append_assoc items (flat_map unit_bytes (drop (i + k) xs)) (drop (2 * count) old)))
    ∙ ap (λ l. take (2 * i) old ++ (l ++ drop (2 * count) old)) (sym more)
