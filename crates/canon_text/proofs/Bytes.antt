-- Latin-1 and the bytes of units.
use Rattle.std.proofs.Common.{Bool, List, [], ap, append_assoc, ap₂, arith, cond, drop, false, flat_map, get_or, le-ltb, length, lt-ltb, nat_lt, refl, set, suc, sym, take, true, zero, ℕ, ⊎_elim, ◌*◌, ◌++◌, ◌+◌, ◌-◌, ◌/◌, ◌<◌, ◌∙◌, ◌∷◌, ◌≡◌, ◌≤◌}
use Rattle.std.proofs.lemmas.Bool.{and_from, cases_lt, cond-false, cond-true, false≢true, ltb-true}
use Rattle.std.proofs.lemmas.List.{drop-drop, drop_all, drop_at, drop_more, get_or-take, get_or_append_left, length-append, length-take, length-take-le, set_at, take-append-drop, take-append-le, take-take, take_at, take_more}
use Rattle.std.proofs.lemmas.Grind.{flat_map-append}
use Rattle.std.specs.Char.Escape.{encode_utf16}
use Rattle.std.specs.Str.{all_scalars}
use lib.Utf8.{low_scalar}
use Rattle.canon_model.specs.Text.{all_latin1, unit_bytes}
use Rattle.canon_text.specs.Writing.{inflating, over, placed}
use Rattle.canon_text.proofs.Widths.{length-unit_bytes}

-- ---- Latin-1
first_of_two : (x y : Bool) → cond x y false ≡ true → (x ≡ true) × (y ≡ true)
first_of_two true y h = (refl, h)
first_of_two false y h = absurd (false≢true h)

second_false : (x y : Bool) → y ≡ false → cond x y false ≡ false
second_false true y h = h
second_false false y h = refl

pub latin1_parts : (c : ℕ) (cs : List ℕ) → all_latin1 (c ∷ cs) ≡ true → (c < 256) × (all_latin1 cs ≡ true)
latin1_parts c cs h = let p = first_of_two (nat_lt c 256) (all_latin1 cs) h in (ltb-true c 256 p.0, p.1)

pub latin1_each : (cs : List ℕ) (k : ℕ) → all_latin1 cs ≡ true → get_or cs k 0 < 256
latin1_each [] k h = omega arith
latin1_each (c ∷ cs) zero h = (latin1_parts c cs h).0
latin1_each (c ∷ cs) (suc k) h = latin1_each cs k (latin1_parts c cs h).1

pub latin1_from : (cs : List ℕ) → ((k : ℕ) → get_or cs k 0 < 256) → all_latin1 cs ≡ true
latin1_from [] h = refl
latin1_from (c ∷ cs) h = cond-true (nat_lt c 256) _ _ (lt-ltb c 256 (h 0)) ∙ latin1_from cs (λ k. h (suc k))

pub latin1_not : (cs : List ℕ) (k : ℕ) → 256 ≤ get_or cs k 0 → all_latin1 cs ≡ false
latin1_not [] k h = absurd (omega arith)
latin1_not (c ∷ cs) zero h = cond-false (nat_lt c 256) _ _ (le-ltb c 256 h)
latin1_not (c ∷ cs) (suc k) h = second_false (nat_lt c 256) (all_latin1 cs) (latin1_not cs k h)

pub latin1_scalars : (cs : List ℕ) → all_latin1 cs ≡ true → all_scalars cs ≡ true
latin1_scalars [] h = refl
latin1_scalars (c ∷ cs) h = let p = latin1_parts c cs h in and_from _ _ (low_scalar c (omega (arith, p.0))) (latin1_scalars cs p.1)

-- Latin-1 is its own UTF-16
pub latin1_units : (cs : List ℕ) → all_latin1 cs ≡ true → flat_map encode_utf16 cs ≡ cs
latin1_units [] h = refl
latin1_units (c ∷ cs) h =
    let p = latin1_parts c cs h in
    let one : encode_utf16 c ≡ c ∷ [] = cond-true (nat_lt c 0x1_0000) _ _ (lt-ltb c 0x1_0000 (omega (arith, p.0))) in
    ap₂ ◌++◌ one (latin1_units cs p.1)

-- ---- writes one after another
pub over-set : (old now front : List ℕ) (i x : ℕ) → now ≡ over old front → length front ≡ i → i < length old → set now i x ≡ over old (front ++ x ∷ [])
over-set old now front i x e h small =
    let begin : now ≡ front ++ get_or old i 0 ∷ drop (i + 1) old = e ∙ ap (λ n. front ++ drop n old) h ∙ ap (λ l. front ++ l) (drop_more old i 0 small) in
    let long : length (front ++ x ∷ []) ≡ i + 1 = omega (arith, length-append front (x ∷ [])) in
    ap (λ l. set l i x) begin ∙ set_at front (get_or old i 0) (drop (i + 1) old) x i h ∙ sym (append_assoc front (x ∷ []) (drop (i + 1) old)) ∙ ap (λ n. (front ++ x ∷ []) ++ drop n old) (sym long)

pub placed-more : (old now items more : List ℕ) (at end : ℕ) → at ≤ length old → now ≡ placed old at items → end ≡ at + length items → placed now end more ≡ placed old at (items ++ more)
placed-more old now items more at end h e k =
    let tail = drop (at + length items) old in
    let whole : now ≡ (take at old ++ items) ++ tail = e ∙ sym (append_assoc (take at old) items tail) in
    let long : length (take at old ++ items) ≡ end = omega (arith, length-append (take at old) items, length-take-le at old h) in
    let kept : take end now ≡ take at old ++ items = ap (λ l. take end l) whole ∙ take_at (take at old ++ items) tail end long in
    let left : drop (end + length more) now ≡ drop (at + length (items ++ more)) old =
    sym (drop-drop (length more) end now) ∙ ap (λ l. drop (length more) l) (ap (λ l. drop end l) whole ∙ drop_at (take at old ++ items) tail end long)
    ∙ drop-drop (length more) (at + length items) old ∙ ap (λ n. drop n old) (omega (arith, length-append items more)) in
    ap₂ (λ a b. a ++ (more ++ b)) kept left ∙ append_assoc (take at old) items (more ++ drop (at + length (items ++ more)) old) ∙ ap (λ l. take at old ++ l) (sym (append_assoc items more (drop (at + length (items ++ more)) old)))

pub placed-nil : (old : List ℕ) (at : ℕ) → placed old at [] ≡ old
placed-nil old at = ap (λ n. take at old ++ drop n old) (omega arith) ∙ take-append-drop at old

pub placed_over : (old items : List ℕ) → placed old 0 items ≡ over old items
placed_over old items = ap (λ n. items ++ drop n old) (omega arith)

unit_bytes-push : (us : List ℕ) (u : ℕ) → flat_map unit_bytes us ++ unit_bytes u ≡ flat_map unit_bytes (us ++ u ∷ [])
unit_bytes-push us u = sym (flat_map-append unit_bytes us (u ∷ []))

-- one unit more, as bytes
pub placed-unit : (old now units : List ℕ) (at i u : ℕ) → at ≤ length old → now ≡ placed old at (flat_map unit_bytes (take i units)) → i < length units → u ≡ get_or units i 0
    → placed now (at + 2 * i) (unit_bytes u) ≡ placed old at (flat_map unit_bytes (take (i + 1) units))
placed-unit old now units at i u h e small is =
    let long : at + 2 * i ≡ at + length (flat_map unit_bytes (take i units)) = omega (arith, length-unit_bytes (take i units), length-take-le i units (omega arith)) in
    placed-more old now (flat_map unit_bytes (take i units)) (unit_bytes u) at (at + 2 * i) h e long
    ∙ ap (λ l. placed old at l) (unit_bytes-push (take i units) u ∙ ap (λ l. flat_map unit_bytes l) (ap (λ x. take i units ++ x ∷ []) is ∙ sym (take_more units i 0 small)))

-- ---- inflation
pub inflating_start : (old : List ℕ) (count : ℕ) → inflating old count count ≡ old
unfolding inflating
inflating_start old count = ap (λ l. take (2 * count) old ++ (flat_map unit_bytes l ++ drop (2 * count) old)) (drop_all count (take count old) (omega (arith, length-take count old))) ∙ take-append-drop (2 * count) old

pub inflating_end : (old : List ℕ) (count : ℕ) → 2 * count ≤ length old → all_latin1 (take count old) ≡ true → inflating old count 0 ≡ over old (flat_map unit_bytes (flat_map encode_utf16 (take count old)))
unfolding inflating
inflating_end old count h small =
    let long : 2 * count ≡ length (flat_map unit_bytes (take count old)) = omega (arith, length-unit_bytes (take count old), length-take-le count old (omega arith)) in
    ap (λ n. flat_map unit_bytes (take count old) ++ drop n old) long ∙ ap (λ l. over old (flat_map unit_bytes l)) (sym (latin1_units (take count old) small))

pub inflating_read : (old : List ℕ) (count i : ℕ) → i < count → 2 * count ≤ length old → get_or (inflating old count (i + 1)) i 0 ≡ get_or old i 0
unfolding inflating
inflating_read old count i h k =
    get_or_append_left (take (2 * (i + 1)) old) _ 0 i (omega (arith, length-take-le (2 * (i + 1)) old (omega arith))) ∙ get_or-take (2 * (i + 1)) old i 0 (omega arith)

pub inflating_step : (old now new : List ℕ) (count i x : ℕ) → now ≡ inflating old count (i + 1) → i < count → 2 * count ≤ length old → x ≡ get_or now i 0 → new ≡ placed now (2 * i) (unit_bytes x) → new ≡ inflating old count i
unfolding inflating
inflating_step old now new count i x e h k is w =
    let xs = take count old in
    let behind = flat_map unit_bytes (drop (i + 1) xs) ++ drop (2 * count) old in
    let read : x ≡ get_or xs i 0 = is ∙ ap (λ l. get_or l i 0) e ∙ inflating_read old count i h k ∙ sym (get_or-take count old i 0 h) in
    let kept : take (2 * i) now ≡ take (2 * i) old =
    ap (λ l. take (2 * i) l) e ∙ take-append-le (2 * i) (take (2 * (i + 1)) old) behind (omega (arith, length-take-le (2 * (i + 1)) old (omega arith))) ∙ take-take (2 * i) (2 * (i + 1)) old (omega arith) in
    let left : drop (2 * i + 2) now ≡ behind =
    ap (λ l. drop (2 * i + 2) l) e ∙ drop_at (take (2 * (i + 1)) old) behind (2 * i + 2) (omega (arith, length-take-le (2 * (i + 1)) old (omega arith))) in
    let more : flat_map unit_bytes (drop i xs) ≡ unit_bytes x ++ flat_map unit_bytes (drop (i + 1) xs) =
    ap (λ l. flat_map unit_bytes l) (drop_more xs i 0 (omega (arith, length-take-le count old (omega arith)))) ∙ ap (λ y. unit_bytes y ++ flat_map unit_bytes (drop (i + 1) xs)) (sym read) in
    w ∙ ap₂ (λ a b. a ++ (unit_bytes x ++ b)) kept left ∙ ap (λ l. take (2 * i) old ++ (l ++ drop (2 * count) old)) (sym more)

-- one value more over the front
pub over-more_set : (old now src : List ℕ) (i x : ℕ) → now ≡ over old (take i src) → i < length src → i < length old → x ≡ get_or src i 0 → set now i x ≡ over old (take (i + 1) src)
over-more_set old now src i x e h room is =
    over-set old now (take i src) i x e (length-take-le i src (omega arith)) room ∙ ap (λ l. over old l) (ap (λ y. take i src ++ y ∷ []) is ∙ sym (take_more src i 0 h))

latin1-take : (cs : List ℕ) (n : ℕ) → all_latin1 cs ≡ true → all_latin1 (take n cs) ≡ true
latin1-take cs zero h = refl
latin1-take [] (suc n) h = refl
latin1-take (c ∷ cs) (suc n) h = let p = first_of_two (nat_lt c 256) (all_latin1 cs) h in cond-true (nat_lt c 256) _ _ p.0 ∙ latin1-take cs n p.1

-- bytes are Latin-1
pub latin1_front : (bytes : List ℕ) (n : ℕ) → ((k : ℕ) → get_or bytes k 0 < 256) → all_latin1 (take n bytes) ≡ true
latin1_front bytes n h = latin1-take bytes n (latin1_from bytes h)

pub length-inflated : (old : List ℕ) (count : ℕ) → 2 * count ≤ length old → all_latin1 (take count old) ≡ true → length (flat_map unit_bytes (flat_map encode_utf16 (take count old))) ≡ 2 * count
length-inflated old count h small = omega (arith, length-unit_bytes (flat_map encode_utf16 (take count old)), ap length (latin1_units (take count old) small), length-take-le count old (omega arith))

-- whether a text is Latin-1 shows in its units
pub latin1-units : (cs : List ℕ) → all_latin1 (flat_map encode_utf16 cs) ≡ all_latin1 cs
latin1-units [] = refl
latin1-units (c ∷ cs) = ⊎_elim
    (λ h. ap (λ us. all_latin1 (us ++ flat_map encode_utf16 cs)) (cond-true (nat_lt c 0x1_0000) _ _ (lt-ltb c 0x1_0000 h)) ∙ ap (λ b. cond (nat_lt c 256) b false) (latin1-units cs))
    (λ h. ap (λ us. all_latin1 (us ++ flat_map encode_utf16 cs)) (cond-false (nat_lt c 0x1_0000) _ _ (le-ltb c 0x1_0000 h))
    ∙ cond-false (nat_lt (0xD800 + (c - 0x1_0000) / 0x400) 256) _ _ (le-ltb _ 256 (omega arith)) ∙ sym (cond-false (nat_lt c 256) _ _ (le-ltb c 256 (omega arith))))
    (cases_lt c 0x1_0000)

pub one_latin1 : (c : ℕ) → c < 256 → all_latin1 (c ∷ []) ≡ true
one_latin1 c h = cond-true (nat_lt c 256) _ _ (lt-ltb c 256 h)
