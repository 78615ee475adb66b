-- A UTF-8 text that is read by runs of ASCII and by characters, and written as UTF-16.
use Rattle.std.proofs.Common.{IsUtf8, List, [], ap, append_assoc, arith, drop, drop-drop, flat_map, length, length-drop, refl, subst, suc, sym, ℕ, ◌*◌, ◌++◌, ◌+◌, ◌<◌, ◌∙◌, ◌∷◌, ◌≡◌, ◌≤◌}
use Rattle.std.proofs.lemmas.Grind.{flat_map-append}
use Rattle.std.proofs.lemmas.List.{append-nil, length-append, take-append-drop}
use Rattle.std.proofs.lemmas.Str.{encode_ascii, length-le-encodes}
use Rattle.std.specs.Char.{encode_utf8}
use Rattle.std.specs.Char.Escape.{encode_utf16}
use Rattle.std.specs.Str.{encode_utf8_all}
use Rattle.canon_model.specs.Text.{in_utf16, in_utf8, unit_bytes}
use Rattle.canon_text.specs.Answers.{Converts}
use Rattle.canon_text.specs.Runs.{AllBelow, Copies, Spreads, run}
use Rattle.canon_text.specs.Writing.{over, placed}
use Rattle.canon_text.proofs.Ascii.{ascii_units}
use Rattle.canon_text.proofs.Bytes.{placed-more, placed-nil}
use Rattle.canon_text.proofs.Copied.{length-run}
use Rattle.canon_text.proofs.Spelled.{HasRead, Writes16, WritesBytes, has_read-more, has_read-nil, writes16-end, writes16-more, writes_bytes-more}
use Rattle.canon_text.proofs.Widths.{length-unit_bytes, widths_le}
use Rattle.canon_text.proofs.Written.{over-more}

has_read-run : (text xs rest cs : List ℕ) → HasRead text (xs ++ rest) cs → AllBelow 128 xs → HasRead text rest (cs ++ xs)
has_read-run text [] rest cs h small = subst (λ l. HasRead text rest l) (sym (append-nil cs)) h
has_read-run text (x ∷ xs) rest cs h small =
    let one = has_read-more text (x ∷ (xs ++ rest)) (xs ++ rest) cs x h (ap (λ l. l ++ (xs ++ rest)) (sym (encode_ascii x (small 0)))) in
    subst (λ l. HasRead text rest l) (append_assoc cs (x ∷ []) xs) (has_read-run text xs rest (cs ++ x ∷ []) one (λ k. small (suc k)))

pub read-run : (source : List ℕ) (at n : ℕ) (cs : List ℕ) → HasRead source (drop at source) cs → AllBelow 128 (run source at n) → HasRead source (drop (at + n) source) (cs ++ run source at n)
read-run source at n cs h small =
    let xs = run source at n in
    let rest : drop at source ≡ xs ++ drop (at + n) source = sym (take-append-drop n (drop at source)) ∙ ap (λ l. xs ++ l) (drop-drop n at source) in
    has_read-run source xs (drop (at + n) source) cs (subst (λ l. HasRead source l cs) rest h) small

units-run : (cs xs : List ℕ) → AllBelow 128 xs → flat_map encode_utf16 cs ++ xs ≡ flat_map encode_utf16 (cs ++ xs)
units-run cs xs small = ap (λ l. flat_map encode_utf16 cs ++ l) (sym (ascii_units in_utf16 xs small)) ∙ sym (flat_map-append encode_utf16 cs xs)

-- a front has no more units than bytes
pub read_few : (source : List ℕ) (read : ℕ) (cs : List ℕ) → HasRead source (drop read source) cs → read ≤ length source → length (flat_map encode_utf16 cs) ≤ read
read_few source read cs h room = omega (arith, ap length h.is, length-append (encode_utf8_all cs) (drop read source), length-drop read source, widths_le cs)

pub char_inside : (xs : List ℕ) (at c : ℕ) → at < length xs → drop at xs ≡ encode_utf8 c ++ drop (at + length (encode_utf8 c)) xs → at + length (encode_utf8 c) ≤ length xs
char_inside xs at c h e = omega (arith, ap length e, length-append (encode_utf8 c) (drop (at + length (encode_utf8 c)) xs), length-drop at xs, length-drop (at + length (encode_utf8 c)) xs)

pub some_utf8 : (c : ℕ) → 0 < length (encode_utf8 c)
some_utf8 c = let few = length-le-encodes (c ∷ []) in omega (arith, ap length (append-nil (encode_utf8 c)))

-- ---- as units
pub record Advancing16 (source old now : List ℕ) (read written : ℕ) : Type 0 where
  pub scalars : List ℕ
  pub so_far : Writes16 source (drop read source) scalars old now written

pub advancing16-nil : (source old : List ℕ) → IsUtf8 source → Advancing16 source old old 0 0
advancing16-nil source old u = record { scalars = []; so_far = record { read = has_read-nil source source u refl; count = refl; writes = refl } }

pub advancing16-room : (source old now : List ℕ) (read written : ℕ) → Advancing16 source old now read written → read ≤ length source → written ≤ read
advancing16-room source old now read written h room =
    let k : written ≡ length (flat_map encode_utf16 h.scalars) = h.so_far.count in
    let few = read_few source read h.scalars h.so_far.read room in
    omega arith

pub advancing16-end : (source old now : List ℕ) (read written : ℕ) → Advancing16 source old now read written → length source ≤ read → Converts in_utf8 in_utf16 source old now written
advancing16-end source old now read written h e = writes16-end source (drop read source) h.scalars old now written h.so_far (omega (arith, length-drop read source))

pub advancing16-run : (source old now new : List ℕ) (read written n : ℕ) → Advancing16 source old now read written → Copies 128 source now new read written n → Advancing16 source old new (read + n) (written + n)
advancing16-run source old now new read written n h g =
    let cs = h.scalars in
    let xs = run source read n in
    let joined = units-run cs xs g.below in
    let before : written ≡ length (flat_map encode_utf16 cs) = h.so_far.count in
    record {
      scalars = cs ++ xs;
      so_far = record {
        read = read-run source read n cs h.so_far.read g.below;
        count = omega (arith, length-append (flat_map encode_utf16 cs) xs, ap length joined, length-run source read n g.inside);
        writes = over-more old now new (flat_map encode_utf16 cs) xs written h.so_far.writes h.so_far.count g.writes ∙ ap (λ l. over old l) joined;
      };
    }

pub advancing16-more : (source old now new : List ℕ) (read written read2 written2 c : ℕ) → Advancing16 source old now read written →
    drop read source ≡ encode_utf8 c ++ drop (read + length (encode_utf8 c)) source → read2 ≡ read + length (encode_utf8 c) →
    written2 ≡ written + length (encode_utf16 c) → new ≡ placed now written (encode_utf16 c) → Advancing16 source old new read2 written2
advancing16-more source old now new read written read2 written2 c h e r k w = record {
  scalars = h.scalars ++ c ∷ [];
  so_far = writes16-more source (drop read source) (drop read2 source) h.scalars old now new written written2 c h.so_far (e ∙ ap (λ n. encode_utf8 c ++ drop n source) (sym r)) k w;
}

-- ---- as bytes, from a place on
pub record AdvancingBytes (source old now : List ℕ) (at read end : ℕ) : Type 0 where
  pub scalars : List ℕ
  pub so_far : WritesBytes source (drop read source) scalars old now at end

pub advancing_bytes-nil : (source old : List ℕ) (at : ℕ) → IsUtf8 source → AdvancingBytes source old old at 0 at
advancing_bytes-nil source old at u = record { scalars = []; so_far = record { read = has_read-nil source source u refl; count = omega arith; writes = sym (placed-nil old at) } }

pub advancing_bytes-room : (source old now : List ℕ) (at read end : ℕ) → AdvancingBytes source old now at read end → read ≤ length source → end ≤ at + 2 * read
advancing_bytes-room source old now at read end h room =
    let k : end ≡ at + 2 * length (flat_map encode_utf16 h.scalars) = h.so_far.count in
    let few = read_few source read h.scalars h.so_far.read room in
    omega arith

pub advancing_bytes-run : (source old now new : List ℕ) (at read end n : ℕ) → at ≤ length old → AdvancingBytes source old now at read end → Spreads source now new read end n → AdvancingBytes source old new at (read + n) (end + 2 * n)
advancing_bytes-run source old now new at read end n room h g =
    let cs = h.scalars in
    let xs = run source read n in
    let joined = units-run cs xs g.below in
    let before : end ≡ at + 2 * length (flat_map encode_utf16 cs) = h.so_far.count in
    let all : flat_map unit_bytes (flat_map encode_utf16 cs) ++ flat_map unit_bytes xs ≡ flat_map unit_bytes (flat_map encode_utf16 (cs ++ xs)) =
    sym (flat_map-append unit_bytes (flat_map encode_utf16 cs) xs) ∙ ap (λ l. flat_map unit_bytes l) joined in
    let long : end ≡ at + length (flat_map unit_bytes (flat_map encode_utf16 cs)) = before ∙ ap (λ n. at + n) (sym (length-unit_bytes (flat_map encode_utf16 cs))) in
    record {
      scalars = cs ++ xs;
      so_far = record {
        read = read-run source read n cs h.so_far.read g.below;
        count = omega (arith, length-append (flat_map encode_utf16 cs) xs, ap length joined, length-run source read n g.inside);
        writes = g.writes ∙ placed-more old now (flat_map unit_bytes (flat_map encode_utf16 cs)) (flat_map unit_bytes xs) at end room h.so_far.writes long ∙ ap (λ l. placed old at l) all;
      };
    }

pub advancing_bytes-more : (source old now new : List ℕ) (at read end read2 end2 c : ℕ) → at ≤ length old →
    AdvancingBytes source old now at read end → drop read source ≡ encode_utf8 c ++ drop (read + length (encode_utf8 c)) source →
    read2 ≡ read + length (encode_utf8 c) → end2 ≡ end + 2 * length (encode_utf16 c) → new ≡ placed now end (flat_map unit_bytes (encode_utf16 c)) →
    AdvancingBytes source old new at read2 end2
advancing_bytes-more source old now new at read end read2 end2 c room h e r k w = record {
  scalars = h.scalars ++ c ∷ [];
  so_far = writes_bytes-more source (drop read source) (drop read2 source) h.scalars old now new at end end2 c room h.so_far (e ∙ ap (λ n. encode_utf8 c ++ drop n source) (sym r)) k w;
}
