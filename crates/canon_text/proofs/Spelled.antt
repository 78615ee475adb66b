-- The characters of a UTF-8 text, read one after another and written as UTF-16.
use Rattle.std.proofs.Common.{IsUtf8, List, [], ap, append_assoc, arith, flat_map, length, refl, subst, sym, true, ℕ, ◌*◌, ◌++◌, ◌+◌, ◌∙◌, ◌∷◌, ◌≡◌, ◌≤◌}
use Rattle.std.proofs.lemmas.Bool.{and_from, and_parts}
use Rattle.std.proofs.lemmas.Grind.{flat_map-append}
use Rattle.std.proofs.lemmas.List.{append-nil, length-append, nil_from_length}
use Rattle.std.proofs.lemmas.Str.{IsUtf8-past_char, cons_from_encodes}
use Rattle.std.specs.Char.{IsScalar, encode_utf8}
use Rattle.std.specs.Char.Escape.{encode_utf16}
use Rattle.std.specs.Str.{all_scalars, encode_utf8_all}
use Rattle.canon_model.proofs.Passes.{can_spell-append, encode_utf8_all-append}
use Rattle.canon_model.specs.Text.{in_utf16, in_utf8, unit_bytes}
use Rattle.canon_text.specs.Answers.{Converts}
use Rattle.canon_text.specs.Writing.{over, placed}
use Rattle.canon_text.proofs.Bytes.{placed-more}
use Rattle.canon_text.proofs.Widths.{length-unit_bytes, width_le, widths_le}
use Rattle.canon_text.proofs.Written.{over-more}

-- these characters come before the rest
pub record HasRead (text rest scalars : List ℕ) : Type 0 where
  pub can : all_scalars scalars ≡ true
  pub is : text ≡ encode_utf8_all scalars ++ rest
  pub utf8 : IsUtf8 rest

pub has_read-nil : (text rest : List ℕ) → IsUtf8 text → rest ≡ text → HasRead text rest []
has_read-nil text rest u e = record { can = refl; is = sym e; utf8 = subst IsUtf8 (sym e) u }

first_scalar : (bs rest : List ℕ) (c : ℕ) → IsUtf8 bs → bs ≡ encode_utf8 c ++ rest → IsScalar c
first_scalar bs rest c u e =
    let p = cons_from_encodes u.0 rest c (u.1.1 ∙ e) in
    (and_parts _ _ (sym (ap all_scalars p.1) ∙ u.1.0)).0

pub has_read-more : (text rest rest2 scalars : List ℕ) (c : ℕ) → HasRead text rest scalars → rest ≡ encode_utf8 c ++ rest2 → HasRead text rest2 (scalars ++ c ∷ [])
has_read-more text rest rest2 cs c h e = record {
  utf8 = IsUtf8-past_char rest rest2 c h.utf8 e;
  can = can_spell-append in_utf8 cs (c ∷ []) h.can (and_from _ _ (first_scalar rest rest2 c h.utf8 e) refl);
  is = h.is ∙ ap (λ l. encode_utf8_all cs ++ l) (e ∙ ap (λ l. l ++ rest2) (sym (append-nil (encode_utf8 c)))) ∙ sym (append_assoc (encode_utf8_all cs) (encode_utf8_all (c ∷ [])) rest2)
      ∙ ap (λ l. l ++ rest2) (sym (encode_utf8_all-append cs (c ∷ [])));
}

pub has_read-all : (text rest scalars : List ℕ) → HasRead text rest scalars → length rest ≡ 0 → text ≡ encode_utf8_all scalars
has_read-all text rest cs h e = h.is ∙ ap (λ l. encode_utf8_all cs ++ l) (nil_from_length rest e) ∙ append-nil (encode_utf8_all cs)

-- room for one character more
pub has_read_room : (text rest rest2 scalars : List ℕ) (c : ℕ) → HasRead text rest scalars → rest ≡ encode_utf8 c ++ rest2 → length (flat_map encode_utf16 scalars) + length (encode_utf16 c) ≤ length text
has_read_room text rest rest2 cs c h e =
    let whole = ap length h.is ∙ length-append (encode_utf8_all cs) rest in
    let last = ap length e ∙ length-append (encode_utf8 c) rest2 in
    omega (arith, whole, last, widths_le cs, width_le c)

pub units-push : (cs : List ℕ) (c : ℕ) → flat_map encode_utf16 cs ++ encode_utf16 c ≡ flat_map encode_utf16 (cs ++ c ∷ [])
units-push cs c = ap (λ l. flat_map encode_utf16 cs ++ l) (sym (append-nil (encode_utf16 c))) ∙ sym (flat_map-append encode_utf16 cs (c ∷ []))

-- as units
pub record Writes16 (text rest scalars old now : List ℕ) (written : ℕ) : Type 0 where
  pub read : HasRead text rest scalars
  pub count : written ≡ length (flat_map encode_utf16 scalars)
  pub writes : now ≡ over old (flat_map encode_utf16 scalars)

pub writes16-more : (text rest rest2 scalars old now new : List ℕ) (written written2 c : ℕ) → Writes16 text rest scalars old now written →
    rest ≡ encode_utf8 c ++ rest2 → written2 ≡ written + length (encode_utf16 c) → new ≡ placed now written (encode_utf16 c) →
    Writes16 text rest2 (scalars ++ c ∷ []) old new written2
writes16-more text rest rest2 cs old now new written written2 c h e k w = record {
  read = has_read-more text rest rest2 cs c h.read e;
  count = k ∙ ap (λ n. n + length (encode_utf16 c)) h.count ∙ sym (length-append (flat_map encode_utf16 cs) (encode_utf16 c)) ∙ ap length (units-push cs c);
  writes = over-more old now new (flat_map encode_utf16 cs) (encode_utf16 c) written h.writes h.count w ∙ ap (λ l. over old l) (units-push cs c);
}

pub writes16-end : (text rest scalars old now : List ℕ) (written : ℕ) → Writes16 text rest scalars old now written → length rest ≡ 0 → Converts in_utf8 in_utf16 text old now written
writes16-end text rest cs old now written h e = record { scalars = cs; can = h.read.can; reads = has_read-all text rest cs h.read e; count = h.count; writes = h.writes }

-- as bytes, from a place on
pub record WritesBytes (text rest scalars old now : List ℕ) (at end : ℕ) : Type 0 where
  pub read : HasRead text rest scalars
  pub count : end ≡ at + 2 * length (flat_map encode_utf16 scalars)
  pub writes : now ≡ placed old at (flat_map unit_bytes (flat_map encode_utf16 scalars))

pub writes_bytes-more : (text rest rest2 scalars old now new : List ℕ) (at end end2 c : ℕ) → at ≤ length old →
    WritesBytes text rest scalars old now at end → rest ≡ encode_utf8 c ++ rest2 → end2 ≡ end + 2 * length (encode_utf16 c) →
    new ≡ placed now end (flat_map unit_bytes (encode_utf16 c)) → WritesBytes text rest2 (scalars ++ c ∷ []) old new at end2
writes_bytes-more text rest rest2 cs old now new at end end2 c room h e k w =
    let more = flat_map unit_bytes (encode_utf16 c) in
    let joined : flat_map unit_bytes (flat_map encode_utf16 cs) ++ more ≡ flat_map unit_bytes (flat_map encode_utf16 (cs ++ c ∷ [])) =
    sym (flat_map-append unit_bytes (flat_map encode_utf16 cs) (encode_utf16 c)) ∙ ap (λ l. flat_map unit_bytes l) (units-push cs c) in
    let long : end ≡ at + length (flat_map unit_bytes (flat_map encode_utf16 cs)) = h.count ∙ ap (λ n. at + n) (sym (length-unit_bytes (flat_map encode_utf16 cs))) in
    record {
      read = has_read-more text rest rest2 cs c h.read e;
      count = let before : end ≡ at + 2 * length (flat_map encode_utf16 cs) = h.count in omega (arith, length-append (flat_map encode_utf16 cs) (encode_utf16 c), ap length (units-push cs c));
      writes = w ∙ placed-more old now (flat_map unit_bytes (flat_map encode_utf16 cs)) more at end room h.writes long ∙ ap (λ l. placed old at l) joined;
    }

-- the conversion, from the text before it
pub writes_bytes-end : (text rest scalars old now : List ℕ) (at end : ℕ) → WritesBytes text rest scalars old now at end → length rest ≡ 0 → text ≡ encode_utf8_all scalars
writes_bytes-end text rest cs old now at end h e = has_read-all text rest cs h.read e
