-- UTF-16 in the bytes of a compact text.
use Rattle.std.proofs.Common.{Bool, List, ap, ap₂, arith, cond, false, flat_map, length, sym, true, ℕ, ◌*◌, ◌++◌, ◌+◌, ◌/◌, ◌^◌, ◌∙◌, ◌≡◌}
use Rattle.std.specs.Char.Escape.{encode_utf16}
use Rattle.canon_model.specs.Text.{all_latin1, in_latin1, in_utf16, in_utf8, spelling, unit_bytes, units}
use Rattle.canon_text.specs.Answers.{Compacts, Widens, compact_form, compact_length, inflated}
use Rattle.canon_text.specs.Faults.{WellFormed}
use Rattle.canon_text.specs.Writing.{over, placed}
use Rattle.canon_text.proofs.Bytes.{latin1-units, latin1_units, placed_over}
use Rattle.canon_text.proofs.Spelled.{WritesBytes, writes_bytes-end}
use Rattle.canon_text.proofs.Widths.{length-unit_bytes}
use Rattle.canon_text.proofs.Written.{over-more, over_all}

-- bytes behind an inflated part
pub behind : (old mid new items : List ℕ) (so_far : ℕ) → mid ≡ over old (inflated old so_far) → length (inflated old so_far) ≡ 2 * so_far → new ≡ placed mid (2 * so_far) items → new ≡ over old (inflated old so_far ++ items)
behind old mid new items so_far e long w = over-more old mid new (inflated old so_far) items (2 * so_far) e (sym long) w

pub widens8 : (text rest scalars old mid new : List ℕ) (so_far end answer : ℕ) → mid ≡ over old (inflated old so_far) → length (inflated old so_far) ≡ 2 * so_far
    → WritesBytes text rest scalars mid new (2 * so_far) end → length rest ≡ 0 → answer ≡ end / 2 → Widens in_utf8 text old new so_far answer
widens8 text rest cs old mid new so_far end answer e long h done is = record {
  scalars = cs;
  can = h.read.can;
  reads = writes_bytes-end text rest cs mid new (2 * so_far) end h done;
  count = let last : end ≡ 2 * so_far + 2 * length (flat_map encode_utf16 cs) = h.count in omega arith;
  writes = behind old mid new _ so_far e long h.writes;
}

pub widens16 : (source old mid new : List ℕ) (so_far answer : ℕ) → mid ≡ over old (inflated old so_far) → length (inflated old so_far) ≡ 2 * so_far →
    WellFormed in_utf16 source → new ≡ placed mid (2 * so_far) (flat_map unit_bytes source) → answer ≡ so_far + length source →
    Widens in_utf16 source old new so_far answer
widens16 source old mid new so_far answer e long h w is = record {
  scalars = h.scalars;
  can = h.can;
  reads = h.is;
  count = is ∙ ap (λ us. so_far + length us) h.is;
  writes = behind old mid new _ so_far e long w ∙ ap (λ us. over old (inflated old so_far ++ flat_map unit_bytes us)) h.is;
}

-- the whole destination is written
whole : (source old new : List ℕ) → length old ≡ 2 * length source → new ≡ placed old 0 (flat_map unit_bytes source) → new ≡ flat_map unit_bytes source
whole source old new room w = w ∙ placed_over old (flat_map unit_bytes source) ∙ over_all old (flat_map unit_bytes source) (omega (arith, length-unit_bytes source))

is_compact : (cs : List ℕ) (b : Bool) → all_latin1 cs ≡ b → (compact_length cs ≡ cond b (length cs) (length (units in_utf16 cs) + 2 ^ 31)) × (compact_form cs ≡ cond b in_latin1 in_utf16)
is_compact cs b e = (ap (λ x. cond x (length cs) (length (units in_utf16 cs) + 2 ^ 31)) e, ap (λ x. cond x in_latin1 in_utf16) e)

pub compacts_wide : (source old new : List ℕ) → WellFormed in_utf16 source → length old ≡ 2 * length source → all_latin1 source ≡ false → new ≡ placed old 0 (flat_map unit_bytes source) → Compacts source new (length source + 2 ^ 31)
compacts_wide source old new h room wide w =
    let cs = h.scalars in
    let p = is_compact cs false (sym (latin1-units cs) ∙ ap all_latin1 (sym h.is) ∙ wide) in
    record {
      scalars = cs;
      can = h.can;
      reads = h.is;
      count = ap (λ us. length us + 2 ^ 31) h.is ∙ sym p.0;
      writes = whole source old new room w ∙ ap (λ us. flat_map unit_bytes us) h.is ∙ sym (over_all (spelling in_utf16 cs) (spelling in_utf16 cs) (omega arith)) ∙ ap (λ f. over (spelling in_utf16 cs) (spelling f cs)) (sym p.1);
    }

pub compacts_narrow : (source old mid new : List ℕ) → WellFormed in_utf16 source → length old ≡ 2 * length source → all_latin1 source ≡ true → mid ≡ placed old 0 (flat_map unit_bytes source)
    → new ≡ over mid source → Compacts source new (length source)
compacts_narrow source old mid new h room narrow w d =
    let cs = h.scalars in
    let small = sym (latin1-units cs) ∙ ap all_latin1 (sym h.is) ∙ narrow in
    let p = is_compact cs true small in
    let same : source ≡ cs = h.is ∙ latin1_units cs small in
    record {
      scalars = cs;
      can = h.can;
      reads = h.is;
      count = ap length same ∙ sym p.0;
      writes = d ∙ ap₂ over (whole source old mid room w ∙ ap (λ us. flat_map unit_bytes us) h.is) same ∙ ap (λ f. over (spelling in_utf16 cs) (spelling f cs)) (sym p.1);
    }
