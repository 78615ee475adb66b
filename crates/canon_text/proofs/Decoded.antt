-- Texts out of bytes.
use Rattle.std.proofs.Common.{All, Err, IsUtf8, List, Ok, Result, [], ap, append_assoc, ⊎_elim, arith, drop, drop-drop, false, flat_map, length-drop, get_or, length, refl, subst, sym, take, ℕ, ◌%◌, ◌*◌, ◌++◌, ◌+◌, ◌-◌, ◌/◌, ◌<◌, ◌∙◌, ◌∷◌, ◌≡◌, ◌≤◌}
use Rattle.std.proofs.lemmas.Bool.{cases_lt}
use Rattle.std.proofs.lemmas.List.{append-nil, drop_all, drop_at, get_or_past, length-append, length-take, length-take-le, take-append-drop}
use Rattle.std.specs.Prelude.{OnErr}
use Rattle.std.specs.Char.Escape.{encode_utf16}
use Rattle.std.specs.Str.{IsAscii, encode_utf8_all}
use Rattle.std.proofs.lemmas.Str.{encodes-IsAscii}
use Rattle.canon_model.proofs.Passes.{can_spell-append, encode_utf8_all-append, units-append}
use Rattle.canon_model.specs.Text.{Form, Spells, in_latin1, in_utf16, in_utf8, unit_bytes, units}
use Rattle.canon_text.specs.Runs.{run}
use Rattle.canon_text.specs.Surrogates.{CutsNoPair}
use Rattle.canon_text.specs.Decoding.{Decodes, SpellsNothing, units_in}
use Rattle.canon_text.specs.declared.error.TextError.{TextError}
use Rattle.canon_text.specs.Answers.{PassFails, Passed}
use Rattle.canon_text.specs.Laws.{Reads, UnitsOfBytes, WroteFront}
use Rattle.canon_text.proofs.Lawful.{one_fault, pass_reads, passed_front}
use Rattle.canon_text.specs.Faults.{IllFormedAt, IsFirstFault, error_form, error_place}
use Rattle.canon_text.proofs.Bytes.{latin1_from}
use Rattle.canon_text.proofs.Pairs.{cuts_none_behind, ill_longer, units_in-bytes}
use Rattle.canon_text.proofs.Splits.{nil_can, units-nil}
use Rattle.canon_text.proofs.Kept.{wide_can}

pub decodes8 : (bytes text : List ℕ) → text ≡ bytes → IsUtf8 bytes → Decodes in_utf8 bytes text
decodes8 bytes text e u = record { scalars = u.0; spells = record { can = u.1.0; is = u.1.1 }; is = e ∙ sym u.1.1 }

-- The text of the units before a place.
pub record Decoding (form : Form) (source text : List ℕ) (at : ℕ) : Type 0 where
  pub inside : at ≤ length source
  pub wrote : WroteFront form source (drop at source) text

pub decoding-nil : (form : Form) (source : List ℕ) → Decoding form source [] 0
decoding-nil form source = record {
  inside = omega arith;
  wrote = record { scalars = []; can = nil_can form; reads = ap (λ l. l ++ source) (sym (units-nil form)); writes = refl };
}

-- what stands behind a place: a piece, and what follows it
pieced : (source : List ℕ) (at count : ℕ) → drop at source ≡ run source at count ++ drop (at + count) source
pieced source at count = sym (take-append-drop count (drop at source)) ∙ ap (λ l. run source at count ++ l) (drop-drop count at source)

-- a pass over a piece
pub decoding-more : (form : Form) (source text old new : List ℕ) (at count read written : ℕ) → Decoding form source text at → Passed form false (run source at count) old new read written
    → Decoding form source (text ++ take written new) (at + read)
decoding-more form source text old new at count read written h g =
    let p = passed_front form false (run source at count) old new read written g in
    let cs = h.wrote.scalars in
    let both = units form (cs ++ g.scalars) in
    let tail = drop (at + count) source in
    let long : length (drop at source) ≡ length source - at = length-drop at source in
    let all : drop at source ≡ units form g.scalars ++ (g.rest ++ tail) = pieced source at count ∙ ap (λ l. l ++ tail) g.pass.reads ∙ append_assoc (units form g.scalars) g.rest tail in
    let left : g.rest ++ tail ≡ drop (at + read) source = sym (drop_at (units form g.scalars) (g.rest ++ tail) read (sym g.reads)) ∙ ap (λ l. drop read l) (sym all) ∙ drop-drop read at source in
    record {
      inside = let front : at ≤ length source = h.inside in omega (arith, g.reads, ap length all, length-append (units form g.scalars) (g.rest ++ tail), long);
      wrote = record {
        scalars = cs ++ g.scalars;
        can = can_spell-append form cs g.scalars h.wrote.can g.pass.can;
        reads = h.wrote.reads ∙ ap (λ l. units form cs ++ l) all ∙ sym (append_assoc (units form cs) (units form g.scalars) (g.rest ++ tail))
            ∙ ap (λ l. l ++ (g.rest ++ tail)) (sym (units-append form cs g.scalars)) ∙ ap (λ l. both ++ l) left;
        writes = ap (λ l. l ++ take written new) h.wrote.writes ∙ ap (λ l. encode_utf8_all cs ++ l) p.1 ∙ sym (encode_utf8_all-append cs g.scalars);
      };
    }

-- a pass with room reads something
pub decoding-reads : (form : Form) (source old new : List ℕ) (at count read written : ℕ) → Passed form false (run source at count) old new read written → at < length source → 0 < count → 4 ≤ length old → 0 < read
decoding-reads form source old new at count read written g small some room =
    pass_reads form (run source at count) old new read written g room (λ e. omega (arith, ap length e, length-take count (drop at source), length-drop at source))

-- a fault stands inside the source
pub fault_inside : (form : Form) (source old new : List ℕ) (at count : ℕ) (error : TextError) → at ≤ length source → PassFails form false (run source at count) old new error → at + error_place error ≤ length source
fault_inside form source old new at count error inside g =
    omega (arith, inside, g.place, ap length g.is, length-append (units form g.scalars) g.rest, length-take count (drop at source), length-drop at source)

-- a pass over a piece of UTF-16 in which no pair is cut comes to the first fault
pub decoding-fault : (source text old new : List ℕ) (at count : ℕ) (error moved : TextError) → Decoding in_utf16 source text at → PassFails in_utf16 false (run source at count) old new error
    → at + count ≤ length source → CutsNoPair source (at + count) → error_form moved ≡ error_form error → error_place moved ≡ at + error_place error → IsFirstFault in_utf16 source moved
decoding-fault source text old new at count error moved h g room whole same place =
    let cs = h.wrote.scalars in
    let tail = drop (at + count) source in
    let both = units in_utf16 (cs ++ g.scalars) in
    let inside : at ≤ length source = h.inside in
    let front : at ≡ length (units in_utf16 cs) = omega (arith, ap length h.wrote.reads, length-append (units in_utf16 cs) (drop at source), length-drop at source) in
    let joined : units in_utf16 cs ++ units in_utf16 g.scalars ≡ both = sym (units-append in_utf16 cs g.scalars) in
    let is : source ≡ both ++ (g.rest ++ tail) =
    h.wrote.reads ∙ ap (λ l. units in_utf16 cs ++ l) (pieced source at count ∙ ap (λ l. l ++ tail) g.is ∙ append_assoc (units in_utf16 g.scalars) g.rest tail)
    ∙ sym (append_assoc (units in_utf16 cs) (units in_utf16 g.scalars) (g.rest ++ tail)) ∙ ap (λ l. l ++ (g.rest ++ tail)) joined in
    let some : 0 < length g.rest = g.fault.some in
    let long : length both ≡ at + length (units in_utf16 g.scalars) = omega (arith, front, sym (ap length joined), length-append (units in_utf16 cs) (units in_utf16 g.scalars)) in
    let made : length (run source at count) ≡ count = length-take-le count (drop at source) (omega (arith, room, length-drop at source)) in
    let ends : at + count ≡ length both + length g.rest = omega (arith, long, made, ap length g.is, length-append (units in_utf16 g.scalars) g.rest) in
    record {
      form_is = same ∙ g.form_is;
      at = record {
        scalars = cs ++ g.scalars;
        rest = g.rest ++ tail;
        can = can_spell-append in_utf16 cs g.scalars h.wrote.can g.front.can;
        is = is;
        place = omega (arith, place, g.place, long);
        fault = ill_longer g.rest tail g.fault (cuts_none_behind both (g.rest ++ tail) (at + count) (length g.rest) ends some (subst (λ l. CutsNoPair l (at + count)) is whole));
      };
    }

pub decoding-utf8 : (form : Form) (source text : List ℕ) (at : ℕ) → Decoding form source text at → IsUtf8 text
decoding-utf8 form source text at h = (h.wrote.scalars, (wide_can form h.wrote.scalars h.wrote.can, sym h.wrote.writes))

decoding-all : (form : Form) (source text : List ℕ) (at : ℕ) (h : Decoding form source text at) → length source ≤ at → source ≡ units form h.wrote.scalars
decoding-all form source text at h e = h.wrote.reads ∙ ap (λ l. units form h.wrote.scalars ++ l) (drop_all at source e) ∙ append-nil (units form h.wrote.scalars)

pub decodes16 : (bytes text : List ℕ) (at : ℕ) → Decoding in_utf16 (units_in bytes) text at → length (units_in bytes) ≤ at → ((k : ℕ) → get_or bytes k 0 < 256) → length bytes % 2 ≡ 0 → Decodes in_utf16 bytes text
decodes16 bytes text at h e small even = record {
  scalars = h.wrote.scalars;
  spells = record { can = h.wrote.can; is = ap (λ us. flat_map unit_bytes us) (sym (decoding-all in_utf16 (units_in bytes) text at h e)) ∙ units_in-bytes bytes small even };
  is = h.wrote.writes;
}

pub decodes1 : (bytes text : List ℕ) (at : ℕ) → Decoding in_latin1 bytes text at → length bytes ≤ at → Decodes in_latin1 bytes text
decodes1 bytes text at h e = record {
  scalars = h.wrote.scalars;
  spells = record { can = h.wrote.can; is = sym (decoding-all in_latin1 bytes text at h e) };
  is = h.wrote.writes;
}

pub decodes_ascii : (bytes text : List ℕ) → text ≡ bytes → IsAscii bytes → Decodes in_latin1 bytes text
decodes_ascii bytes text e a = record {
  scalars = bytes;
  spells = record { can = latin1_from bytes (λ k. let small : get_or bytes k 0 < 128 = a k in omega arith); is = refl };
  is = e ∙ sym (encodes-IsAscii bytes a);
}

-- ---- units and bytes
units_in-spelled : (us : List ℕ) → units_in (flat_map unit_bytes us) ≡ us
units_in-spelled [] = refl
units_in-spelled (u ∷ us) =
    let one : u % 256 + 256 * (u / 256) ≡ u = omega arith in
    ap (λ x. x ∷ units_in (flat_map unit_bytes us)) one ∙ ap (λ l. u ∷ l) (units_in-spelled us)

spelled_units : (bytes cs : List ℕ) → Spells in_utf16 bytes cs → Reads in_utf16 (units_in bytes) cs
spelled_units bytes cs s = record { can = s.can; is = ap units_in (sym s.is) ∙ units_in-spelled (flat_map encode_utf16 cs) }

small_bytes : (bytes : List ℕ) → All (λ b. b < 256) bytes → (k : ℕ) → get_or bytes k 0 < 256
small_bytes bytes h k = ⊎_elim (λ lt. h k 0 lt) (λ le. omega (arith, get_or_past bytes k 0 le)) (cases_lt k (length bytes))

pub units_of_bytes : UnitsOfBytes
units_of_bytes bytes cs small even = (
  λ s. spelled_units bytes cs s,
  λ r. record { can = r.can; is = ap (λ us. flat_map unit_bytes us) (sym r.is) ∙ units_in-bytes bytes (small_bytes bytes small) even },
)

-- ---- refusals
pub spells_nothing8 : (bytes : List ℕ) (e : TextError) → IsFirstFault in_utf8 bytes e → SpellsNothing in_utf8 bytes
spells_nothing8 bytes e h cs s = one_fault.excludes in_utf8 bytes (error_place e) h.at (record { scalars = cs; can = s.can; is = sym s.is })

pub spells_nothing16 : (bytes : List ℕ) (at : ℕ) → IllFormedAt in_utf16 (units_in bytes) at → SpellsNothing in_utf16 bytes
spells_nothing16 bytes at h cs s =
    let r = spelled_units bytes cs s in
    one_fault.excludes in_utf16 (units_in bytes) at h (record { scalars = cs; can = r.can; is = r.is })

pub text_on_err : {X E : Type 0} (r : Result X E) (P : Type 0) → P → OnErr r P
text_on_err (Ok x) P p = tt
text_on_err (Err e) P p = p
