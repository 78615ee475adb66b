-- The laws of whole conversions.
use Rattle.std.proofs.Common.{Bool, List, ap, append_assoc, arith, cond, drop, false, flat_map, le-ltb, length, lt-ltb, nat_lt, not, refl, subst, sym, take, true, ℕ, ◌*◌, ◌++◌, ◌+◌, ◌-◌, ◌<◌, ◌^◌, ◌∙◌, ◌≡◌, ◌≤◌}
use Rattle.std.proofs.lemmas.Grind.{flat_map-append}
use Rattle.std.proofs.lemmas.List.{append-nil, drop_all, drop_at, length-append, length-take-le, take_at}
use Rattle.std.proofs.lemmas.Str.{encodes_same}
use Rattle.std.specs.Str.{encode_utf8_all}
use Rattle.canon_model.proofs.Passes.{can_spell-append, units-append}
use Rattle.canon_model.proofs.Texts.{spells_same, units_determine}
use Rattle.canon_model.specs.Text.{Form, Spells, all_latin1, can_spell, compact, in_latin1, in_utf16, in_utf8, is_tagged, spelling, text_bytes, text_form, unit_bytes, units}
use Rattle.canon_text.specs.Answers.{Compacts, Converts, Narrows, Passed, Widens, compact_form, compact_length}
use Rattle.canon_text.specs.Laws.{CompactLengths, NarrowThenWide, Reads, ScalarsKept, WroteWide}
use Rattle.canon_text.specs.Writing.{over}
use Rattle.canon_text.proofs.Bytes.{latin1_scalars, latin1_units}
use Rattle.canon_text.proofs.Widths.{length-unit_bytes}

pub spelling16-append : (cs ds : List ℕ) → spelling in_utf16 (cs ++ ds) ≡ spelling in_utf16 cs ++ spelling in_utf16 ds
spelling16-append cs ds = ap (λ l. flat_map unit_bytes l) (units-append in_utf16 cs ds) ∙ flat_map-append unit_bytes (units in_utf16 cs) (units in_utf16 ds)

pub narrow_then_wide : NarrowThenWide
narrow_then_wide form source old new grown after read written answer h kept g =
    let rest : drop read source ≡ h.rest = ap (λ l. drop read l) h.is ∙ drop_at (units form h.scalars) h.rest read (sym h.reads) in
    let front : take written grown ≡ h.scalars = kept ∙ ap (λ l. take written l) h.writes ∙ take_at h.scalars _ written (sym h.count) in
    let few : written ≡ length (units in_utf16 h.scalars) = h.count ∙ ap length (sym (latin1_units h.scalars h.latin1)) in
    record {
      scalars = h.scalars ++ g.scalars;
      can = can_spell-append form h.scalars g.scalars h.can g.can;
      reads = h.is ∙ ap (λ l. units form h.scalars ++ l) (sym rest ∙ g.reads) ∙ sym (units-append form h.scalars g.scalars);
      count = g.count ∙ ap (λ n. n + length (units in_utf16 g.scalars)) few ∙ sym (length-append (units in_utf16 h.scalars) (units in_utf16 g.scalars)) ∙ ap length (sym (units-append in_utf16 h.scalars g.scalars));
      writes = g.writes ∙ ap (λ cs. over grown (spelling in_utf16 cs ++ spelling in_utf16 g.scalars)) front ∙ ap (λ l. over grown l) (sym (spelling16-append h.scalars g.scalars));
    }

-- ---- compact lengths
is_narrow : (cs : List ℕ) → length cs < 2 ^ 31 → (text_form compact (length cs) ≡ in_latin1) × (text_bytes compact (length cs) ≡ length cs) × (is_tagged (length cs) ≡ false)
is_narrow cs h =
    let t : nat_lt (length cs) (2 ^ 31) ≡ true = lt-ltb (length cs) (2 ^ 31) h in
    (ap (λ b. cond (not b) in_utf16 in_latin1) t, ap (λ b. cond (not b) (2 * (length cs - 2 ^ 31)) (length cs)) t, ap not t)

is_wide : (n : ℕ) → (text_form compact (n + 2 ^ 31) ≡ in_utf16) × (text_bytes compact (n + 2 ^ 31) ≡ 2 * n) × (is_tagged (n + 2 ^ 31) ≡ true)
is_wide n =
    let t : nat_lt (n + 2 ^ 31) (2 ^ 31) ≡ false = le-ltb (n + 2 ^ 31) (2 ^ 31) (omega arith) in
    (ap (λ b. cond (not b) in_utf16 in_latin1) t, ap (λ b. cond (not b) (2 * (n + 2 ^ 31 - 2 ^ 31)) (n + 2 ^ 31)) t ∙ omega arith, ap not t)

-- what holds of a compact length, by whether the text is Latin-1
record Fits (cs : List ℕ) (n : ℕ) (form : Form) : Type 0 where
  form_is : text_form compact n ≡ form
  bytes_are : text_bytes compact n ≡ length (spelling form cs)
  tag : is_tagged n ≡ not (all_latin1 cs)

fits : (cs : List ℕ) (b : Bool) → all_latin1 cs ≡ b → length (units in_utf16 cs) < 2 ^ 31 → Fits cs (cond b (length cs) (length (units in_utf16 cs) + 2 ^ 31)) (cond b in_latin1 in_utf16)
fits cs true e h =
    let p = is_narrow cs (omega (arith, ap length (latin1_units cs e))) in
    record { form_is = p.0; bytes_are = p.1; tag = p.2 ∙ ap not (sym e) }
fits cs false e h =
    let p = is_wide (length (units in_utf16 cs)) in
    record { form_is = p.0; bytes_are = p.1 ∙ sym (length-unit_bytes (units in_utf16 cs)); tag = p.2 ∙ ap not (sym e) }

fits_compact : (cs : List ℕ) → length (units in_utf16 cs) < 2 ^ 31 → Fits cs (compact_length cs) (compact_form cs)
fits_compact cs h = fits cs (all_latin1 cs) refl h

pub compact_lengths : CompactLengths
compact_lengths = record {
  form_is = λ cs h. (fits_compact cs h).form_is;
  bytes_are = λ cs h. (fits_compact cs h).bytes_are;
  least = λ cs h. (fits_compact cs h).tag;
}

-- ---- scalars
-- units of what one form can spell determine it in another
determine : (from to : Form) (cs ds : List ℕ) → can_spell from cs ≡ true → can_spell to ds ≡ true → units to cs ≡ units to ds → cs ≡ ds
determine from in_utf8 cs ds h g e = encodes_same cs ds e
determine from in_latin1 cs ds h g e = e
determine in_utf8 in_utf16 cs ds h g e = units_determine in_utf16 cs ds h g e
determine in_utf16 in_utf16 cs ds h g e = units_determine in_utf16 cs ds h g e
determine in_latin1 in_utf16 cs ds h g e = units_determine in_utf16 cs ds (latin1_scalars cs h) g e

converts : (from to : Form) (source old new cs ds : List ℕ) (n : ℕ) → Converts from to source old new n → Reads from source cs → Reads to (take n new) ds → cs ≡ ds
converts from to source old new cs ds n h r w =
    units_determine from cs h.scalars r.can h.can (sym r.is ∙ h.reads)
    ∙ determine from to h.scalars ds h.can w.can (sym (ap (λ l. take n l) h.writes ∙ take_at (units to h.scalars) _ n (sym h.count)) ∙ w.is)

-- a front that is the whole source
whole_front : (form : Form) (source cs rest : List ℕ) (read : ℕ) → source ≡ units form cs ++ rest → read ≡ length (units form cs) → length source ≤ read → source ≡ units form cs
whole_front form source cs rest read e k h =
    let none : drop read source ≡ rest = ap (λ l. drop read l) e ∙ drop_at (units form cs) rest read (sym k) in
    e ∙ ap (λ l. units form cs ++ l) (sym none ∙ drop_all read source h) ∙ append-nil (units form cs)

passed : (form : Form) (first : Bool) (source old new cs ds : List ℕ) (read written : ℕ) → Passed form first source old new read written → length source ≤ read → Reads form source cs → Reads in_utf8 (take written new) ds → cs ≡ ds
passed form first source old new cs ds read written h all r w =
    units_determine form cs h.scalars r.can h.pass.can (sym r.is ∙ whole_front form source h.scalars h.rest read h.pass.reads h.reads all)
    ∙ encodes_same h.scalars ds (sym (ap (λ l. take written l) h.writes ∙ take_at (encode_utf8_all h.scalars) _ written (sym h.count)) ∙ w.is)

narrows : (form : Form) (source old new cs ds : List ℕ) (read written : ℕ) → Narrows form source old new read written → length source ≤ read → Reads form source cs → Reads in_latin1 (take written new) ds → cs ≡ ds
narrows form source old new cs ds read written h all r w =
    units_determine form cs h.scalars r.can h.can (sym r.is ∙ whole_front form source h.scalars h.rest read h.is h.reads all)
    ∙ (sym (ap (λ l. take written l) h.writes ∙ take_at h.scalars _ written (sym h.count)) ∙ w.is)

wide_same : (form : Form) (cs ds : List ℕ) → can_spell form cs ≡ true → Spells in_utf16 (spelling in_utf16 cs) ds → cs ≡ ds
wide_same in_utf8 cs ds h s = spells_same in_utf16 (spelling in_utf16 cs) cs ds (record { can = h; is = refl }) s
wide_same in_utf16 cs ds h s = spells_same in_utf16 (spelling in_utf16 cs) cs ds (record { can = h; is = refl }) s
wide_same in_latin1 cs ds h s = spells_same in_utf16 (spelling in_utf16 cs) cs ds (record { can = latin1_scalars cs h; is = refl }) s

wrote_wide : (form : Form) (source old new cs ds : List ℕ) (n : ℕ) → WroteWide form source old new n → Reads form source cs → Spells in_utf16 (take (2 * n) new) ds → cs ≡ ds
wrote_wide form source old new cs ds n h r s =
    let long : length (spelling in_utf16 h.scalars) ≡ 2 * n = omega (arith, length-unit_bytes (units in_utf16 h.scalars), h.count) in
    let front : take (2 * n) new ≡ spelling in_utf16 h.scalars = ap (λ l. take (2 * n) l) h.writes ∙ take_at (spelling in_utf16 h.scalars) _ (2 * n) long in
    units_determine form cs h.scalars r.can h.can (sym r.is ∙ h.reads) ∙ wide_same form h.scalars ds h.can (subst (λ l. Spells in_utf16 l ds) front s)

-- ---- behind a Latin-1 text
pub wide_can : (form : Form) (cs : List ℕ) → can_spell form cs ≡ true → can_spell in_utf16 cs ≡ true
wide_can in_utf8 cs h = h
wide_can in_utf16 cs h = h
wide_can in_latin1 cs h = latin1_scalars cs h

-- so long is a Latin-1 text in UTF-16
length-front : (so_far : ℕ) (old : List ℕ) → so_far ≤ length old → all_latin1 (take so_far old) ≡ true → length (spelling in_utf16 (take so_far old)) ≡ 2 * so_far
length-front so_far old le latin1 = omega (arith, length-unit_bytes (units in_utf16 (take so_far old)), ap length (latin1_units (take so_far old) latin1), length-take-le so_far old le)

widens : (form : Form) (source old new cs ds : List ℕ) (so_far n : ℕ) → Widens form source old new so_far n → so_far ≤ length old → all_latin1 (take so_far old) ≡ true → Reads form source cs
    → Spells in_utf16 (take (2 * (n - so_far)) (drop (2 * so_far) new)) ds → cs ≡ ds
widens form source old new cs ds so_far n h le latin1 r s =
    let first : List ℕ = spelling in_utf16 (take so_far old) in
    let text : List ℕ = spelling in_utf16 h.scalars in
    let rest : List ℕ = drop (length (first ++ text)) old in
    let long : length text ≡ 2 * (n - so_far) = omega (arith, length-unit_bytes (units in_utf16 h.scalars), h.count) in
    let behind : drop (2 * so_far) new ≡ text ++ rest =
    ap (λ l. drop (2 * so_far) l) (h.writes ∙ append_assoc first text rest) ∙ drop_at first (text ++ rest) (2 * so_far) (length-front so_far old le latin1) in
    let front : take (2 * (n - so_far)) (drop (2 * so_far) new) ≡ text = ap (λ l. take (2 * (n - so_far)) l) behind ∙ take_at text rest (2 * (n - so_far)) long in
    units_determine form cs h.scalars r.can h.can (sym r.is ∙ h.reads) ∙ wide_same form h.scalars ds h.can (subst (λ l. Spells in_utf16 l ds) front s)

widens_whole : (form : Form) (source old new cs ds : List ℕ) (so_far n : ℕ) → Widens form source old new so_far n → so_far ≤ length old → all_latin1 (take so_far old) ≡ true → Reads form source cs
    → Spells in_utf16 (take (2 * n) new) ds → take so_far old ++ cs ≡ ds
widens_whole form source old new cs ds so_far n h le latin1 r s =
    let es : List ℕ = take so_far old ++ h.scalars in
    let text : List ℕ = spelling in_utf16 (take so_far old) ++ spelling in_utf16 h.scalars in
    let whole : text ≡ spelling in_utf16 es = sym (spelling16-append (take so_far old) h.scalars) in
    let long : length text ≡ 2 * n =
    omega (arith, length-append (spelling in_utf16 (take so_far old)) (spelling in_utf16 h.scalars), length-front so_far old le latin1, length-unit_bytes (units in_utf16 h.scalars), h.count) in
    let front : take (2 * n) new ≡ spelling in_utf16 es = ap (λ l. take (2 * n) l) h.writes ∙ take_at text _ (2 * n) long ∙ whole in
    let can = can_spell-append in_utf16 (take so_far old) h.scalars (latin1_scalars (take so_far old) latin1) (wide_can form h.scalars h.can) in
    ap (λ l. take so_far old ++ l) (units_determine form cs h.scalars r.can h.can (sym r.is ∙ h.reads))
    ∙ spells_same in_utf16 (spelling in_utf16 es) es ds (record { can = can; is = refl }) (subst (λ l. Spells in_utf16 l ds) front s)

compact_can : (cs : List ℕ) (b : Bool) → all_latin1 cs ≡ b → can_spell in_utf16 cs ≡ true → can_spell (cond b in_latin1 in_utf16) cs ≡ true
compact_can cs true e h = e
compact_can cs false e h = h

compacts : (source new cs ds : List ℕ) (n : ℕ) → Compacts source new n → length source < 2 ^ 31 → Reads in_utf16 source cs → Spells (text_form compact n) (take (text_bytes compact n) new) ds → cs ≡ ds
compacts source new cs ds n h short r s =
    let es = h.scalars in
    let f = fits_compact es (subst (λ us. length us < 2 ^ 31) h.reads short) in
    let form_is : text_form compact n ≡ compact_form es = ap (λ k. text_form compact k) h.count ∙ f.form_is in
    let bytes : text_bytes compact n ≡ length (spelling (compact_form es) es) = ap (λ k. text_bytes compact k) h.count ∙ f.bytes_are in
    let front : take (text_bytes compact n) new ≡ spelling (compact_form es) es = ap (λ l. take (text_bytes compact n) l) h.writes ∙ take_at (spelling (compact_form es) es) _ (text_bytes compact n) (sym bytes) in
    let t : Spells (compact_form es) (spelling (compact_form es) es) ds = subst (λ l. Spells (compact_form es) l ds) front (subst (λ k. Spells k (take (text_bytes compact n) new) ds) form_is s) in
    units_determine in_utf16 cs es r.can h.can (sym r.is ∙ h.reads) ∙ spells_same (compact_form es) (spelling (compact_form es) es) es ds (record { can = compact_can es (all_latin1 es) refl h.can; is = refl }) t

pub scalars_kept : ScalarsKept
scalars_kept = record {
  converts = converts;
  passed = passed;
  narrows = narrows;
  wrote_wide = wrote_wide;
  widens = widens;
  widens_whole = widens_whole;
  compacts = compacts;
  decodes = λ form bytes text cs ds h s t. spells_same form bytes cs h.scalars s h.spells ∙ encodes_same h.scalars ds (sym h.is ∙ sym t.is);
}
