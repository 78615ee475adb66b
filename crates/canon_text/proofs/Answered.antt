-- The definitions fix the answers.
use Rattle.std.proofs.Common.{All, Bool, List, [], ap, arith, get_or, length, refl, subst, sym, true, ℕ, ⊎_elim, ◌++◌, ◌+◌, ◌<◌, ◌∙◌, ◌∷◌, ◌≡◌, ◌≤◌}
use Rattle.std.proofs.lemmas.List.{append-nil, get_or_at}
use Rattle.std.specs.Str.{encode_utf8_all}
use Rattle.canon_model.proofs.Texts.{spells_same, units_determine}
use Rattle.canon_model.specs.Pass.{IsPass}
use Rattle.canon_model.specs.Text.{Form, all_latin1, can_spell, in_utf16, spelling, units}
use Rattle.canon_text.specs.Answers.{Compacts, Converts, Narrows, PassFails, Passed, Widens, compact_form, compact_length, inflated}
use Rattle.canon_text.specs.Faults.{BeginsNoLatin1, error_place}
use Rattle.canon_text.specs.declared.error.TextError.{TextError}
use Rattle.canon_text.specs.Laws.{OneAnswer}
use Rattle.canon_text.specs.Writing.{over}
use Rattle.canon_text.proofs.Bytes.{latin1_each}
use Rattle.canon_text.proofs.Lawful.{no_further}
use Rattle.canon_text.proofs.Splits.{first_can, first_units, fronts, ill_same}

pass_on : (form : Form) (first : Bool) (source cs ds rest rest2 : List ℕ) (room : ℕ) → IsPass form first source room cs rest → IsPass form first source room ds rest2 → (more : List ℕ)
    → ds ≡ cs ++ more → can_spell form more ≡ true → rest ≡ units form more ++ rest2 → cs ≡ ds
pass_on form first source cs ds rest rest2 room h g [] is can e = sym (is ∙ append-nil cs)
pass_on form first source cs ds rest rest2 room h g (c ∷ more) is can e = absurd (no_further form first source rest rest2 cs c more room h
    (subst (λ l. length (encode_utf8_all l) ≤ room) is g.fits)
    (λ t. subst (λ l. All (λ x. x < 128) l) is (g.plain t)) can e)

one_pass : (form : Form) (first : Bool) (source cs ds rest rest2 : List ℕ) (room : ℕ) → IsPass form first source room cs rest → IsPass form first source room ds rest2 → cs ≡ ds
one_pass form first source cs ds rest rest2 room h g = ⊎_elim
    (λ l. pass_on form first source cs ds rest rest2 room h g l.more l.is l.can l.rest)
    (λ r. sym (pass_on form first source ds cs rest2 rest room g h r.more r.is r.can r.rest))
    (fronts form cs ds rest rest2 h.can g.can (sym h.reads ∙ g.reads))

narrow_on : (form : Form) (cs ds rest rest2 : List ℕ) → BeginsNoLatin1 form rest → all_latin1 ds ≡ true → (more : List ℕ) → ds ≡ cs ++ more → can_spell form more ≡ true → rest ≡ units form more ++ rest2 → cs ≡ ds
narrow_on form cs ds rest rest2 stops small [] is can e = sym (is ∙ append-nil cs)
narrow_on form cs ds rest rest2 stops small (c ∷ more) is can e =
    let here : get_or ds (length cs) 0 ≡ c = ap (λ l. get_or l (length cs) 0) is ∙ get_or_at cs c more 0 (length cs) refl in
    absurd (stops c (omega (arith, latin1_each ds (length cs) small)) (record { more = units form more ++ rest2; can = (first_can form c more can).0; is = e ∙ first_units form c more rest2 }))

one_narrow : (form : Form) (source old a b : List ℕ) (read written read2 written2 : ℕ) (h : Narrows form source old a read written) (g : Narrows form source old b read2 written2) → h.scalars ≡ g.scalars
one_narrow form source old a b read written read2 written2 h g = ⊎_elim
    (λ l. narrow_on form h.scalars g.scalars h.rest g.rest h.stops g.latin1 l.more l.is l.can l.rest)
    (λ r. sym (narrow_on form g.scalars h.scalars g.rest h.rest g.stops h.latin1 r.more r.is r.can r.rest))
    (fronts form h.scalars g.scalars h.rest g.rest h.can g.can (sym h.is ∙ g.is))

converts : (from to : Form) (source old a b : List ℕ) (m n : ℕ) → Converts from to source old a m → Converts from to source old b n → (m ≡ n) × (a ≡ b)
converts from to source old a b m n h g =
    let same = units_determine from h.scalars g.scalars h.can g.can (sym h.reads ∙ g.reads) in
    (h.count ∙ ap (λ cs. length (units to cs)) same ∙ sym g.count, h.writes ∙ ap (λ cs. over old (units to cs)) same ∙ sym g.writes)

passed : (form : Form) (first : Bool) (source old a b : List ℕ) (read written read2 written2 : ℕ) → Passed form first source old a read written → Passed form first source old b read2 written2
    → (read ≡ read2) × (written ≡ written2) × (a ≡ b)
passed form first source old a b read written read2 written2 h g =
    let same = one_pass form first source h.scalars g.scalars h.rest g.rest (length old) h.pass g.pass in
    (h.reads ∙ ap (λ cs. length (units form cs)) same ∙ sym g.reads, h.count ∙ ap (λ cs. length (encode_utf8_all cs)) same ∙ sym g.count, h.writes ∙ ap (λ cs. over old (encode_utf8_all cs)) same ∙ sym g.writes)

narrows : (form : Form) (source old a b : List ℕ) (read written read2 written2 : ℕ) → Narrows form source old a read written → Narrows form source old b read2 written2 → (read ≡ read2) × (written ≡ written2) × (a ≡ b)
narrows form source old a b read written read2 written2 h g =
    let same = one_narrow form source old a b read written read2 written2 h g in
    (h.reads ∙ ap (λ cs. length (units form cs)) same ∙ sym g.reads, h.count ∙ ap length same ∙ sym g.count, h.writes ∙ ap (λ cs. over old cs) same ∙ sym g.writes)

widens : (form : Form) (source old a b : List ℕ) (so_far m n : ℕ) → Widens form source old a so_far m → Widens form source old b so_far n → (m ≡ n) × (a ≡ b)
widens form source old a b so_far m n h g =
    let same = units_determine form h.scalars g.scalars h.can g.can (sym h.reads ∙ g.reads) in
    (h.count ∙ ap (λ cs. so_far + length (units in_utf16 cs)) same ∙ sym g.count, h.writes ∙ ap (λ cs. over old (inflated old so_far ++ spelling in_utf16 cs)) same ∙ sym g.writes)

compacts : (source a b : List ℕ) (m n : ℕ) → Compacts source a m → Compacts source b n → (m ≡ n) × (a ≡ b)
compacts source a b m n h g =
    let same = units_determine in_utf16 h.scalars g.scalars h.can g.can (sym h.reads ∙ g.reads) in
    (h.count ∙ ap compact_length same ∙ sym g.count, h.writes ∙ ap (λ cs. over (spelling in_utf16 cs) (spelling (compact_form cs) cs)) same ∙ sym g.writes)

refused : (form : Form) (first : Bool) (source old a b : List ℕ) (e f : TextError) → PassFails form first source old a e → PassFails form first source old b f → (error_place e ≡ error_place f) × (a ≡ b)
refused form first source old a b e f h g =
    let same = ill_same form h.scalars g.scalars h.rest g.rest h.front.can g.front.can (sym h.is ∙ g.is) h.fault g.fault in
    (h.place ∙ ap (λ cs. length (units form cs)) same ∙ sym g.place, h.writes ∙ ap (λ cs. over old (encode_utf8_all cs)) same ∙ sym g.writes)

pub one_answer : OneAnswer
one_answer = record {
  refused = refused;
  converts = converts;
  passed = passed;
  narrows = narrows;
  widens = widens;
  compacts = compacts;
  decodes = λ form bytes a b h g. h.is ∙ ap encode_utf8_all (spells_same form bytes h.scalars g.scalars h.spells g.spells) ∙ sym g.is;
}
