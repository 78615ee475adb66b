-- The laws of faults and passes.
use Rattle.std.proofs.Common.{All, Bool, IsTrue, List, [], ap, append_assoc, arith, drop, get_or, length, refl, subst, sym, take, true, ℕ, ⊎_elim, ◌++◌, ◌-◌, ◌<◌, ◌∙◌, ◌∷◌, ◌≡◌, ◌≤◌, ◌⊎◌}
use Rattle.std.proofs.lemmas.List.{append-nil, drop_at, get_or_at, length-append, take_at}
use Rattle.std.specs.Char.{encode_utf8}
use Rattle.std.specs.Str.{encode_utf8_all}
use Rattle.canon_model.proofs.Passes.{can_spell-append, encode_utf8_all-append, pass_goes_on, units-append}
use Rattle.canon_model.specs.Pass.{EndsPass, IsPass}
use Rattle.canon_model.specs.Text.{Form, can_spell, units}
use Rattle.canon_text.specs.Answers.{PassFails, Passed}
use Rattle.canon_text.specs.declared.error.TextError.{TextError}
use Rattle.canon_text.specs.Faults.{IllFormed, WellFormed}
use Rattle.canon_text.specs.Laws.{OneFault, PassReads, PassRefuses, PassesWrite, WroteFront, no_pass, then_pass}
use Rattle.canon_text.proofs.Narrowing.{some_units}
use Rattle.canon_text.proofs.Splits.{first_can, first_same, first_units, ill_front, ill_same, nil_can, nothing_left, units-nil}

fault_excludes : (form : Form) (source cs rest : List ℕ) → can_spell form cs ≡ true → source ≡ units form cs ++ rest → IllFormed form rest → WellFormed form source → ⊥
fault_excludes form source cs rest can is ill w =
    let on = ill_front form cs w.scalars rest [] can w.can (sym is ∙ w.is ∙ sym (append-nil (units form w.scalars))) ill in
    let none = nothing_left form on.more rest on.rest in
    let some : 0 < length rest = ill.some in
    omega (arith, ap length none)

pub one_fault : OneFault
one_fault = record {
  place = λ form source a b h g. h.place ∙ ap (λ cs. length (units form cs)) (ill_same form h.scalars g.scalars h.rest g.rest h.can g.can (sym h.is ∙ g.is) h.fault g.fault) ∙ sym g.place;
  excludes = λ form source at h w. fault_excludes form source h.scalars h.rest h.can h.is h.fault w;
}

-- a pass that stopped, and a text that could be read further
goes_past : (form : Form) (first : Bool) (room c : ℕ) (more rest fault : List ℕ) → can_spell form (c ∷ more) ≡ true → rest ≡ units form (c ∷ more) ++ fault → EndsPass form first room rest
    → (room < length (encode_utf8 c)) ⊎ (IsTrue first × (127 < c))
goes_past form first room c more rest fault can e h =
    let same = first_same form c h.next (units form more ++ fault) h.more (first_can form c more can).0 h.can (sym (first_units form c more fault) ∙ sym e ∙ h.is) in
    subst (λ k. (room < length (encode_utf8 k)) ⊎ (IsTrue first × (127 < k))) (sym same.0) h.cause

-- a pass can't end before what fits
pub no_further : (form : Form) (first : Bool) (source rest tail cs : List ℕ) (c : ℕ) (more : List ℕ) (room : ℕ) →
    IsPass form first source room cs rest → length (encode_utf8_all (cs ++ c ∷ more)) ≤ room → (IsTrue first → All (λ x. x < 128) (cs ++ c ∷ more)) →
    can_spell form (c ∷ more) ≡ true → rest ≡ units form (c ∷ more) ++ tail → ⊥
no_further form first source rest tail cs c more room h fits plain can e =
    let long = ap length (encode_utf8_all-append cs (c ∷ more)) ∙ length-append (encode_utf8_all cs) (encode_utf8 c ++ encode_utf8_all more) in
    let here : get_or (cs ++ c ∷ more) (length cs) 0 ≡ c = get_or_at cs c more 0 (length cs) refl in
    let some = some_units form c in
    ⊎_elim
    (λ none. omega (arith, ap length (sym none ∙ e ∙ first_units form c more tail), length-append (units form (c ∷ [])) (units form more ++ tail)))
    (λ s. ⊎_elim
    (λ l. let full : room - length (encode_utf8_all cs) < length (encode_utf8 c) = l in omega (arith, length-append (encode_utf8 c) (encode_utf8_all more)))
    (λ p. let big : 127 < c = p.1 in let small : get_or (cs ++ c ∷ more) (length cs) 0 < 128 = plain p.0 (length cs) 0 (omega (arith, length-append cs (c ∷ more))) in omega arith)
    (goes_past form first (room - length (encode_utf8_all cs)) c more rest tail can e s))
    h.stops

never : (form : Form) (first : Bool) (source rest fault cs more : List ℕ) (room : ℕ) → IsPass form first source room cs rest → IsPass form first (units form (cs ++ more)) room (cs ++ more) []
    → IllFormed form fault → can_spell form more ≡ true → rest ≡ units form more ++ fault → ⊥
never form first source rest fault cs [] room h g ill can e =
    let same : rest ≡ fault = e ∙ ap (λ l. l ++ fault) (units-nil form) in
    let some : 0 < length fault = ill.some in
    ⊎_elim (λ none. omega (arith, ap length (sym same ∙ none))) (λ s. ill.none s.next (record { more = s.more; can = s.can; is = sym same ∙ s.is })) h.stops
never form first source rest fault cs (c ∷ more) room h g ill can e = no_further form first source rest fault cs c more room h g.fits g.plain can e

never_both : (form : Form) (first : Bool) (source old new after : List ℕ) (read written : ℕ) (error : TextError) → Passed form first source old new read written → PassFails form first source old after error → ⊥
never_both form first source old new after read written error h g =
    let on = ill_front form g.scalars h.scalars g.rest h.rest g.front.can h.pass.can (sym g.is ∙ h.pass.reads) g.fault in
    never form first source h.rest g.rest h.scalars on.more (length old) h.pass (subst (λ cs. IsPass form first (units form cs) (length old) cs []) on.is g.front) g.fault on.can on.rest

pub pass_refuses : PassRefuses
pass_refuses = record {
  only = λ form first source old new error h w. fault_excludes form source h.scalars h.rest h.front.can h.is h.fault w;
  never_both = never_both;
}

-- ---- runs
pub passed_front : (form : Form) (first : Bool) (source old new : List ℕ) (read written : ℕ) (h : Passed form first source old new read written) → (drop read source ≡ h.rest) × (take written new ≡ encode_utf8_all h.scalars)
passed_front form first source old new read written h =
    (ap (λ l. drop read l) h.pass.reads ∙ drop_at (units form h.scalars) h.rest read (sym h.reads), ap (λ l. take written l) h.writes ∙ take_at (encode_utf8_all h.scalars) _ written (sym h.count))

one_more : (form : Form) (first : Bool) (source old new rest bytes : List ℕ) (read written : ℕ) → Passed form first source old new read written → WroteFront form (drop read source) rest bytes
    → WroteFront form source rest (take written new ++ bytes)
one_more form first source old new rest bytes read written h g =
    let p = passed_front form first source old new read written h in
    record {
      scalars = h.scalars ++ g.scalars;
      can = can_spell-append form h.scalars g.scalars h.pass.can g.can;
      reads = h.pass.reads ∙ ap (λ l. units form h.scalars ++ l) (sym p.0 ∙ g.reads) ∙ sym (append_assoc (units form h.scalars) (units form g.scalars) rest) ∙ ap (λ l. l ++ rest) (sym (units-append form h.scalars g.scalars));
      writes = ap (λ l. l ++ bytes) p.1 ∙ ap (λ l. encode_utf8_all h.scalars ++ l) g.writes ∙ sym (encode_utf8_all-append h.scalars g.scalars);
    }

pub passes_write : PassesWrite
passes_write form source rest bytes (no_pass s) = record { scalars = []; can = nil_can form; reads = ap (λ l. l ++ s) (sym (units-nil form)); writes = refl }
passes_write form source rest bytes (then_pass first s old new r bs read written h g) = one_more form first s old new r bs read written h (passes_write form (drop read s) r bs g)

some_read : (form : Form) (cs : List ℕ) → ¬ (cs ≡ []) → 0 < length (units form cs)
some_read form [] some = absurd (some refl)
some_read form (c ∷ cs) some = omega (arith, some_units form c, ap length (first_units form c cs []), length-append (units form (c ∷ cs)) [], length-append (units form (c ∷ [])) (units form cs ++ []))

pub pass_reads : PassReads
pass_reads form source old new read written h big some = omega (arith, h.reads, some_read form h.scalars (pass_goes_on form source (length old) h.scalars h.rest big h.pass some))
