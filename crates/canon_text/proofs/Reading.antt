-- Whole characters read from the front of a source.
use Rattle.std.proofs.Common.{IsTrue, List, [], ap, append_assoc, arith, drop, length, refl, sym, ℕ, ◌++◌, ◌+◌, ◌∙◌, ◌∷◌, ◌≡◌, ◌≤◌}
use Rattle.std.proofs.lemmas.List.{append-nil, drop_all, drop_at, length-append}
use Rattle.canon_model.proofs.Passes.{can_spell-append, units-append}
use Rattle.canon_model.specs.Text.{Form, can_spell, in_latin1, in_utf16, in_utf8, units}
use Rattle.canon_text.specs.Faults.{Begins, IllFormed, IllFormedAt, WellFormed}

-- the units before a place are those of these scalars
pub record IsFront (form : Form) (source : List ℕ) (at : ℕ) (scalars : List ℕ) : Type 0 where
  pub can : IsTrue (can_spell form scalars)
  pub is : source ≡ units form scalars ++ drop at source
  pub place : at ≡ length (units form scalars)

pub record ReadTo (form : Form) (source : List ℕ) (at : ℕ) : Type 0 where
  pub scalars : List ℕ
  pub front : IsFront form source at scalars

pub front-nil : (form : Form) (source : List ℕ) → IsFront form source 0 []
front-nil in_utf8 source = record { can = refl; is = refl; place = refl }
front-nil in_utf16 source = record { can = refl; is = refl; place = refl }
front-nil in_latin1 source = record { can = refl; is = refl; place = refl }

pub front-more : (form : Form) (source : List ℕ) (at end c : ℕ) (scalars : List ℕ) → IsFront form source at scalars → Begins form c (drop at source) → end ≡ at + length (units form (c ∷ [])) → IsFront form source end (scalars ++ c ∷ [])
front-more form source at end c scalars h b e =
    let joined : source ≡ units form (scalars ++ c ∷ []) ++ b.more =
    h.is ∙ ap (λ l. units form scalars ++ l) b.is ∙ sym (append_assoc (units form scalars) (units form (c ∷ [])) b.more) ∙ ap (λ l. l ++ b.more) (sym (units-append form scalars (c ∷ []))) in
    let long : end ≡ length (units form (scalars ++ c ∷ [])) =
    e ∙ ap (λ n. n + length (units form (c ∷ []))) h.place ∙ sym (length-append (units form scalars) (units form (c ∷ []))) ∙ ap length (sym (units-append form scalars (c ∷ []))) in
    let rest : drop end source ≡ b.more = ap (λ l. drop end l) joined ∙ drop_at (units form (scalars ++ c ∷ [])) b.more end (sym long) in
    record {
      can = can_spell-append form scalars (c ∷ []) h.can b.can;
      is = joined ∙ ap (λ l. units form (scalars ++ c ∷ []) ++ l) (sym rest);
      place = long;
    }

pub front-all : (form : Form) (source : List ℕ) (at : ℕ) (scalars : List ℕ) → IsFront form source at scalars → length source ≤ at → source ≡ units form scalars
front-all form source at scalars h e = h.is ∙ ap (λ l. units form scalars ++ l) (drop_all at source e) ∙ append-nil (units form scalars)

pub front-ill : (form : Form) (source : List ℕ) (at : ℕ) (scalars : List ℕ) → IsFront form source at scalars → IllFormed form (drop at source) → IllFormedAt form source at
front-ill form source at scalars h f = record { scalars = scalars; rest = drop at source; can = h.can; is = h.is; place = h.place; fault = f }

pub front-le : (form : Form) (source : List ℕ) (at : ℕ) (scalars : List ℕ) → IsFront form source at scalars → at ≤ length source
front-le form source at scalars h = omega (arith, h.place, ap length h.is, length-append (units form scalars) (drop at source))

pub read-nil : (form : Form) (source : List ℕ) → ReadTo form source 0
read-nil form source = record { scalars = []; front = front-nil form source }

pub read-more : (form : Form) (source : List ℕ) (at end c : ℕ) → ReadTo form source at → Begins form c (drop at source) → end ≡ at + length (units form (c ∷ [])) → ReadTo form source end
read-more form source at end c h b e = record { scalars = h.scalars ++ c ∷ []; front = front-more form source at end c h.scalars h.front b e }

pub read-all : (form : Form) (source : List ℕ) (at : ℕ) → ReadTo form source at → length source ≤ at → WellFormed form source
read-all form source at h e = record { scalars = h.scalars; can = h.front.can; is = front-all form source at h.scalars h.front e }
