-- Texts read from memory, in each encoding.
use Rattle.std.proofs.Common.{length-drop, length-take-le, ◌≡◌, ◌≤◌, ◌<◌, ◌+◌, ◌*◌, ◌-◌, ◌^◌, ◌%◌, ◌∙◌, List, String, ap, arith, drop, false, length, lt-ltb, not, refl, string_bytes, subst, subst₂, sym, take, true, ℕ}
use Rattle.std.proofs.lemmas.Bool.{cond-false}
use Rattle.std.specs.Str.{all_scalars}
use Rattle.std.specs.declared.alloc.Global.{Global}
use Rattle.canon_lowering.specs.Storing.{narrow}
use Rattle.canon_model.specs.Memory.{bytes_at, bytes_in}
use Rattle.canon_model.specs.Reach.{IsGood}
use Rattle.canon_model.specs.Text.{Encoding, Form, Spells, can_spell, compact, in_latin1, in_utf16, in_utf8, is_tagged, text_align, text_bytes, text_form}
use Rattle.canon_text.proofs.Bytes.{latin1_scalars}
use Rattle.canon_text.specs.Decoding.{Decodes}
use Rattle.canon_string.specs.Loading.{IsTextLoaded}

-- what a slice of memory reads
pub read_there : (bytes : List ℕ) (p n : ℕ) → take (p + n - p) (drop p bytes) ≡ bytes_at (narrow bytes) p n
unfolding bytes_in
read_there bytes p n = let count : p + n - p ≡ n = omega arith in ap (λ k. take k (drop p bytes)) count

-- units of two bytes
pub even_bytes : (bytes read : List ℕ) (p k : ℕ) → read ≡ bytes_at (narrow bytes) p (2 * k) → p + 2 * k ≤ length bytes → length read % 2 ≡ 0
unfolding bytes_in
even_bytes bytes read p k is inside = let count : length read ≡ 2 * k = ap length is ∙ length-take-le (2 * k) (drop p bytes) (omega (arith, length-drop p bytes)) in omega (arith, count)

-- what a form spells are scalar values
can_be_spelled : (form : Form) (cs : List ℕ) → can_spell form cs ≡ true → all_scalars cs ≡ true
can_be_spelled in_utf8 cs h = h
can_be_spelled in_utf16 cs h = h
can_be_spelled in_latin1 cs h = latin1_scalars cs h

-- a text of this form that so many bytes spell
module _ (enc : Encoding) (bytes : List ℕ) (p n : ℕ) (form : Form) (size : ℕ) (form_is : form ≡ text_form enc n) (size_is : size ≡ text_bytes enc n) where
  abbrev Good : ℕ → Type 0
  Good k = IsGood (narrow bytes) p k (text_align enc)

  module _ (read : List ℕ) (is : read ≡ bytes_at (narrow bytes) p size) (good : Good size) where
    there : read ≡ bytes_at (narrow bytes) p (text_bytes enc n)
    there = is ∙ ap (bytes_at (narrow bytes) p) size_is

    as_is : Good (text_bytes enc n)
    as_is = subst Good size_is good

    -- its bytes are decoded
    pub text_loaded : (before after : ℕ) (s : String Global) (out : List ℕ) → before ≡ after + size → Decodes form read out → string_bytes s ≡ out → IsTextLoaded enc (narrow bytes) p n before after s
    text_loaded before after s out spent d same = (
      d.scalars,
      text_bytes enc n,
      record { scalars = d.scalars; is = refl; aligned = as_is.0; inside = as_is.1; spelled = subst₂ (λ (f : Form) (xs : List ℕ). Spells f xs d.scalars) form_is there d.spells; least = λ strict. cc },
      record { can = can_be_spelled form d.scalars d.spells.can; is = sym (same ∙ d.is) },
      spent ∙ ap (λ k. after + k) size_is,
    )

-- ---- compact texts

module _ (n : ℕ) (few : n < 2 ^ 31) where
  untagged : is_tagged n ≡ false
  untagged = ap not (lt-ltb n (2 ^ 31) few)

  pub latin1_form : in_latin1 ≡ text_form compact n
  latin1_form = sym (cond-false (is_tagged n) in_utf16 in_latin1 untagged)

  pub latin1_bytes : n ≡ text_bytes compact n
  latin1_bytes = sym (cond-false (is_tagged n) (2 * (n - 2 ^ 31)) n untagged)
