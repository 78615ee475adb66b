-- Where a source stops being well-formed.
use Rattle.std.specs.Prelude.{IsTrue, List, [], length, ℕ, ◌++◌, ◌<◌, ◌∷◌, ◌≡◌}
use Rattle.canon_model.specs.Text.{Form, can_spell, in_utf16, in_utf8, units}
use Rattle.canon_text.specs.declared.error.TextError.{TextError}
use Rattle.canon_text.specs.declared.error.TextError.TheVariants.{InvalidUtf16, InvalidUtf8}

-- units that begin with this character
pub record Begins (form : Form) (scalar : ℕ) (source : List ℕ) : Type 0 where
  pub more : List ℕ
  pub can : IsTrue (can_spell form (scalar ∷ []))
  pub is : source ≡ units form (scalar ∷ []) ++ more

-- units that no character begins
pub record IllFormed (form : Form) (source : List ℕ) : Type 0 where
  pub some : 0 < length source
  pub none : (c : ℕ) → ¬ (Begins form c source)

-- units that no character up to U+00FF begins
abbrev pub BeginsNoLatin1 : Form → List ℕ → Type 0
BeginsNoLatin1 form source = (c : ℕ) → c < 256 → ¬ (Begins form c source)

-- a whole text in a form
pub record WellFormed (form : Form) (source : List ℕ) : Type 0 where
  pub scalars : List ℕ
  pub can : IsTrue (can_spell form scalars)
  pub is : source ≡ units form scalars

-- the first ill-formed sequence comes after this many units, which are whole characters
pub record IllFormedAt (form : Form) (source : List ℕ) (at : ℕ) : Type 0 where
  pub scalars : List ℕ
  pub rest : List ℕ
  pub can : IsTrue (can_spell form scalars)
  pub is : source ≡ units form scalars ++ rest
  pub place : at ≡ length (units form scalars)
  pub fault : IllFormed form rest

-- what an error names
abbrev pub error_form : TextError → Form
error_form (InvalidUtf8 at) = in_utf8
error_form (InvalidUtf16 at) = in_utf16

abbrev pub error_place : TextError → ℕ
error_place (InvalidUtf8 at) = at
error_place (InvalidUtf16 at) = at

-- the error names the first fault of a source
pub record IsFirstFault (form : Form) (source : List ℕ) (error : TextError) : Type 0 where
  pub form_is : error_form error ≡ form
  pub at : IllFormedAt form source (error_place error)
