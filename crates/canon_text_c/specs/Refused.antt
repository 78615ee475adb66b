-- What a refusal says, whose error is known by its place.
use Rattle.std.specs.Prelude.{Bool, List, ℕ, ◌≡◌}
use Rattle.canon_model.specs.Text.{Form}
use Rattle.canon_text.specs.Answers.{PassFails}
use Rattle.canon_text.specs.Faults.{error_place}
use Rattle.canon_text.specs.declared.error.TextError.{TextError}

-- a pass came to its source's first fault, at this place
pub record PassFailsAt (form : Form) (first : Bool) (source old new : List ℕ) (place : ℕ) : Type 0 where
  pub error : TextError
  pub is : error_place error ≡ place
  pub fails : PassFails form first source old new error
