-- What a question is answered that may want memory.
use Rattle.std.specs.Prelude.{Bool, Err, IsTrue, Ok, Result, ⊤, ◌↔◌}
use Rattle.canon_recording_parts.specs.declared.error.ReplayError.{ReplayError}
use Rattle.canon_recording_parts.specs.declared.error.ReplayError.TheVariants as error

-- the answer says whether this is so; or memory was short, which alone is no answer
abbrev pub Decides : Type 0 → Result Bool ReplayError → Type 0
Decides P (Ok b) = IsTrue b ↔ P
Decides P (Err error.OutOfMemory) = ⊤
Decides P (Err _) = ⊥
