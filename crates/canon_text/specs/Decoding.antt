-- Texts out of bytes.
use Rattle.std.specs.Prelude.{Bool, List, ⊤, [], false, true, ℕ, ◌*◌, ◌+◌, ◌∷◌, ◌≡◌}
use Rattle.std.specs.Str.{encode_utf8_all}
use Rattle.std.specs.String.{string_bytes}
use Rattle.canon_model.specs.Text.{Form, Spells}
use Rattle.canon_text.specs.Faults.{IsFirstFault}
use Rattle.canon_text.specs.declared.error.DecodeError.{DecodeError}
use Rattle.canon_text.specs.declared.error.DecodeError.TheVariants.{OutOfMemory, Text}
use Rattle.canon_text.specs.declared.cow.CowStr.{CowStr}
use Rattle.canon_text.specs.declared.cow.CowStr.TheVariants.{Borrowed, Owned}

-- the text's bytes, in UTF-8
abbrev pub cow_text : CowStr → List ℕ
cow_text (Borrowed s) = s.now
cow_text (Owned s) = string_bytes s

abbrev pub is_borrowed : CowStr → Bool
is_borrowed (Borrowed s) = true
is_borrowed (Owned s) = false

-- want of memory may come at any time; any other error names the first fault of the source
abbrev pub IsDecodeFault : Form → List ℕ → DecodeError → Type 0
IsDecodeFault form source (Text e) = IsFirstFault form source e
IsDecodeFault form source OutOfMemory = ⊤

-- no scalar values are spelled by these bytes
abbrev pub SpellsNothing : Form → List ℕ → Type 0
SpellsNothing form bytes = (cs : List ℕ) → ¬ (Spells form bytes cs)

-- an error other than want of memory says so
abbrev pub IsNoText : Form → List ℕ → DecodeError → Type 0
IsNoText form bytes (Text e) = SpellsNothing form bytes
IsNoText form bytes OutOfMemory = ⊤

-- bytes of a form and bytes of UTF-8 spell the same scalar values
pub record Decodes (form : Form) (bytes text : List ℕ) : Type 0 where
  pub scalars : List ℕ
  pub spells : Spells form bytes scalars
  pub is : text ≡ encode_utf8_all scalars

-- the units of 16 bits that bytes hold, the low byte first
abbrev pub units_in : List ℕ → List ℕ
units_in [] = []
units_in (low ∷ []) = []
units_in (low ∷ high ∷ bytes) = (low + 256 * high) ∷ units_in bytes
