-- Laws over the definitions that the conversions' contracts name.
use Rattle.std.specs.Prelude.{All, Bool, IsTrue, List, [], drop, false, length, take, ℕ, ◌%◌, ◌*◌, ◌++◌, ◌-◌, ◌<◌, ◌^◌, ◌↔◌, ◌≡◌, ◌≤◌}
use Rattle.std.specs.Str.{encode_utf8_all}
use Rattle.canon_model.specs.Text.{Form, IsLeastTag, Spells, all_latin1, can_spell, compact, in_latin1, in_utf16, in_utf8, spelling, text_bytes, text_form, units}
use Rattle.canon_text.specs.declared.error.TextError.{TextError}
use Rattle.canon_text.specs.Answers.{Compacts, Converts, Narrows, PassFails, Passed, Widens, compact_form, compact_length}
use Rattle.canon_text.specs.Decoding.{Decodes, units_in}
use Rattle.canon_text.specs.Faults.{IllFormedAt, WellFormed, error_place}
use Rattle.canon_text.specs.Writing.{over}

-- A source has one first fault, or it is a text.
pub record OneFault : Type 0 where
  pub place : (form : Form) (source : List ℕ) (a b : ℕ) → IllFormedAt form source a → IllFormedAt form source b → a ≡ b
  pub excludes : (form : Form) (source : List ℕ) (at : ℕ) → IllFormedAt form source at → ¬ (WellFormed form source)

-- A pass refuses only a source that is ill-formed, and none that it answers.
pub record PassRefuses : Type 0 where
  pub only : (form : Form) (first : Bool) (source old new : List ℕ) (error : TextError) → PassFails form first source old new error → ¬ (WellFormed form source)
  pub never_both : (form : Form) (first : Bool) (source old new after : List ℕ) (read written : ℕ) (error : TextError) → Passed form first source old new read written → ¬ (PassFails form first source old after error)

-- a run of passes, each over what the one before left, and all that they wrote
pub data Passes (form : Form) : List ℕ → List ℕ → List ℕ → Type 0 where
  no_pass : (source : List ℕ) → Passes form source source []
  then_pass : (first : Bool) (source old new rest bytes : List ℕ) (read written : ℕ) → Passed form first source old new read written → Passes form (drop read source) rest bytes → Passes form source rest (take written new ++ bytes)

-- what was read and written is the same text
pub record WroteFront (form : Form) (source rest bytes : List ℕ) : Type 0 where
  pub scalars : List ℕ
  pub can : IsTrue (can_spell form scalars)
  pub reads : source ≡ units form scalars ++ rest
  pub writes : bytes ≡ encode_utf8_all scalars

-- Any run of passes writes the spelling of what it reads, so of the whole text where nothing is left.
abbrev pub PassesWrite : Type 0
PassesWrite = (form : Form) (source rest bytes : List ℕ) → Passes form source rest bytes → WroteFront form source rest bytes

-- With four free bytes a pass that isn't a first pass reads something, unless nothing is left.
abbrev pub PassReads : Type 0
PassReads = (form : Form) (source old new : List ℕ) (read written : ℕ) → Passed form false source old new read written → 4 ≤ length old → ¬ (source ≡ []) → 0 < read

-- a whole source as UTF-16 bytes over the front
pub record WroteWide (form : Form) (source old new : List ℕ) (answer : ℕ) : Type 0 where
  pub scalars : List ℕ
  pub can : IsTrue (can_spell form scalars)
  pub reads : source ≡ units form scalars
  pub count : answer ≡ length (units in_utf16 scalars)
  pub writes : new ≡ over old (spelling in_utf16 scalars)

-- Latin-1 as far as it goes, inflation in place, and UTF-16 over the rest write the whole text.
abbrev pub NarrowThenWide : Type 0
NarrowThenWide = (form : Form) (source old new grown after : List ℕ) (read written answer : ℕ) → Narrows form source old new read written → take written grown ≡ take written new
    → Widens form (drop read source) grown after written answer → WroteWide form source grown after answer

-- A compact text's length names its form and its bytes, and is tagged only where it must be.
pub record CompactLengths : Type 0 where
  pub form_is : (cs : List ℕ) → length (units in_utf16 cs) < 2 ^ 31 → text_form compact (compact_length cs) ≡ compact_form cs
  pub bytes_are : (cs : List ℕ) → length (units in_utf16 cs) < 2 ^ 31 → text_bytes compact (compact_length cs) ≡ length (spelling (compact_form cs) cs)
  pub least : (cs : List ℕ) → length (units in_utf16 cs) < 2 ^ 31 → IsLeastTag compact (compact_length cs) cs

-- units that spell these scalar values
pub record Reads (form : Form) (source scalars : List ℕ) : Type 0 where
  pub can : IsTrue (can_spell form scalars)
  pub is : source ≡ units form scalars

-- Bytes spell a text in UTF-16 exactly where the units in them are those of the text.
abbrev pub UnitsOfBytes : Type 0
UnitsOfBytes = (bytes cs : List ℕ) → All (λ b. b < 256) bytes → length bytes % 2 ≡ 0 → Spells in_utf16 bytes cs ↔ Reads in_utf16 (units_in bytes) cs

-- A conversion that reads its whole source keeps the scalar values. `widens` is what a conversion that goes on behind
-- Latin-1 does alone, whatever stands before; `widens_whole` counts what stands before.
pub record ScalarsKept : Type 0 where
  pub converts : (from to : Form) (source old new cs ds : List ℕ) (n : ℕ) → Converts from to source old new n → Reads from source cs → Reads to (take n new) ds → cs ≡ ds
  pub passed : (form : Form) (first : Bool) (source old new cs ds : List ℕ) (read written : ℕ) → Passed form first source old new read written → length source ≤ read → Reads form source cs → Reads in_utf8 (take written new) ds → cs ≡ ds
  pub narrows : (form : Form) (source old new cs ds : List ℕ) (read written : ℕ) → Narrows form source old new read written → length source ≤ read → Reads form source cs → Reads in_latin1 (take written new) ds → cs ≡ ds
  pub wrote_wide : (form : Form) (source old new cs ds : List ℕ) (n : ℕ) → WroteWide form source old new n → Reads form source cs → Spells in_utf16 (take (2 * n) new) ds → cs ≡ ds
  pub widens : (form : Form) (source old new cs ds : List ℕ) (so_far n : ℕ) → Widens form source old new so_far n → so_far ≤ length old → IsTrue (all_latin1 (take so_far old)) → Reads form source cs
      → Spells in_utf16 (take (2 * (n - so_far)) (drop (2 * so_far) new)) ds → cs ≡ ds
  pub widens_whole : (form : Form) (source old new cs ds : List ℕ) (so_far n : ℕ) → Widens form source old new so_far n → so_far ≤ length old → IsTrue (all_latin1 (take so_far old))
      → Reads form source cs → Spells in_utf16 (take (2 * n) new) ds → take so_far old ++ cs ≡ ds
  pub compacts : (source new cs ds : List ℕ) (n : ℕ) → Compacts source new n → length source < 2 ^ 31 → Reads in_utf16 source cs → Spells (text_form compact n) (take (text_bytes compact n) new) ds → cs ≡ ds
  pub decodes : (form : Form) (bytes text cs ds : List ℕ) → Decodes form bytes text → Spells form bytes cs → Spells in_utf8 text ds → cs ≡ ds

-- The definitions fix the answers and what is written.
pub record OneAnswer : Type 0 where
  pub converts : (from to : Form) (source old a b : List ℕ) (m n : ℕ) → Converts from to source old a m → Converts from to source old b n → (m ≡ n) × (a ≡ b)
  pub passed : (form : Form) (first : Bool) (source old a b : List ℕ) (read written read2 written2 : ℕ) → Passed form first source old a read written → Passed form first source old b read2 written2
      → (read ≡ read2) × (written ≡ written2) × (a ≡ b)
  pub refused : (form : Form) (first : Bool) (source old a b : List ℕ) (e f : TextError) → PassFails form first source old a e → PassFails form first source old b f → (error_place e ≡ error_place f) × (a ≡ b)
  pub narrows : (form : Form) (source old a b : List ℕ) (read written read2 written2 : ℕ) → Narrows form source old a read written → Narrows form source old b read2 written2 → (read ≡ read2) × (written ≡ written2) × (a ≡ b)
  pub widens : (form : Form) (source old a b : List ℕ) (so_far m n : ℕ) → Widens form source old a so_far m → Widens form source old b so_far n → (m ≡ n) × (a ≡ b)
  pub compacts : (source a b : List ℕ) (m n : ℕ) → Compacts source a m → Compacts source b n → (m ≡ n) × (a ≡ b)
  pub decodes : (form : Form) (bytes a b : List ℕ) → Decodes form bytes a → Decodes form bytes b → a ≡ b
