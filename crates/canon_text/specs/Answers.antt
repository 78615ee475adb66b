-- What the conversions answer and write, over the scalar values that they read.
use Rattle.std.specs.Prelude.{Bool, IsTrue, List, [], flat_map, if◌then◌else◌, length, take, ℕ, ◌++◌, ◌+◌, ◌^◌, ◌≡◌}
use Rattle.std.specs.Str.{encode_utf8_all}
use Rattle.canon_model.specs.Pass.{IsPass}
use Rattle.canon_model.specs.Text.{Form, all_latin1, can_spell, in_latin1, in_utf16, spelling, unit_bytes, units}
use Rattle.canon_text.specs.declared.error.TextError.{TextError}
use Rattle.canon_text.specs.Faults.{BeginsNoLatin1, IllFormed, error_form, error_place}
use Rattle.canon_text.specs.Writing.{over}

-- A whole source, from one form into another; so many units are written, and the rest stays.
pub record Converts (from to : Form) (source old new : List ℕ) (written : ℕ) : Type 0 where
  pub scalars : List ℕ
  pub can : IsTrue (can_spell from scalars)
  pub reads : source ≡ units from scalars
  pub count : written ≡ length (units to scalars)
  pub writes : new ≡ over old (units to scalars)

-- A pass into UTF-8 read and wrote so many units, and the rest stays.
pub record Passed (form : Form) (first : Bool) (source old new : List ℕ) (read written : ℕ) : Type 0 where
  pub scalars : List ℕ
  pub rest : List ℕ
  pub pass : IsPass form first source (length old) scalars rest
  pub reads : read ≡ length (units form scalars)
  pub count : written ≡ length (encode_utf8_all scalars)
  pub writes : new ≡ over old (encode_utf8_all scalars)

-- A pass came to the first fault of its source: it could read and has written all before.
pub record PassFails (form : Form) (first : Bool) (source old new : List ℕ) (error : TextError) : Type 0 where
  pub scalars : List ℕ
  pub rest : List ℕ
  pub front : IsPass form first (units form scalars) (length old) scalars []
  pub is : source ≡ units form scalars ++ rest
  pub fault : IllFormed form rest
  pub form_is : error_form error ≡ form
  pub place : error_place error ≡ length (units form scalars)
  pub writes : new ≡ over old (encode_utf8_all scalars)

-- A front of characters up to U+00FF is read, as far as there are such, and each is written as one byte.
pub record Narrows (form : Form) (source old new : List ℕ) (read written : ℕ) : Type 0 where
  pub scalars : List ℕ
  pub rest : List ℕ
  pub can : IsTrue (can_spell form scalars)
  pub latin1 : IsTrue (all_latin1 scalars)
  pub is : source ≡ units form scalars ++ rest
  pub stops : BeginsNoLatin1 form rest
  pub reads : read ≡ length (units form scalars)
  pub count : written ≡ length scalars
  pub writes : new ≡ over old scalars

-- The Latin-1 text at the front of a destination, as units.
abbrev pub inflated : List ℕ → ℕ → List ℕ
inflated old so_far = spelling in_utf16 (take so_far old)

-- A text begun in Latin-1 becomes UTF-16: the first part in place, then the source.
pub record Widens (form : Form) (source old new : List ℕ) (so_far answer : ℕ) : Type 0 where
  pub scalars : List ℕ
  pub can : IsTrue (can_spell form scalars)
  pub reads : source ≡ units form scalars
  pub count : answer ≡ so_far + length (units in_utf16 scalars)
  pub writes : new ≡ over old (inflated old so_far ++ spelling in_utf16 scalars)

-- the units before the place of an error, as bytes
abbrev pub bytes_before : List ℕ → TextError → List ℕ
bytes_before source error = flat_map unit_bytes (take (error_place error) source)

-- The compact form of a text, and the length that says which it is.
abbrev pub compact_form : List ℕ → Form
compact_form cs = if all_latin1 cs then in_latin1 else in_utf16

abbrev pub compact_length : List ℕ → ℕ
compact_length cs = if all_latin1 cs then length cs else length (units in_utf16 cs) + 2 ^ 31

-- UTF-16 becomes the compact form: written over the text's UTF-16, which stays behind a Latin-1 text.
pub record Compacts (source new : List ℕ) (answer : ℕ) : Type 0 where
  pub scalars : List ℕ
  pub can : IsTrue (can_spell in_utf16 scalars)
  pub reads : source ≡ units in_utf16 scalars
  pub count : answer ≡ compact_length scalars
  pub writes : new ≡ over (spelling in_utf16 scalars) (spelling (compact_form scalars) scalars)
