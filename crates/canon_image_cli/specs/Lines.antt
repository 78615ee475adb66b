-- The line that shows an image, a value or why there is none.
use Rattle.std.specs.Prelude.{ℕ, List, ◌++◌, codes, Option, None, Some, Result, Ok, Err, Vec, ◌≡◌, option_map}
use Rattle.std.specs.Fmt.{decimal}
use Rattle.std.specs.declared.alloc.Global.{Global}
use Rattle.hex.specs.Hex.{encode_lower}
use Rattle.canon_model.specs.Shape.{Shape}
use Rattle.canon_types.specs.Table.{shape_of}
use Rattle.canon_val.specs.declared.val.Val.{Val}
use Rattle.canon_image_parts.specs.Read.{IsRead}
use Rattle.canon_image_parts.specs.Written.{IsImaged}
use Rattle.canon_image_parts.specs.declared.error.ImageError.{ImageError}
use Rattle.canon_image_parts.specs.declared.error.ImageError.TheVariants as error
use Rattle.canon_literals.specs.Literals.{literal_view}
use Rattle.canon_transcript.specs.Text.{fault_text, value_text}
use Rattle.canon_image_cli.specs.Task.{Question, Told, a_value, some_bytes}

-- the name of an error and its place, or the text of a fault; out of memory has none
abbrev pub image_error_text : ImageError → Option (List ℕ)
image_error_text error.Resource = Some (codes "Resource")
image_error_text (error.NotOfType f) = Some (fault_text f)
image_error_text (error.Truncated p) = Some (codes "Truncated " ++ decimal p)
image_error_text (error.Malformed p) = Some (codes "Malformed " ++ decimal p)
image_error_text (error.Trailing p) = Some (codes "Trailing " ++ decimal p)
image_error_text error.OutOfMemory = None

abbrev pub error_line : ImageError → Option (List ℕ)
error_line e = option_map (λ text. codes "error " ++ text ++ codes "\n") (image_error_text e)

-- the line of what `image` answers
abbrev pub written_line : Result (Vec ℕ Global) ImageError → Option (List ℕ)
written_line (Ok bytes) = Some (codes "image " ++ encode_lower bytes.items ++ codes "\n")
written_line (Err e) = error_line e

-- the line of what `read_image` answers
abbrev pub read_line : Result Val ImageError → Option (List ℕ)
read_line (Ok v) = Some (codes "ok " ++ value_text v ++ codes "\n")
read_line (Err e) = error_line e

-- Of a value that is spelled so the line shows its image, or why it has none; of bytes it shows their value, or how they are no image.
abbrev pub IsLineOf : Shape → Told → List ℕ → Type 0
IsLineOf s (a_value x) line = (v : Val) × (answer : Result (Vec ℕ Global) ImageError)
    × (literal_view v ≡ x) × IsImaged s v answer × (written_line answer ≡ Some line)
IsLineOf s (some_bytes bs) line = (answer : Result Val ImageError) × IsRead s bs answer × (read_line answer ≡ Some line)

abbrev pub IsImageLine : Question → List ℕ → Type 0
IsImageLine q line = IsLineOf (shape_of q.table q.type) q.told line
