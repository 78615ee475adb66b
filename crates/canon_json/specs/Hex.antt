-- Bytes as JSON writes them: a text of hex in small letters.
use Rattle.std.specs.Prelude.{ℕ, List, nat_eq, if◌then◌else◌, Option, None, Some, Result, Ok, Err, option_and_then}
use lib.Pointwise.{pointwise}
use Rattle.hex.specs.Hex.{decode_of, encode_lower}
use Rattle.hex.specs.declared.error.FromHexError.{FromHexError}
use Rattle.serde_json.specs.Data.{Data}
use Rattle.serde_json.specs.Find.{as_str}

-- the bytes that were decoded, where their hex is the text
abbrev pub spelled_so : List ℕ → Result (List ℕ) FromHexError → Option (List ℕ)
spelled_so text (Ok bytes) = if pointwise nat_eq text (encode_lower bytes) then Some bytes else None
spelled_so text (Err e) = None

-- the bytes whose hex, in small letters, this is
abbrev pub hex_bytes : List ℕ → Option (List ℕ)
hex_bytes text = spelled_so text (decode_of text)

abbrev pub bytes_of : Data → Option (List ℕ)
bytes_of d = option_and_then hex_bytes (as_str d)
