-- The conversions that a JSON value asks for.
use Rattle.std.specs.Prelude.{ℕ, ◌+◌, ◌-◌, ◌&&◌, ◌++◌, List, [], ◌∷◌, length, Bool, false, nat_le, nat_eq, if◌then◌else◌, codes, Option, None, Some, option_and_then, replicate}
use Rattle.std.specs.Option.{option_map_or}
use lib.Pointwise.{pointwise}
use Rattle.serde_json.specs.Data.{Data}
use Rattle.serde_json.specs.Find.{get, as_bool, as_str, as_object}
use Rattle.canon_json.specs.Hex.{bytes_of}
use Rattle.canon_json.specs.Json.{each_of, has_len, there, word_of}
use Rattle.canon_conversions.specs.TextCalls.{is_allowed, max_room, name_of}
use Rattle.canon_conversions.specs.declared.conversion.TextCall.{TextCall}
use Rattle.canon_conversions.specs.declared.conversion.TextCall.TheVariants as call
use Rattle.canon_conversions.specs.declared.conversion.Conversion.{Conversion}

-- a conversion: its source and the front of its destination as bytes, and the destination's bytes
pub record Job : Type 0 where
  pub call : TextCall
  pub src : List ℕ
  pub room : ℕ
  pub dst : List ℕ
  pub first : Bool
  pub so_far : ℕ

abbrev pub job_of : Conversion → Job
job_of c = record { call = c.call; src = c.src.items; room = c.room; dst = c.dst.items; first = c.first; so_far = c.so_far }

-- the destination before the call: the rest is zero
abbrev pub destination : Job → List ℕ
destination j = j.dst ++ replicate (j.room - length j.dst) 0

abbrev pub calls : List TextCall
calls = call.Utf8ToUtf8 ∷ call.Utf16ToUtf16 ∷ call.Latin1ToLatin1 ∷ call.Latin1ToUtf16 ∷ call.Utf8ToUtf16 ∷ call.Utf16ToUtf8 ∷ call.Latin1ToUtf8
    ∷ call.Utf16ToCompactProbablyUtf16 ∷ call.Utf8ToLatin1 ∷ call.Utf16ToLatin1 ∷ call.Utf8ToCompactUtf16 ∷ call.Utf16ToCompactUtf16 ∷ []

-- the call among these that has the name
abbrev pub call_among : List TextCall → List ℕ → Option TextCall
call_among [] name = None
call_among (c ∷ cs) name = if pointwise nat_eq name (name_of c) then Some c else call_among cs name

abbrev pub text_call_of : Data → Option TextCall
text_call_of d = option_and_then (call_among calls) (as_str d)

-- how many members of these names there are
abbrev pub optional_conversion_members : Data → ℕ
optional_conversion_members d = there (get (codes "dst") d) + (there (get (codes "first") d) + there (get (codes "so_far") d))

-- a conversion whose destination holds its front, and whose call's condition holds
abbrev pub if_allowed : Job → Option Job
if_allowed j = if nat_le j.room max_room && (nat_le (length j.dst) j.room && is_allowed j.call (length j.src) j.room j.so_far) then Some j else None

abbrev pub job_with : TextCall → ℕ → Bool → ℕ → List ℕ → List ℕ → Job
job_with c room first so_far src dst = record { call = c; src = src; room = room; dst = dst; first = first; so_far = so_far }

-- with a call and its numbers, the source and the destination's front
abbrev pub with_bytes : Data → TextCall → ℕ → Bool → ℕ → Option Job
with_bytes d c room first so_far =
    option_and_then (λ src. option_and_then (λ dst. if_allowed (job_with c room first so_far src dst)) (option_map_or bytes_of (get (codes "dst") d) (Some [])))
    (option_and_then bytes_of (get (codes "src") d))

abbrev pub conversion_of : Data → Option Job
conversion_of d =
    if has_len (3 + optional_conversion_members d) (as_object d)
    then option_and_then (λ c. option_and_then (λ room. option_and_then (λ first. option_and_then (with_bytes d c room first)
    (option_map_or word_of (get (codes "so_far") d) (Some 0)))
    (option_map_or as_bool (get (codes "first") d) (Some false)))
    (option_and_then word_of (get (codes "room") d)))
    (option_and_then text_call_of (get (codes "fn") d))
    else None

abbrev pub conversions_of : Data → Option (List Job)
conversions_of d = if has_len 1 (as_object d) then option_and_then (each_of conversion_of) (get (codes "text") d) else None
