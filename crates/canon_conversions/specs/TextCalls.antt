-- The names and conditions of the conversions.
use Rattle.std.specs.Prelude.{ℕ, ◌+◌, ◌/◌, ◌%◌, ◌^◌, ◌==◌, ◌&&◌, List, Bool, true, nat_le, codes}
use Rattle.canon_conversions.specs.declared.conversion.TextCall.{TextCall}
use Rattle.canon_conversions.specs.declared.conversion.TextCall.TheVariants as call

-- the most bytes of a destination
abbrev pub max_room : ℕ
max_room = 2 ^ 20

abbrev pub is_even : ℕ → Bool
is_even n = n % 2 == 0

-- Whether a call's condition holds for so many bytes of a source and of a destination. A source or a destination in
-- UTF-16 has an even number of them, and half as many units.
abbrev pub is_allowed : TextCall → ℕ → ℕ → ℕ → Bool
is_allowed call.Utf8ToUtf8 src room so_far = src == room
is_allowed call.Utf16ToUtf16 src room so_far = is_even src && (src == room)
is_allowed call.Latin1ToLatin1 src room so_far = src == room
is_allowed call.Latin1ToUtf16 src room so_far = is_even room && (src == room / 2)
is_allowed call.Utf8ToUtf16 src room so_far = is_even room && nat_le src (room / 2)
is_allowed call.Utf16ToUtf8 src room so_far = is_even src
is_allowed call.Latin1ToUtf8 src room so_far = true
is_allowed call.Utf16ToCompactProbablyUtf16 src room so_far = is_even src && (src == room)
is_allowed call.Utf8ToLatin1 src room so_far = nat_le src room
is_allowed call.Utf16ToLatin1 src room so_far = is_even src && nat_le (src / 2) room
is_allowed call.Utf8ToCompactUtf16 src room so_far = is_even room && nat_le (so_far + src) (room / 2)
is_allowed call.Utf16ToCompactUtf16 src room so_far = is_even src && (is_even room && nat_le (so_far + src / 2) (room / 2))

-- the name of a call
abbrev pub name_of : TextCall → List ℕ
name_of call.Utf8ToUtf8 = codes "utf8_to_utf8"
name_of call.Utf16ToUtf16 = codes "utf16_to_utf16"
name_of call.Latin1ToLatin1 = codes "latin1_to_latin1"
name_of call.Latin1ToUtf16 = codes "latin1_to_utf16"
name_of call.Utf8ToUtf16 = codes "utf8_to_utf16"
name_of call.Utf16ToUtf8 = codes "utf16_to_utf8"
name_of call.Latin1ToUtf8 = codes "latin1_to_utf8"
name_of call.Utf16ToCompactProbablyUtf16 = codes "utf16_to_compact_probably_utf16"
name_of call.Utf8ToLatin1 = codes "utf8_to_latin1"
name_of call.Utf16ToLatin1 = codes "utf16_to_latin1"
name_of call.Utf8ToCompactUtf16 = codes "utf8_to_compact_utf16"
name_of call.Utf16ToCompactUtf16 = codes "utf16_to_compact_utf16"
