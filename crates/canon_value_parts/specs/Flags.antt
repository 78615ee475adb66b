-- Flags as bits: in bytes of memory, or in the low halves of words, the first name's the lowest.
use Rattle.std.specs.Prelude.{◌≡◌, ◌≤◌, ◌<◌, ◌+◌, ◌%◌, ◌^◌, ◌⊎◌, All, Any, List, [], length, slice_index, ℕ}
use Rattle.std.specs.Int.{bit_at}
use Rattle.canon_lowering.specs.Storing.{narrow}
use Rattle.canon_model.specs.Cost.{set_length}
use Rattle.canon_model.specs.Flat.{AreBelow, low_number}
use Rattle.canon_model.specs.Layout.{flag_words, flags_size}
use Rattle.canon_model.specs.Memory.{low, num}
use Rattle.canon_model.specs.Rep.{bits_of}
use Rattle.canon_model.specs.Shape.{Name, Shape, flags}
use Rattle.canon_model.specs.Tree.{bits}
use Rattle.canon_types.specs.Table.{TypeTable, shape_of}
use Rattle.canon_types.specs.declared.types.InterfaceType.{InterfaceType}
use Rattle.canon_types.specs.declared.types.InterfaceType.TheVariants as ty
use Rattle.canon_val.specs.Value.{AreMarked, IsLiftedFrom, Occurs}
use Rattle.canon_value_parts.specs.declared.flags.Marks.{Marks}
use Rattle.canon_value_parts.specs.declared.flags.Marks.TheVariants as marks
use Rattle.canon_context.specs.declared.fault.Fault.{Fault}
use Rattle.canon_context.specs.declared.fault.Fault.TheVariants as fault
use Rattle.canon_val.specs.declared.val.Val.{Val}

-- ---- names

abbrev pub names_in_flags : Shape → List Name
names_in_flags (flags names) = names
names_in_flags _ = []

-- of the flags type of a number
abbrev pub flag_names : TypeTable → ℕ → List Name
flag_names t i = names_in_flags (shape_of t (ty.Flags i))

abbrev pub IsFlagsType : InterfaceType → Type 0
IsFlagsType type = (i : ℕ) × (type ≡ ty.Flags i)

-- ---- setting bits

-- Bit r of the number at place p was set. Of that number w bits are left; the others stay.
pub record SetsBit (w p r : ℕ) (xs ys : List ℕ) : Type 0 where
  pub same_length : length ys ≡ length xs
  pub kept : (i : ℕ) → (i ≡ p → ⊥) → slice_index ys i ≡ slice_index xs i
  pub below : slice_index ys p < 2 ^ w
  pub here : bit_at (slice_index ys p) r ≡ 1
  pub others : (j : ℕ) → (j ≡ r → ⊥) → bit_at (slice_index ys p) j ≡ bit_at (slice_index xs p % 2 ^ w) j

-- the number has the bits of the names that are set, and no others; each of these is a name of the type
abbrev pub AreSet : List Name → List Name → ℕ → Type 0
AreSet names set n = (n < 2 ^ length names) × AreMarked set names (bits_of (length names) n) × All (λ x. Occurs x names) set

-- the words from word i on, whose upper halves are zero, have them
abbrev pub AreSetInWords : List Name → List Name → List ℕ → ℕ → Type 0
AreSetInWords names set ws i = AreBelow (2 ^ 32) ws i (i + flag_words (length names)) × AreSet names set (low_number ws i (flag_words (length names)))

abbrev pub SomeUnknown : List Name → List Name → Type 0
SomeUnknown names set = Any (λ x. ¬ Occurs x names) set

-- ---- reading bits

-- how many bits of a number are flags, and the number of place q
abbrev pub width_of : Marks → ℕ
width_of (marks.Bytes memory at) = 8
width_of (marks.Words words from) = 32

abbrev pub digit_of : Marks → ℕ → ℕ
digit_of (marks.Bytes memory at) q = slice_index memory.now (at + q)
digit_of (marks.Words words from) q = low (slice_index words.now (from + q))

-- place q is inside, and all those of n flags are
abbrev pub HasPlace : Marks → ℕ → Type 0
HasPlace (marks.Bytes memory at) q = at + q < length memory.now
HasPlace (marks.Words words from) q = from + q < length words.now

abbrev pub MarksHaveRoom : Marks → ℕ → Type 0
MarksHaveRoom (marks.Bytes memory at) n = at + flags_size n ≤ length memory.now
MarksHaveRoom (marks.Words words from) n = from + flag_words n ≤ length words.now

-- the number of n flags
abbrev pub marked_number : Marks → ℕ → ℕ
marked_number (marks.Bytes memory at) n = num (narrow memory.now) at (flags_size n)
marked_number (marks.Words words from) n = low_number words.now from (flag_words n)

-- the flags whose bits these are, and the bytes of their names were taken from the fuel
abbrev pub AreFlags : Shape → ℕ → ℕ → ℕ → Val → Type 0
AreFlags s n before after v = IsLiftedFrom s v (bits (bits_of (length (names_in_flags s)) n)) × (before ≡ after + set_length (names_in_flags s) (bits_of (length (names_in_flags s)) n))

-- memory was short, or the fuel
abbrev pub AreUnpaid : Shape → ℕ → ℕ → Fault → Type 0
AreUnpaid s n before e = (e ≡ fault.OutOfMemory) ⊎ ((e ≡ fault.HostcallFuelExhausted) × (before < set_length (names_in_flags s) (bits_of (length (names_in_flags s)) n)))
