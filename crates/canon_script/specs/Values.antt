-- The value that a JSON value stands for: an object whose one member names its kind.
use Rattle.std.specs.Prelude.{ℕ, ◌^◌, List, [], ◌∷◌, codes, length, nat_eq, if◌then◌else◌, Option, None, Some, option_map, option_and_then}
use Rattle.std.specs.List.{find}
use Rattle.std.specs.Str.{chars}
use lib.Pointwise.{pointwise}
use Rattle.serde_json.specs.Data.{Data, null, boolean, number, string, array, object, Items, no_items, item, Members, no_members, member}
use Rattle.serde_json.specs.Find.{as_array, as_bool, as_object, as_str}
use Rattle.canon_json.specs.Json.{each, only_member, u32_of, word_of}
use Rattle.canon_model.specs.Shape.{Name}
use Rattle.canon_literals.specs.Literals.{Literal, Payload, bool, char, enum, error, f32, f64, fields, fields_of, fixed, flags, held, held_in, list, literals_of, no_payload, numbered_resource, ok, option, pairs, literal_pairs, s16, s32, s64, s8, text, tuple, u16, u32, u64, u8, variant, with_payload}
use Rattle.canon_script.specs.Numbers.{integer_of, integer_within, number_below}
use Rattle.canon_script.specs.declared.kinds.ValueKind.{ValueKind}
use Rattle.canon_script.specs.declared.kinds.ValueKind.TheVariants as kind

-- the member of a value of this kind
abbrev pub value_word : ValueKind → List ℕ
value_word kind.Bool = codes "bool"
value_word kind.S8 = codes "s8"
value_word kind.U8 = codes "u8"
value_word kind.S16 = codes "s16"
value_word kind.U16 = codes "u16"
value_word kind.S32 = codes "s32"
value_word kind.U32 = codes "u32"
value_word kind.S64 = codes "s64"
value_word kind.U64 = codes "u64"
value_word kind.Float32 = codes "f32"
value_word kind.Float64 = codes "f64"
value_word kind.Char = codes "char"
value_word kind.String = codes "string"
value_word kind.List = codes "list"
value_word kind.Map = codes "map"
value_word kind.Record = codes "record"
value_word kind.Tuple = codes "tuple"
value_word kind.Variant = codes "variant"
value_word kind.Enum = codes "enum"
value_word kind.Option = codes "option"
value_word kind.Result = codes "result"
value_word kind.Flags = codes "flags"
value_word kind.Resource = codes "resource"
value_word kind.FixedLengthList = codes "fixed"

abbrev pub value_kinds : List ValueKind
value_kinds = kind.Bool ∷ kind.S8 ∷ kind.U8 ∷ kind.S16 ∷ kind.U16 ∷ kind.S32 ∷ kind.U32 ∷ kind.S64 ∷ kind.U64 ∷ kind.Float32 ∷ kind.Float64 ∷ kind.Char
    ∷ kind.String ∷ kind.List ∷ kind.Map ∷ kind.Record ∷ kind.Tuple ∷ kind.Variant ∷ kind.Enum ∷ kind.Option ∷ kind.Result ∷ kind.Flags ∷ kind.Resource ∷ kind.FixedLengthList ∷ []

abbrev pub value_kind_named : List ℕ → Option ValueKind
value_kind_named name = find (λ k. pointwise nat_eq name (value_word k)) value_kinds

-- the kind that the only member names, and what a value of it is read from
abbrev pub kind_and_form : Data → Option (ValueKind × Data)
kind_and_form d = option_and_then (λ m. option_map (λ k. (k, m.1)) (value_kind_named m.0)) (option_and_then only_member (as_object d))

-- ---- scalars

abbrev pub only_char : List ℕ → Option ℕ
only_char [] = None
only_char (c ∷ []) = Some c
only_char (c ∷ d ∷ cs) = None

-- a text of one character
abbrev pub char_of : Data → Option ℕ
char_of d = option_and_then (λ s. only_char (chars s)) (as_str d)

abbrev pub scalar_by : ValueKind → Data → Option Literal
scalar_by kind.Bool d = option_map bool (as_bool d)
scalar_by kind.S8 d = option_map s8 (integer_within (2 ^ 7) d)
scalar_by kind.U8 d = option_map u8 (number_below (2 ^ 8) d)
scalar_by kind.S16 d = option_map s16 (integer_within (2 ^ 15) d)
scalar_by kind.U16 d = option_map u16 (number_below (2 ^ 16) d)
scalar_by kind.S32 d = option_map s32 (integer_within (2 ^ 31) d)
scalar_by kind.U32 d = option_map u32 (u32_of d)
scalar_by kind.S64 d = option_map s64 (integer_of d)
scalar_by kind.U64 d = option_map u64 (word_of d)
scalar_by kind.Float32 d = option_map f32 (u32_of d)
scalar_by kind.Float64 d = option_map f64 (word_of d)
scalar_by kind.Char d = option_map char (char_of d)
-- the number of a resource
scalar_by kind.Resource d = option_map (λ n. held (numbered_resource n)) (u32_of d)
scalar_by _ d = None

-- ---- values

-- a result, by the name of its case
abbrev pub result_by : Name → Payload → Option Literal
result_by name p =
    if pointwise nat_eq name (codes "ok") then Some (ok p)
    else (if pointwise nat_eq name (codes "err") then Some (error p) else None)

abbrev pub case_items : Items → Option (Name × Option Data)
case_items no_items = None
case_items (item name no_items) = option_map (λ n. (n, None)) (as_str name)
case_items (item name (item d no_items)) = option_map (λ n. (n, Some d)) (as_str name)
case_items (item name (item d (item e ds))) = None

-- the name of a case and what its payload is read from: an array of the name alone, or with a value
abbrev pub case_parts : Data → Option (Name × Option Data)
case_parts d = option_and_then case_items (as_array d)

abbrev mutual
  -- an object of one member
  pub value_of : Data → Option Literal
  value_of null = None
  value_of (boolean b) = None
  value_of (number n) = None
  value_of (string s) = None
  value_of (array ds) = None
  value_of (object ms) = value_in ms

  pub value_in : Members → Option Literal
  value_in no_members = None
  value_in (member name d no_members) = option_and_then (value_by d) (value_kind_named name)
  value_in (member name d (member other e ms)) = None

  -- by its kind
  pub value_by : Data → ValueKind → Option Literal
  value_by (string s) kind.String = Some (text s)
  value_by (array ds) kind.List = option_map (λ xs. list (literals_of xs)) (values_of ds)
  value_by (array ds) kind.Map = option_map (λ ps. pairs (literal_pairs ps)) (pairs_in ds)
  value_by (array ds) kind.Record = option_map (λ fs. fields (fields_of fs)) (named_literals ds)
  value_by (array ds) kind.Tuple = option_map (λ xs. tuple (literals_of xs)) (values_of ds)
  value_by (array ds) kind.Variant = option_map (λ c. variant c.0 c.1) (case_in ds)
  value_by (string s) kind.Enum = Some (enum s)
  value_by null kind.Option = Some (option no_payload)
  value_by (object ms) kind.Option = option_map (λ x. option (with_payload x)) (value_in ms)
  value_by (array ds) kind.Result = option_and_then (λ c. result_by c.0 c.1) (case_in ds)
  value_by (array ds) kind.Flags = option_map flags (each as_str ds)
  value_by (array ds) kind.FixedLengthList = option_map (λ xs. fixed (literals_of xs)) (values_of ds)
  value_by d k = scalar_by k d

  pub values_of : Items → Option (List Literal)
  values_of no_items = Some []
  values_of (item d ds) = option_and_then (λ x. option_map (λ xs. x ∷ xs) (values_of ds)) (value_of d)

  pub named_literals : Items → Option (List (Name × Literal))
  named_literals no_items = Some []
  named_literals (item d ds) = option_and_then (λ f. option_map (λ fs. f ∷ fs) (named_literals ds)) (field_of d)

  -- an array of a name and a value
  pub field_of : Data → Option (Name × Literal)
  field_of null = None
  field_of (boolean b) = None
  field_of (number n) = None
  field_of (string s) = None
  field_of (array ds) = named_value ds
  field_of (object ms) = None

  pub named_value : Items → Option (Name × Literal)
  named_value no_items = None
  named_value (item name rest) = option_and_then (λ n. option_map (λ x. (n, x)) (only_value rest)) (as_str name)

  pub only_value : Items → Option Literal
  only_value no_items = None
  only_value (item d no_items) = value_of d
  only_value (item d (item e ds)) = None

  pub pairs_in : Items → Option (List (Literal × Literal))
  pairs_in no_items = Some []
  pairs_in (item d ds) = option_and_then (λ p. option_map (λ ps. p ∷ ps) (pairs_in ds)) (pair_of d)

  -- an array of a key and a value
  pub pair_of : Data → Option (Literal × Literal)
  pair_of null = None
  pair_of (boolean b) = None
  pair_of (number n) = None
  pair_of (string s) = None
  pair_of (array ds) = two_values ds
  pair_of (object ms) = None

  pub two_values : Items → Option (Literal × Literal)
  two_values no_items = None
  two_values (item k no_items) = None
  two_values (item k (item v no_items)) = option_and_then (λ x. option_map (λ y. (x, y)) (value_of v)) (value_of k)
  two_values (item k (item v (item e ds))) = None

  -- a case: its name alone, or with its payload
  pub case_in : Items → Option (Name × Payload)
  case_in no_items = None
  case_in (item name no_items) = option_map (λ n. (n, no_payload)) (as_str name)
  case_in (item name (item d no_items)) = option_and_then (λ n. option_map (λ x. (n, with_payload x)) (value_of d)) (as_str name)
  case_in (item name (item d (item e ds))) = None

-- a payload, if there is one
abbrev pub payload_by : Option Data → Option Payload
payload_by None = Some no_payload
payload_by (Some d) = option_map with_payload (value_of d)

-- null, or a payload
abbrev pub optional_of : Data → Option Payload
optional_of null = Some no_payload
optional_of d = option_map with_payload (value_of d)

-- ---- values without resources

abbrev pub if_plain : Literal → Option Literal
if_plain x = if nat_eq (length (held_in x)) 0 then Some x else None

-- a value in which no resource stands
abbrev pub plain_value_of : Data → Option Literal
plain_value_of d = option_and_then if_plain (value_of d)
