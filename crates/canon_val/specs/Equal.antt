-- What a value is apart from how its vectors and texts are kept, and when two values are equal.
use Rattle.std.specs.Prelude.{◌≡◌, ◌*◌, ◌%◌, ◌^◌, ◌&&◌, ◌==◌, Bool, Box, Err, List, None, Ok, Option, Some, [], ◌∷◌, codes, cond, false, map, nat_eq, nat_lt, negsuc, pos, string_bytes, true, ℕ, ℤ}
use Rattle.std.specs.Cmp.Lexicographic.{pointwise}
use Rattle.std.specs.Ordering.{int_eq}
use Rattle.std.specs.declared.alloc.Global.{Global}
use Rattle.canon_model.specs.Shape.{Name}
use Rattle.canon_resources.specs.Parts.{same_type}
use Rattle.canon_resources.specs.Held.{Any}
use Rattle.canon_resources.specs.declared.any.ResourceAnyHandle.{ResourceAnyHandle}
use Rattle.canon_resources.specs.declared.any.ResourceAnyHandle.TheVariants as handle
use Rattle.canon_types.specs.declared.resource.ResourceType.{ResourceType}
use Rattle.canon_types.specs.declared.resource.ResourceType.TheVariants.{Guest, Host, HostDynamic}
use Rattle.canon_val.specs.declared.val.Val.{Val, fold-Val}
use Rattle.canon_val.specs.declared.val.Val.TheOpen.{Val-F}

-- which variant of `Val` it is
pub data DataKind : Type 0 where
  bool s8 u8 s16 u16 s32 u32 s64 u64 f32 f64 char string list pairs fields tuple variant enum option result flags resource fixed : DataKind

mutual
  -- a kind, and in order the number, the texts and the values that it holds
  pub data Data : Type 0 where
    value : DataKind → ℤ → List Name → Datas → Data

  pub data Datas : Type 0 where
    no_data : Datas
    data_and : Data → Datas → Datas

abbrev pub row : List Data → Datas
row [] = no_data
row (d ∷ ds) = data_and d (row ds)

-- keys and values by turns
abbrev pub pair_row : List (Data × Data) → Datas
pair_row [] = no_data
pair_row (p ∷ ps) = data_and p.0 (data_and p.1 (pair_row ps))

-- a resource: its handle and its type, as numbers that determine it
abbrev pub handle_key : ResourceAnyHandle → List ℕ
handle_key (handle.Own x) = 0 ∷ x.index ∷ x.generation ∷ []
handle_key (handle.Borrow x) = 1 ∷ x.index ∷ x.generation ∷ []
handle_key (handle.Synthetic rep) = 2 ∷ rep ∷ []

abbrev pub type_key : ResourceType → List ℕ
type_key (Host id) = 0 ∷ id ∷ []
type_key (HostDynamic payload) = 1 ∷ payload ∷ []
type_key (Guest store instance id) = 2 ∷ store ∷ instance ∷ id ∷ []

-- one level of a value, by the number that stands for the bits of a float
abbrev pub data_step : (DataKind → ℕ → ℤ) → Val-F Data → Data
data_step key (Val-F.Bool b) = value bool (pos (cond b 1 0)) [] no_data
data_step key (Val-F.S8 z) = value s8 z [] no_data
data_step key (Val-F.U8 n) = value u8 (pos n) [] no_data
data_step key (Val-F.S16 z) = value s16 z [] no_data
data_step key (Val-F.U16 n) = value u16 (pos n) [] no_data
data_step key (Val-F.S32 z) = value s32 z [] no_data
data_step key (Val-F.U32 n) = value u32 (pos n) [] no_data
data_step key (Val-F.S64 z) = value s64 z [] no_data
data_step key (Val-F.U64 n) = value u64 (pos n) [] no_data
data_step key (Val-F.Float32 n) = value f32 (key f32 n) [] no_data
data_step key (Val-F.Float64 n) = value f64 (key f64 n) [] no_data
data_step key (Val-F.Char n) = value char (pos n) [] no_data
data_step key (Val-F.String s) = value string (pos 0) (string_bytes s ∷ []) no_data
data_step key (Val-F.List xs) = value list (pos 0) [] (row xs.items)
data_step key (Val-F.Map ps) = value pairs (pos 0) [] (pair_row ps.items)
data_step key (Val-F.Record fs) = value fields (pos 0) (map (λ f. string_bytes f.0) fs.items) (row (map (λ f. f.1) fs.items))
data_step key (Val-F.Tuple xs) = value tuple (pos 0) [] (row xs.items)
data_step key (Val-F.Variant name None) = value variant (pos 0) (string_bytes name ∷ []) no_data
data_step key (Val-F.Variant name (Some b)) = value variant (pos 0) (string_bytes name ∷ []) (data_and b.value no_data)
data_step key (Val-F.Enum name) = value enum (pos 0) (string_bytes name ∷ []) no_data
data_step key (Val-F.Option None) = value option (pos 0) [] no_data
data_step key (Val-F.Option (Some b)) = value option (pos 0) [] (data_and b.value no_data)
data_step key (Val-F.Result (Ok None)) = value result (pos 0) [] no_data
data_step key (Val-F.Result (Ok (Some b))) = value result (pos 0) [] (data_and b.value no_data)
data_step key (Val-F.Result (Err None)) = value result (pos 1) [] no_data
data_step key (Val-F.Result (Err (Some b))) = value result (pos 1) [] (data_and b.value no_data)
data_step key (Val-F.Flags names) = value flags (pos 0) (map (λ s. string_bytes s) names.items) no_data
data_step key (Val-F.Resource x) = value resource (pos 0) (handle_key x.handle ∷ type_key x.ty ∷ []) no_data
data_step key (Val-F.FixedLengthList xs) = value fixed (pos 0) [] (row xs.items)

-- ---- the same value, and equal ones

-- the value with the bits of its floats
abbrev pub data_of : Val → Data
data_of = fold-Val Data (data_step (λ k n. pos n))

-- not a number: the bits below the sign are above those of an infinity
abbrev pub is_nan : DataKind → ℕ → Bool
is_nan f32 n = nat_lt (255 * 2 ^ 23) (n % 2 ^ 31)
is_nan f64 n = nat_lt (2047 * 2 ^ 52) (n % 2 ^ 63)
is_nan _ n = false

-- all that are not a number are equal: -1 stands for each
abbrev pub float_key : DataKind → ℕ → ℤ
float_key k n = cond (is_nan k n) (negsuc 0) (pos n)

-- the value as `==` sees it
abbrev pub compared : Val → Data
compared = fold-Val Data (data_step float_key)

abbrev pub number_key : DataKind → ℤ → ℤ
number_key k (pos n) = float_key k n
number_key k (negsuc n) = negsuc n

abbrev mutual
  -- data with their floats so
  pub keyed : Data → Data
  keyed (value k x ns ds) = value k (number_key k x) ns (all_keyed ds)

  pub all_keyed : Datas → Datas
  all_keyed no_data = no_data
  all_keyed (data_and d ds) = data_and (keyed d) (all_keyed ds)

-- of the same kind, with equal floats and else the same parts in the same order
abbrev pub IsEqual : Val → Val → Type 0
IsEqual v w = compared v ≡ compared w

-- ---- the test

abbrev pub kind_number : DataKind → ℕ
kind_number bool = 0
kind_number s8 = 1
kind_number u8 = 2
kind_number s16 = 3
kind_number u16 = 4
kind_number s32 = 5
kind_number u32 = 6
kind_number s64 = 7
kind_number u64 = 8
kind_number f32 = 9
kind_number f64 = 10
kind_number char = 11
kind_number string = 12
kind_number list = 13
kind_number pairs = 14
kind_number fields = 15
kind_number tuple = 16
kind_number variant = 17
kind_number enum = 18
kind_number option = 19
kind_number result = 20
kind_number flags = 21
kind_number resource = 22
kind_number fixed = 23

abbrev mutual
  pub same : Data → Data → Bool
  same (value k x ns ds) (value l y ms es) = (kind_number k == kind_number l) && (int_eq x y && (pointwise (pointwise nat_eq) ns ms && all_same ds es))

  pub all_same : Datas → Datas → Bool
  all_same no_data no_data = true
  all_same no_data (data_and e es) = false
  all_same (data_and d ds) no_data = false
  all_same (data_and d ds) (data_and e es) = same d e && all_same ds es

abbrev pub is_equal : Val → Val → Bool
is_equal v w = same (compared v) (compared w)

-- resources: of the same kind of handle, with the same numbers, and of the same type
abbrev pub same_handle : ResourceAnyHandle → ResourceAnyHandle → Bool
same_handle (handle.Own x) (handle.Own y) = (x.index == y.index) && (x.generation == y.generation)
same_handle (handle.Borrow x) (handle.Borrow y) = (x.index == y.index) && (x.generation == y.generation)
same_handle (handle.Synthetic n) (handle.Synthetic m) = n == m
same_handle _ _ = false

abbrev pub same_resource : Any → Any → Bool
same_resource x y = same_handle x.handle y.handle && same_type x.ty y.ty

-- ---- names

abbrev pub kind_of : Data → DataKind
kind_of (value k x ns ds) = k

-- what `desc` answers
abbrev pub kind_text : DataKind → List ℕ
kind_text bool = codes "bool"
kind_text s8 = codes "s8"
kind_text u8 = codes "u8"
kind_text s16 = codes "s16"
kind_text u16 = codes "u16"
kind_text s32 = codes "s32"
kind_text u32 = codes "u32"
kind_text s64 = codes "s64"
kind_text u64 = codes "u64"
kind_text f32 = codes "f32"
kind_text f64 = codes "f64"
kind_text char = codes "char"
kind_text string = codes "string"
kind_text list = codes "list"
kind_text pairs = codes "map"
kind_text fields = codes "record"
kind_text tuple = codes "tuple"
kind_text variant = codes "variant"
kind_text enum = codes "enum"
kind_text option = codes "option"
kind_text result = codes "result"
kind_text flags = codes "flags"
kind_text resource = codes "resource"
kind_text fixed = codes "list<_, N>"

-- ---- parts of values

-- keys and values as `==` sees them, and a payload
abbrev pub compared_pairs : List (Val × Val) → Datas
compared_pairs [] = no_data
compared_pairs (p ∷ ps) = data_and (compared p.0) (data_and (compared p.1) (compared_pairs ps))

abbrev pub compared_payload : Option (Box Val Global) → Datas
compared_payload None = no_data
compared_payload (Some b) = data_and (compared b.value) no_data

abbrev pub pair_data : Val × Val → Data × Data
pair_data p = (data_of p.0, data_of p.1)

abbrev pub payload_data : Option (Box Val Global) → Datas
payload_data None = no_data
payload_data (Some b) = data_and (data_of b.value) no_data
