-- A value apart from how it is kept: a vector and a text are the list of their items.
use Rattle.std.specs.Prelude.{ℕ, ℤ, Bool, Box, List, [], ◌∷◌, ◌++◌, ◌&&◌, true, map, Option, None, Some, Result, Ok, Err, String, nat_lt, slice_get, string_bytes, unwrap_or}
use Rattle.std.specs.declared.alloc.Global.{Global}
use Rattle.canon_model.specs.Shape.{Name}
use Rattle.canon_resources.specs.Held.{Any, any, synthetic_rep}
use Rattle.canon_resources.specs.declared.any.ResourceAnyHandle.TheVariants.{Synthetic}
use Rattle.canon_types.specs.declared.resource.ResourceType.TheVariants.{HostDynamic}
use Rattle.canon_val.specs.declared.val.Val.{Val, fold-Val}
use Rattle.canon_val.specs.declared.val.Val.TheOpen.{Val-F}

mutual
  pub data Literal : Type 0 where
    bool : Bool → Literal
    s8 s16 s32 s64 : ℤ → Literal
    u8 u16 u32 u64 : ℕ → Literal
    -- the bits of a float
    f32 f64 : ℕ → Literal
    char : ℕ → Literal
    -- the bytes of a text
    text : Name → Literal
    -- a list, a tuple and a list of fixed length
    list tuple fixed : Literals → Literal
    pairs : Pairs → Literal
    fields : Fields → Literal
    -- a variant, by the name of its case
    variant : Name → Payload → Literal
    enum : Name → Literal
    option : Payload → Literal
    -- the two cases of a result
    ok error : Payload → Literal
    flags : List Name → Literal
    -- a resource; that of a script is a number (`numbered_resource`)
    held : Any → Literal

  pub data Literals : Type 0 where
    no_literals : Literals
    literal : Literal → Literals → Literals

  -- the fields of a record, each with its name
  pub data Fields : Type 0 where
    no_fields : Fields
    field : Name → Literal → Fields → Fields

  -- the keys and values of a map
  pub data Pairs : Type 0 where
    no_pairs : Pairs
    pair : Literal → Literal → Pairs → Pairs

  pub data Payload : Type 0 where
    no_payload : Payload
    with_payload : Literal → Payload

abbrev pub literals_of : List Literal → Literals
literals_of [] = no_literals
literals_of (x ∷ xs) = literal x (literals_of xs)

abbrev pub fields_of : List (Name × Literal) → Fields
fields_of [] = no_fields
fields_of (f ∷ fs) = field f.0 f.1 (fields_of fs)

abbrev pub literal_pairs : List (Literal × Literal) → Pairs
literal_pairs [] = no_pairs
literal_pairs (p ∷ ps) = pair p.0 p.1 (literal_pairs ps)

abbrev pub literal_payload : Option (Box Literal Global) → Payload
literal_payload None = no_payload
literal_payload (Some x) = with_payload x.value

abbrev pub literal_result : Result (Option (Box Literal Global)) (Option (Box Literal Global)) → Literal
literal_result (Ok p) = ok (literal_payload p)
literal_result (Err p) = error (literal_payload p)

abbrev pub named : List (String Global × Literal) → List (Name × Literal)
named fs = map (λ f. (string_bytes f.0, f.1)) fs

-- one level, with each value inside already seen as its literal
abbrev pub literal_step : Val-F Literal → Literal
literal_step (Val-F.Bool b) = bool b
literal_step (Val-F.S8 z) = s8 z
literal_step (Val-F.U8 n) = u8 n
literal_step (Val-F.S16 z) = s16 z
literal_step (Val-F.U16 n) = u16 n
literal_step (Val-F.S32 z) = s32 z
literal_step (Val-F.U32 n) = u32 n
literal_step (Val-F.S64 z) = s64 z
literal_step (Val-F.U64 n) = u64 n
literal_step (Val-F.Float32 n) = f32 n
literal_step (Val-F.Float64 n) = f64 n
literal_step (Val-F.Char c) = char c
literal_step (Val-F.String s) = text (string_bytes s)
literal_step (Val-F.List members) = list (literals_of members.items)
literal_step (Val-F.Map members) = pairs (literal_pairs members.items)
literal_step (Val-F.Record members) = fields (fields_of (named members.items))
literal_step (Val-F.Tuple members) = tuple (literals_of members.items)
literal_step (Val-F.Variant name p) = variant (string_bytes name) (literal_payload p)
literal_step (Val-F.Enum name) = enum (string_bytes name)
literal_step (Val-F.Option p) = option (literal_payload p)
literal_step (Val-F.Result r) = literal_result r
literal_step (Val-F.Flags names) = flags (map (λ name. string_bytes name) names.items)
literal_step (Val-F.Resource x) = held x
literal_step (Val-F.FixedLengthList members) = fixed (literals_of members.items)

abbrev pub literal_view : Val → Literal
literal_view = fold-Val Literal literal_step

abbrev pub literals_view : List Val → List Literal
literals_view vs = map literal_view vs

abbrev pub fields_view : List (String Global × Val) → List (Name × Literal)
fields_view fs = named (map (λ f. (f.0, literal_view f.1)) fs)

abbrev pub pair_view : Val × Val → Literal × Literal
pair_view p = (literal_view p.0, literal_view p.1)

abbrev pub pairs_view : List (Val × Val) → List (Literal × Literal)
pairs_view ps = map pair_view ps

abbrev pub payload_view : Option (Box Val Global) → Payload
payload_view None = no_payload
payload_view (Some v) = with_payload (literal_view v.value)

-- ---- resources

-- The number of a resource in a script. A value keeps it as a borrow that the host made of it, until the resource of that number
-- stands in its place.
abbrev pub numbered_resource : ℕ → Any
numbered_resource n = any (Synthetic n) (HostDynamic 0)

abbrev pub resource_number : Any → ℕ
resource_number x = unwrap_or (synthetic_rep x.handle) 0

-- there are so many resources that this number is one's
abbrev pub is_known : ℕ → Any → Bool
is_known count x = nat_lt (resource_number x) count

abbrev pub all_known : ℕ → List Any → Bool
all_known count [] = true
all_known count (x ∷ xs) = is_known count x && all_known count xs

-- the resource of a number in a list; where there is none, what stood for it
abbrev pub listed_resource : List Any → Any → Any
listed_resource xs x = unwrap_or (slice_get xs (resource_number x)) x

abbrev mutual
  -- the resources in a value, depth first
  pub held_in : Literal → List Any
  held_in (list xs) = all_held xs
  held_in (tuple xs) = all_held xs
  held_in (fixed xs) = all_held xs
  held_in (pairs ps) = pairs_held ps
  held_in (fields fs) = fields_held fs
  held_in (variant name p) = payload_held p
  held_in (option p) = payload_held p
  held_in (ok p) = payload_held p
  held_in (error p) = payload_held p
  held_in (held x) = x ∷ []
  held_in _ = []

  pub all_held : Literals → List Any
  all_held no_literals = []
  all_held (literal x xs) = held_in x ++ all_held xs

  pub fields_held : Fields → List Any
  fields_held no_fields = []
  fields_held (field name x fs) = held_in x ++ fields_held fs

  pub pairs_held : Pairs → List Any
  pairs_held no_pairs = []
  pairs_held (pair k v ps) = (held_in k ++ held_in v) ++ pairs_held ps

  pub payload_held : Payload → List Any
  payload_held no_payload = []
  payload_held (with_payload x) = held_in x

-- in values in a row
abbrev pub held_among : List Literal → List Any
held_among xs = all_held (literals_of xs)

abbrev mutual
  -- the value with another resource in the place of each
  pub replaced : (Any → Any) → Literal → Literal
  replaced f (list xs) = list (all_replaced f xs)
  replaced f (tuple xs) = tuple (all_replaced f xs)
  replaced f (fixed xs) = fixed (all_replaced f xs)
  replaced f (pairs ps) = pairs (pairs_replaced f ps)
  replaced f (fields fs) = fields (fields_replaced f fs)
  replaced f (variant name p) = variant name (payload_replaced f p)
  replaced f (option p) = option (payload_replaced f p)
  replaced f (ok p) = ok (payload_replaced f p)
  replaced f (error p) = error (payload_replaced f p)
  replaced f (held x) = held (f x)
  replaced f x = x

  pub all_replaced : (Any → Any) → Literals → Literals
  all_replaced f no_literals = no_literals
  all_replaced f (literal x xs) = literal (replaced f x) (all_replaced f xs)

  pub fields_replaced : (Any → Any) → Fields → Fields
  fields_replaced f no_fields = no_fields
  fields_replaced f (field name x fs) = field name (replaced f x) (fields_replaced f fs)

  pub pairs_replaced : (Any → Any) → Pairs → Pairs
  pairs_replaced f no_pairs = no_pairs
  pairs_replaced f (pair k v ps) = pair (replaced f k) (replaced f v) (pairs_replaced f ps)

  pub payload_replaced : (Any → Any) → Payload → Payload
  payload_replaced f no_payload = no_payload
  payload_replaced f (with_payload x) = with_payload (replaced f x)
