-- Of which kind a type is, which its shape tells.
use Rattle.std.proofs.Common.{◌≡◌, ◌+◌, ◌<◌, ◌++◌, ◌∙◌, ◌↔◌, Bool, IsTrue, List, [], ◌∷◌, ap, arith, false, get_or, length, refl, slice_get, subst, suc, sym, true, zero, ℕ}
use Rattle.std.proofs.lemmas.List.{get_or-append-add, get_or_append_left, length-append}
use Rattle.std.specs.Option.{option_map_or}
use Rattle.canon_model.specs.Same.{Same}
use Rattle.canon_model.specs.Shape as shape
use Rattle.canon_model.specs.Shape.{Scalar, Shape, borrow, fixed, flags, list, of_cases, of_fields, of_items, of_names, of_option, of_pairs, of_places, of_result, own, product, scalar, string, variant}
use Rattle.canon_types.specs.Instance.{Instance}
use Rattle.canon_types.specs.Table.{Definition, EnumType, FixedListType, FlagsType, Knows, ListType, MapType, OptionType, RecordType, ResultType, TupleType, TypeTable, VariantType, all_shapes, defined_shape, is_enum, is_fixed_list, is_flags, is_list, is_map, is_option, is_record, is_result, is_tuple, is_variant, no_shape, shape_of, shapes_after}
use Rattle.canon_types.specs.contracts.types.InterfaceTypePartialEq.TheImpl as derived
use Rattle.canon_types.specs.declared.types.InterfaceType.{InterfaceType}
use Rattle.canon_types.specs.declared.types.InterfaceType.TheVariants as ty
use Rattle.canon_same.specs.Same.{SameResource, SameTypes}
use Rattle.canon_same.proofs.Steps.{never}

pub data Kind : Type 0 where
  plain : Scalar → Kind
  text items pairs fields places cases names maybe outcome bits owned borrowed fixed_items : Kind

-- ---- of a shape, of a definition and of a type

abbrev kind_of : Shape → Kind
kind_of (scalar k) = plain k
kind_of string = text
kind_of (own r) = owned
kind_of (borrow r) = borrowed
kind_of (list of_items s) = items
kind_of (list of_pairs s) = pairs
kind_of (fixed n s) = fixed_items
kind_of (product of_fields ms) = fields
kind_of (product of_places ms) = places
kind_of (variant of_cases cs) = cases
kind_of (variant of_names cs) = names
kind_of (variant of_option cs) = maybe
kind_of (variant of_result cs) = outcome
kind_of (flags ns) = bits

abbrev definition_kind : Definition → Kind
definition_kind (ListType element) = items
definition_kind (MapType key value) = pairs
definition_kind (RecordType fs) = fields
definition_kind (TupleType types) = places
definition_kind (VariantType cs) = cases
definition_kind (EnumType ns) = names
definition_kind (OptionType some) = maybe
definition_kind (ResultType ok error) = outcome
definition_kind (FlagsType ns) = bits
definition_kind (FixedListType element count) = fixed_items

abbrev pub kind : InterfaceType → Kind
kind ty.Bool = plain shape.bool
kind ty.S8 = plain shape.s8
kind ty.U8 = plain shape.u8
kind ty.S16 = plain shape.s16
kind ty.U16 = plain shape.u16
kind ty.S32 = plain shape.s32
kind ty.U32 = plain shape.u32
kind ty.S64 = plain shape.s64
kind ty.U64 = plain shape.u64
kind ty.Float32 = plain shape.f32
kind ty.Float64 = plain shape.f64
kind ty.Char = plain shape.char
kind ty.String = text
kind (ty.Record i) = fields
kind (ty.Variant i) = cases
kind (ty.List i) = items
kind (ty.Tuple i) = places
kind (ty.Map i) = pairs
kind (ty.Flags i) = bits
kind (ty.Enum i) = names
kind (ty.Option i) = maybe
kind (ty.Result i) = outcome
kind (ty.Own i) = owned
kind (ty.Borrow i) = borrowed
kind (ty.FixedLengthList i) = fixed_items

-- the number that a type has beside its kind
abbrev pub number_of : InterfaceType → ℕ
number_of (ty.Record i) = i
number_of (ty.Variant i) = i
number_of (ty.List i) = i
number_of (ty.Tuple i) = i
number_of (ty.Map i) = i
number_of (ty.Flags i) = i
number_of (ty.Enum i) = i
number_of (ty.Option i) = i
number_of (ty.Result i) = i
number_of (ty.Own i) = i
number_of (ty.Borrow i) = i
number_of (ty.FixedLengthList i) = i
number_of _ = 0

abbrev pub type_of : Kind → ℕ → InterfaceType
type_of (plain shape.bool) i = ty.Bool
type_of (plain shape.s8) i = ty.S8
type_of (plain shape.u8) i = ty.U8
type_of (plain shape.s16) i = ty.S16
type_of (plain shape.u16) i = ty.U16
type_of (plain shape.s32) i = ty.S32
type_of (plain shape.u32) i = ty.U32
type_of (plain shape.s64) i = ty.S64
type_of (plain shape.u64) i = ty.U64
type_of (plain shape.f32) i = ty.Float32
type_of (plain shape.f64) i = ty.Float64
type_of (plain shape.char) i = ty.Char
type_of text i = ty.String
type_of fields i = ty.Record i
type_of cases i = ty.Variant i
type_of items i = ty.List i
type_of places i = ty.Tuple i
type_of pairs i = ty.Map i
type_of bits i = ty.Flags i
type_of names i = ty.Enum i
type_of maybe i = ty.Option i
type_of outcome i = ty.Result i
type_of owned i = ty.Own i
type_of borrowed i = ty.Borrow i
type_of fixed_items i = ty.FixedLengthList i

type_is : (type : InterfaceType) → type_of (kind type) (number_of type) ≡ type
type_is ty.Bool = refl
type_is _ = refl

abbrev is_plain_kind : Kind → Bool
is_plain_kind (plain k) = true
is_plain_kind text = true
is_plain_kind _ = false

-- ---- a type of a table has the kind of its shape

defined_kind : (known : List Shape) (d : Definition) → kind_of (defined_shape known d) ≡ definition_kind d
defined_kind known (ListType element) = refl
defined_kind known _ = refl

-- the shapes that were found stay
kept_shape : (known : List Shape) (ds : List Definition) (i : ℕ) → i < length known → get_or (shapes_after known ds) i no_shape ≡ get_or known i no_shape
unfolding shapes_after
kept_shape known [] i h = refl
kept_shape known (x ∷ ds) i h =
    let new : List Shape = defined_shape known x ∷ [] in
    kept_shape (known ++ new) ds i (omega (arith, h, length-append known new)) ∙ get_or_append_left known new no_shape i h

module _ (test : Definition → Bool) (k : Kind) (one : (d : Definition) → test d ≡ true → definition_kind d ≡ k) where
  kind_at : (known : List Shape) (ds : List Definition) (j : ℕ) → option_map_or test (slice_get ds j) false ≡ true → kind_of (get_or (shapes_after known ds) (length known + j) no_shape) ≡ k
  unfolding shapes_after
  kind_at known [] j h = cc
  kind_at known (x ∷ ds) zero h =
      let new : List Shape = defined_shape known x ∷ [] in
      ap kind_of (kept_shape (known ++ new) ds (length known + 0) (omega (arith, length-append known new)) ∙ get_or-append-add known new 0 no_shape)
      ∙ defined_kind known x ∙ one x h
  kind_at known (x ∷ ds) (suc j) h =
      let new : List Shape = defined_shape known x ∷ [] in
      let same : length (known ++ new) + j ≡ length known + suc j = omega (arith, length-append known new) in
      subst (λ n. kind_of (get_or (shapes_after (known ++ new) ds) n no_shape) ≡ k) same (kind_at (known ++ new) ds j h)

  kind_there : (t : TypeTable) (i : ℕ) → option_map_or test (slice_get t.definitions i) false ≡ true → kind_of (get_or (all_shapes t) i no_shape) ≡ k
  unfolding all_shapes
  kind_there t i h = let same : 0 + i ≡ i = omega arith in subst (λ n. kind_of (get_or (shapes_after [] t.definitions) n no_shape) ≡ k) same (kind_at [] t.definitions i h)

list_kind : (d : Definition) → is_list d ≡ true → definition_kind d ≡ items
list_kind (ListType element) h = refl
list_kind _ h = cc

map_kind : (d : Definition) → is_map d ≡ true → definition_kind d ≡ pairs
map_kind (MapType key value) h = refl
map_kind _ h = cc

record_kind : (d : Definition) → is_record d ≡ true → definition_kind d ≡ fields
record_kind (RecordType fs) h = refl
record_kind _ h = cc

tuple_kind : (d : Definition) → is_tuple d ≡ true → definition_kind d ≡ places
tuple_kind (TupleType types) h = refl
tuple_kind _ h = cc

variant_kind : (d : Definition) → is_variant d ≡ true → definition_kind d ≡ cases
variant_kind (VariantType cs) h = refl
variant_kind _ h = cc

enum_kind : (d : Definition) → is_enum d ≡ true → definition_kind d ≡ names
enum_kind (EnumType ns) h = refl
enum_kind _ h = cc

option_kind : (d : Definition) → is_option d ≡ true → definition_kind d ≡ maybe
option_kind (OptionType some) h = refl
option_kind _ h = cc

result_kind : (d : Definition) → is_result d ≡ true → definition_kind d ≡ outcome
result_kind (ResultType ok error) h = refl
result_kind _ h = cc

flags_kind : (d : Definition) → is_flags d ≡ true → definition_kind d ≡ bits
flags_kind (FlagsType ns) h = refl
flags_kind _ h = cc

fixed_kind : (d : Definition) → is_fixed_list d ≡ true → definition_kind d ≡ fixed_items
fixed_kind (FixedListType element count) h = refl
fixed_kind _ h = cc

known_kind : (t : TypeTable) (type : InterfaceType) → Knows t type → kind_of (shape_of t type) ≡ kind type
known_kind t (ty.Record i) h = kind_there is_record fields record_kind t i h
known_kind t (ty.Variant i) h = kind_there is_variant cases variant_kind t i h
known_kind t (ty.List i) h = kind_there is_list items list_kind t i h
known_kind t (ty.Tuple i) h = kind_there is_tuple places tuple_kind t i h
known_kind t (ty.Map i) h = kind_there is_map pairs map_kind t i h
known_kind t (ty.Flags i) h = kind_there is_flags bits flags_kind t i h
known_kind t (ty.Enum i) h = kind_there is_enum names enum_kind t i h
known_kind t (ty.Option i) h = kind_there is_option maybe option_kind t i h
known_kind t (ty.Result i) h = kind_there is_result outcome result_kind t i h
known_kind t (ty.FixedLengthList i) h = kind_there is_fixed_list fixed_items fixed_kind t i h
known_kind t _ h = refl

-- ---- types that are the same are of one kind

same_kind : (same : ℕ → ℕ → Type 0) (s v : Shape) → Same same s v → kind_of v ≡ kind_of s
same_kind same (scalar k) v h = ap kind_of h
same_kind same string v h = ap kind_of h
same_kind same (own r) v (q, e, h) = ap kind_of e
same_kind same (borrow r) v (q, e, h) = ap kind_of e
same_kind same (list of_items s) v (u, e, h) = ap kind_of e
same_kind same (list of_pairs s) v (u, e, h) = ap kind_of e
same_kind same (fixed n s) v (u, e, h) = ap kind_of e
same_kind same (product of_fields ms) v (ns, e, h) = ap kind_of e
same_kind same (product of_places ms) v (ns, e, h) = ap kind_of e
same_kind same (variant of_cases cs) v (ds, e, h) = ap kind_of e
same_kind same (variant of_names cs) v (ds, e, h) = ap kind_of e
same_kind same (variant of_option cs) v (ds, e, h) = ap kind_of e
same_kind same (variant of_result cs) v (ds, e, h) = ap kind_of e
same_kind same (flags ns) v h = ap kind_of h

pub other_is : (i j : Instance) (type other : InterfaceType) → Knows i.types type → Knows j.types other → SameTypes i j type other → other ≡ type_of (kind type) (number_of other)
other_is i j type other known other_known h =
    let one : kind other ≡ kind type =
    sym (known_kind j.types other other_known) ∙ same_kind (SameResource i j) (shape_of i.types type) (shape_of j.types other) h ∙ known_kind i.types type known in
    sym (type_is other) ∙ ap (λ k. type_of k (number_of other)) one

-- a type of another kind isn't the same
pub unlike : (i j : Instance) (type other : InterfaceType) (r : Bool) → r ≡ false → Knows i.types type → Knows j.types other → (other ≡ type_of (kind type) (number_of other) → ⊥) → IsTrue r ↔ SameTypes i j type other
unlike i j type other r f known other_known differ = never r f (λ h. differ (other_is i j type other known other_known h))

-- ---- types without parts, whose comparison is by themselves

-- what comparing two types answers
abbrev pub eq : InterfaceType → InterfaceType → Bool
eq = (derived.ghosts).eq

abbrev pub is_plain : InterfaceType → Bool
is_plain type = is_plain_kind (kind type)

-- of the types that aren't compared otherwise such are left
pub plain_left : (type : InterfaceType) → ((i : ℕ) → type ≡ ty.List i → ⊥) → ((i : ℕ) → type ≡ ty.FixedLengthList i → ⊥) → ((i : ℕ) → type ≡ ty.Map i → ⊥) → ((i : ℕ) → type ≡ ty.Record i → ⊥)
    → ((i : ℕ) → type ≡ ty.Tuple i → ⊥) → ((i : ℕ) → type ≡ ty.Variant i → ⊥) → ((i : ℕ) → type ≡ ty.Option i → ⊥) → ((i : ℕ) → type ≡ ty.Result i → ⊥) → ((i : ℕ) → type ≡ ty.Enum i → ⊥)
    → ((i : ℕ) → type ≡ ty.Flags i → ⊥) → ((i : ℕ) → type ≡ ty.Own i → ⊥) → ((i : ℕ) → type ≡ ty.Borrow i → ⊥) → is_plain type ≡ true
plain_left (ty.List i) a b c d e f g h k l m n = absurd (a i refl)
plain_left (ty.FixedLengthList i) a b c d e f g h k l m n = absurd (b i refl)
plain_left (ty.Map i) a b c d e f g h k l m n = absurd (c i refl)
plain_left (ty.Record i) a b c d e f g h k l m n = absurd (d i refl)
plain_left (ty.Tuple i) a b c d e f g h k l m n = absurd (e i refl)
plain_left (ty.Variant i) a b c d e f g h k l m n = absurd (f i refl)
plain_left (ty.Option i) a b c d e f g h k l m n = absurd (g i refl)
plain_left (ty.Result i) a b c d e f g h k l m n = absurd (h i refl)
plain_left (ty.Enum i) a b c d e f g h k l m n = absurd (k i refl)
plain_left (ty.Flags i) a b c d e f g h k l m n = absurd (l i refl)
plain_left (ty.Own i) a b c d e f g h k l m n = absurd (m i refl)
plain_left (ty.Borrow i) a b c d e f g h k l m n = absurd (n i refl)
plain_left _ a b c d e f g h k l m n = refl

plain_itself : (i j : Instance) (type : InterfaceType) → is_plain type ≡ true → SameTypes i j type type × (eq type type ≡ true)
plain_itself i j ty.Bool p = (refl, refl)
plain_itself i j ty.S8 p = (refl, refl)
plain_itself i j ty.U8 p = (refl, refl)
plain_itself i j ty.S16 p = (refl, refl)
plain_itself i j ty.U16 p = (refl, refl)
plain_itself i j ty.S32 p = (refl, refl)
plain_itself i j ty.U32 p = (refl, refl)
plain_itself i j ty.S64 p = (refl, refl)
plain_itself i j ty.U64 p = (refl, refl)
plain_itself i j ty.Float32 p = (refl, refl)
plain_itself i j ty.Float64 p = (refl, refl)
plain_itself i j ty.Char p = (refl, refl)
plain_itself i j ty.String p = (refl, refl)
plain_itself i j _ p = cc

plain_one : (type : InterfaceType) (n : ℕ) → is_plain type ≡ true → type_of (kind type) n ≡ type
plain_one ty.Bool n p = refl
plain_one ty.S8 n p = refl
plain_one ty.U8 n p = refl
plain_one ty.S16 n p = refl
plain_one ty.U16 n p = refl
plain_one ty.S32 n p = refl
plain_one ty.U32 n p = refl
plain_one ty.S64 n p = refl
plain_one ty.U64 n p = refl
plain_one ty.Float32 n p = refl
plain_one ty.Float64 n p = refl
plain_one ty.Char n p = refl
plain_one ty.String n p = refl
plain_one _ n p = cc

plain_equal : (type other : InterfaceType) → is_plain type ≡ true → eq type other ≡ true → other ≡ type
plain_equal ty.Bool ty.Bool p h = refl
plain_equal ty.Bool _ p h = cc
plain_equal ty.S8 ty.S8 p h = refl
plain_equal ty.S8 _ p h = cc
plain_equal ty.U8 ty.U8 p h = refl
plain_equal ty.U8 _ p h = cc
plain_equal ty.S16 ty.S16 p h = refl
plain_equal ty.S16 _ p h = cc
plain_equal ty.U16 ty.U16 p h = refl
plain_equal ty.U16 _ p h = cc
plain_equal ty.S32 ty.S32 p h = refl
plain_equal ty.S32 _ p h = cc
plain_equal ty.U32 ty.U32 p h = refl
plain_equal ty.U32 _ p h = cc
plain_equal ty.S64 ty.S64 p h = refl
plain_equal ty.S64 _ p h = cc
plain_equal ty.U64 ty.U64 p h = refl
plain_equal ty.U64 _ p h = cc
plain_equal ty.Float32 ty.Float32 p h = refl
plain_equal ty.Float32 _ p h = cc
plain_equal ty.Float64 ty.Float64 p h = refl
plain_equal ty.Float64 _ p h = cc
plain_equal ty.Char ty.Char p h = refl
plain_equal ty.Char _ p h = cc
plain_equal ty.String ty.String p h = refl
plain_equal ty.String _ p h = cc
plain_equal _ other p h = cc

pub plain_same : (i j : Instance) (type other : InterfaceType) (r : Bool) → r ≡ eq type other → Knows i.types type → Knows j.types other → is_plain type ≡ true → IsTrue r ↔ SameTypes i j type other
plain_same i j type other r is known other_known p = (
  λ h. subst (SameTypes i j type) (sym (plain_equal type other p (sym is ∙ h))) (plain_itself i j type p).0,
  λ h. is ∙ ap (eq type) (other_is i j type other known other_known h ∙ plain_one type (number_of other) p) ∙ (plain_itself i j type p).1,
)
