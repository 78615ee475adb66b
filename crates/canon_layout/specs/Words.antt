-- The words that types have in a script.
use Rattle.std.specs.Prelude.{ℕ, List, [], ◌∷◌, codes}
use Rattle.canon_types.specs.declared.types.InterfaceType.{InterfaceType}
use Rattle.canon_types.specs.declared.types.InterfaceType.TheVariants as ty
use Rattle.canon_layout.specs.declared.words.Kind.{Kind}
use Rattle.canon_layout.specs.declared.words.Kind.TheVariants as kind

-- the member of an entry of this kind
abbrev pub kind_word : Kind → List ℕ
kind_word kind.List = codes "list"
kind_word kind.Option = codes "option"
kind_word kind.Map = codes "map"
kind_word kind.Record = codes "record"
kind_word kind.Tuple = codes "tuple"
kind_word kind.Variant = codes "variant"
kind_word kind.Enum = codes "enum"
kind_word kind.Flags = codes "flags"
kind_word kind.Result = codes "result"
kind_word kind.Fixed = codes "fixed"
kind_word kind.Own = codes "own"
kind_word kind.Borrow = codes "borrow"

abbrev pub entry_kinds : List Kind
entry_kinds = kind.List ∷ kind.Option ∷ kind.Map ∷ kind.Record ∷ kind.Tuple ∷ kind.Variant ∷ kind.Enum ∷ kind.Flags ∷ kind.Result ∷ kind.Fixed ∷ kind.Own ∷ kind.Borrow ∷ []

-- the word of a type: its name, or that of the kind of entry that makes it
abbrev pub type_word : InterfaceType → List ℕ
type_word ty.Bool = codes "bool"
type_word ty.S8 = codes "s8"
type_word ty.U8 = codes "u8"
type_word ty.S16 = codes "s16"
type_word ty.U16 = codes "u16"
type_word ty.S32 = codes "s32"
type_word ty.U32 = codes "u32"
type_word ty.S64 = codes "s64"
type_word ty.U64 = codes "u64"
type_word ty.Float32 = codes "f32"
type_word ty.Float64 = codes "f64"
type_word ty.Char = codes "char"
type_word ty.String = codes "string"
type_word (ty.List i) = kind_word kind.List
type_word (ty.Option i) = kind_word kind.Option
type_word (ty.Map i) = kind_word kind.Map
type_word (ty.Record i) = kind_word kind.Record
type_word (ty.Tuple i) = kind_word kind.Tuple
type_word (ty.Variant i) = kind_word kind.Variant
type_word (ty.Enum i) = kind_word kind.Enum
type_word (ty.Flags i) = kind_word kind.Flags
type_word (ty.Result i) = kind_word kind.Result
type_word (ty.FixedLengthList i) = kind_word kind.Fixed
type_word (ty.Own r) = kind_word kind.Own
type_word (ty.Borrow r) = kind_word kind.Borrow

-- the types that have names
abbrev pub plain_types : List InterfaceType
plain_types = ty.Bool ∷ ty.S8 ∷ ty.U8 ∷ ty.S16 ∷ ty.U16 ∷ ty.S32 ∷ ty.U32 ∷ ty.S64 ∷ ty.U64 ∷ ty.Float32 ∷ ty.Float64 ∷ ty.Char ∷ ty.String ∷ []
