-- What a type is called in messages.
use Rattle.std.specs.Prelude.{List, codes, ℕ}
use Rattle.canon_types.specs.declared.types.InterfaceType.{InterfaceType}
use Rattle.canon_types.specs.declared.types.InterfaceType.TheVariants as ty

abbrev pub desc_of : InterfaceType → List ℕ
desc_of ty.Bool = codes "bool"
desc_of ty.S8 = codes "s8"
desc_of ty.U8 = codes "u8"
desc_of ty.S16 = codes "s16"
desc_of ty.U16 = codes "u16"
desc_of ty.S32 = codes "s32"
desc_of ty.U32 = codes "u32"
desc_of ty.S64 = codes "s64"
desc_of ty.U64 = codes "u64"
desc_of ty.Float32 = codes "f32"
desc_of ty.Float64 = codes "f64"
desc_of ty.Char = codes "char"
desc_of ty.String = codes "string"
desc_of (ty.Record i) = codes "record"
desc_of (ty.Variant i) = codes "variant"
desc_of (ty.List i) = codes "list"
desc_of (ty.Tuple i) = codes "tuple"
desc_of (ty.Map i) = codes "map"
desc_of (ty.Flags i) = codes "flags"
desc_of (ty.Enum i) = codes "enum"
desc_of (ty.Option i) = codes "option"
desc_of (ty.Result i) = codes "result"
desc_of (ty.Own i) = codes "owned resource"
desc_of (ty.Borrow i) = codes "borrowed resource"
desc_of (ty.FixedLengthList i) = codes "list<_, N>"
