-- The scalars of types.
use Rattle.std.proofs.Common.{◌≡◌, ◌∙◌, Option, Some, ap, refl, sym, ℕ}
use Rattle.canon_model.specs.Shape.{Scalar, bool, char, f32, f64, s16, s32, s64, s8, scalar, u16, u32, u64, u8}
use Rattle.canon_types.specs.declared.types.InterfaceType.{InterfaceType}
use Rattle.canon_types.specs.declared.types.InterfaceType.TheVariants as ty
use Rattle.canon_types.specs.Table.{TypeTable, plain_shape, shape_of}
use Rattle.canon_plan.specs.NoHandle.{scalar_type, IsScalarType}
use Rattle.canon_model.specs.Layout.{flat}

-- a scalar type has the shape of its scalar, and its shape needs no table
both_scalar : (type : InterfaceType) (k : Scalar) → scalar_type type ≡ Some k → (plain_shape type ≡ scalar k) × ((t : TypeTable) → shape_of t type ≡ scalar k)
both_scalar ty.Bool k e = let same : bool ≡ k = cc in (ap scalar same, λ t. ap scalar same)
both_scalar ty.S8 k e = let same : s8 ≡ k = cc in (ap scalar same, λ t. ap scalar same)
both_scalar ty.U8 k e = let same : u8 ≡ k = cc in (ap scalar same, λ t. ap scalar same)
both_scalar ty.S16 k e = let same : s16 ≡ k = cc in (ap scalar same, λ t. ap scalar same)
both_scalar ty.U16 k e = let same : u16 ≡ k = cc in (ap scalar same, λ t. ap scalar same)
both_scalar ty.S32 k e = let same : s32 ≡ k = cc in (ap scalar same, λ t. ap scalar same)
both_scalar ty.U32 k e = let same : u32 ≡ k = cc in (ap scalar same, λ t. ap scalar same)
both_scalar ty.S64 k e = let same : s64 ≡ k = cc in (ap scalar same, λ t. ap scalar same)
both_scalar ty.U64 k e = let same : u64 ≡ k = cc in (ap scalar same, λ t. ap scalar same)
both_scalar ty.Float32 k e = let same : f32 ≡ k = cc in (ap scalar same, λ t. ap scalar same)
both_scalar ty.Float64 k e = let same : f64 ≡ k = cc in (ap scalar same, λ t. ap scalar same)
both_scalar ty.Char k e = let same : char ≡ k = cc in (ap scalar same, λ t. ap scalar same)
both_scalar ty.String k e = cc
both_scalar (ty.Own i) k e = cc
both_scalar (ty.Borrow i) k e = cc
both_scalar (ty.List i) k e = cc
both_scalar (ty.Map i) k e = cc
both_scalar (ty.Record i) k e = cc
both_scalar (ty.Tuple i) k e = cc
both_scalar (ty.Variant i) k e = cc
both_scalar (ty.Enum i) k e = cc
both_scalar (ty.Option i) k e = cc
both_scalar (ty.Result i) k e = cc
both_scalar (ty.Flags i) k e = cc
both_scalar (ty.FixedLengthList i) k e = cc

pub scalar_shape : (t : TypeTable) (type : InterfaceType) (k : Scalar) → scalar_type type ≡ Some k → shape_of t type ≡ scalar k
scalar_shape t type k e = (both_scalar type k e).1 t

pub plain_scalar : (type : InterfaceType) (k : Scalar) → scalar_type type ≡ Some k → plain_shape type ≡ scalar k
plain_scalar type k e = (both_scalar type k e).0

-- a type that has no definition, and is no string and no handle, is a scalar
pub scalar_left : (type : InterfaceType) → ((i : ℕ) → type ≡ ty.Record i → ⊥) → ((i : ℕ) → type ≡ ty.Tuple i → ⊥) → (type ≡ ty.String → ⊥) → ((i : ℕ) → type ≡ ty.List i → ⊥) → ((i : ℕ) → type ≡ ty.FixedLengthList i → ⊥)
    → ((i : ℕ) → type ≡ ty.Map i → ⊥) → ((i : ℕ) → type ≡ ty.Variant i → ⊥) → ((i : ℕ) → type ≡ ty.Enum i → ⊥) → ((i : ℕ) → type ≡ ty.Option i → ⊥) → ((i : ℕ) → type ≡ ty.Result i → ⊥) → ((i : ℕ) → type ≡ ty.Flags i → ⊥)
    → ((i : ℕ) → type ≡ ty.Own i → ⊥) → ((i : ℕ) → type ≡ ty.Borrow i → ⊥) → IsScalarType type
scalar_left ty.Bool no_record no_tuple no_string no_list no_fixed no_map no_variant no_enum no_option no_result no_flags no_own no_borrow = (bool, refl)
scalar_left ty.S8 no_record no_tuple no_string no_list no_fixed no_map no_variant no_enum no_option no_result no_flags no_own no_borrow = (s8, refl)
scalar_left ty.U8 no_record no_tuple no_string no_list no_fixed no_map no_variant no_enum no_option no_result no_flags no_own no_borrow = (u8, refl)
scalar_left ty.S16 no_record no_tuple no_string no_list no_fixed no_map no_variant no_enum no_option no_result no_flags no_own no_borrow = (s16, refl)
scalar_left ty.U16 no_record no_tuple no_string no_list no_fixed no_map no_variant no_enum no_option no_result no_flags no_own no_borrow = (u16, refl)
scalar_left ty.S32 no_record no_tuple no_string no_list no_fixed no_map no_variant no_enum no_option no_result no_flags no_own no_borrow = (s32, refl)
scalar_left ty.U32 no_record no_tuple no_string no_list no_fixed no_map no_variant no_enum no_option no_result no_flags no_own no_borrow = (u32, refl)
scalar_left ty.S64 no_record no_tuple no_string no_list no_fixed no_map no_variant no_enum no_option no_result no_flags no_own no_borrow = (s64, refl)
scalar_left ty.U64 no_record no_tuple no_string no_list no_fixed no_map no_variant no_enum no_option no_result no_flags no_own no_borrow = (u64, refl)
scalar_left ty.Float32 no_record no_tuple no_string no_list no_fixed no_map no_variant no_enum no_option no_result no_flags no_own no_borrow = (f32, refl)
scalar_left ty.Float64 no_record no_tuple no_string no_list no_fixed no_map no_variant no_enum no_option no_result no_flags no_own no_borrow = (f64, refl)
scalar_left ty.Char no_record no_tuple no_string no_list no_fixed no_map no_variant no_enum no_option no_result no_flags no_own no_borrow = (char, refl)
scalar_left (ty.Record i) no_record no_tuple no_string no_list no_fixed no_map no_variant no_enum no_option no_result no_flags no_own no_borrow = absurd (no_record i refl)
scalar_left (ty.Tuple i) no_record no_tuple no_string no_list no_fixed no_map no_variant no_enum no_option no_result no_flags no_own no_borrow = absurd (no_tuple i refl)
scalar_left ty.String no_record no_tuple no_string no_list no_fixed no_map no_variant no_enum no_option no_result no_flags no_own no_borrow = absurd (no_string refl)
scalar_left (ty.List i) no_record no_tuple no_string no_list no_fixed no_map no_variant no_enum no_option no_result no_flags no_own no_borrow = absurd (no_list i refl)
scalar_left (ty.FixedLengthList i) no_record no_tuple no_string no_list no_fixed no_map no_variant no_enum no_option no_result no_flags no_own no_borrow = absurd (no_fixed i refl)
scalar_left (ty.Map i) no_record no_tuple no_string no_list no_fixed no_map no_variant no_enum no_option no_result no_flags no_own no_borrow = absurd (no_map i refl)
scalar_left (ty.Variant i) no_record no_tuple no_string no_list no_fixed no_map no_variant no_enum no_option no_result no_flags no_own no_borrow = absurd (no_variant i refl)
scalar_left (ty.Enum i) no_record no_tuple no_string no_list no_fixed no_map no_variant no_enum no_option no_result no_flags no_own no_borrow = absurd (no_enum i refl)
scalar_left (ty.Option i) no_record no_tuple no_string no_list no_fixed no_map no_variant no_enum no_option no_result no_flags no_own no_borrow = absurd (no_option i refl)
scalar_left (ty.Result i) no_record no_tuple no_string no_list no_fixed no_map no_variant no_enum no_option no_result no_flags no_own no_borrow = absurd (no_result i refl)
scalar_left (ty.Flags i) no_record no_tuple no_string no_list no_fixed no_map no_variant no_enum no_option no_result no_flags no_own no_borrow = absurd (no_flags i refl)
scalar_left (ty.Own i) no_record no_tuple no_string no_list no_fixed no_map no_variant no_enum no_option no_result no_flags no_own no_borrow = absurd (no_own i refl)
scalar_left (ty.Borrow i) no_record no_tuple no_string no_list no_fixed no_map no_variant no_enum no_option no_result no_flags no_own no_borrow = absurd (no_borrow i refl)

-- the shape of a scalar type, and its one word
pub scalar_known : (t : TypeTable) (type : InterfaceType) → IsScalarType type → plain_shape type ≡ shape_of t type
scalar_known t type (k, e) = plain_scalar type k e ∙ sym (scalar_shape t type k e)

pub scalar_flat : (t : TypeTable) (type : InterfaceType) → IsScalarType type → flat (shape_of t type) ≡ 1
unfolding flat
scalar_flat t type (k, e) = ap flat (scalar_shape t type k e)
