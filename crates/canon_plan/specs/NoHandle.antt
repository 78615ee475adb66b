-- The types that reach no handle: no own and no borrow, at any depth.
use Rattle.std.specs.Prelude.{◌≡◌, ◌&&◌, Bool, IsTrue, None, Option, Some, false, true}
use Rattle.canon_model.specs.Shape as shape
use Rattle.canon_model.specs.Shape.{Cases, Members, Scalar, Shape, bare, borrow, fixed, flags, list, member, no_cases, no_members, own, payload, product, scalar, string, variant}
use Rattle.canon_types.specs.declared.types.InterfaceType.{InterfaceType}
use Rattle.canon_types.specs.declared.types.InterfaceType.TheVariants as ty

abbrev mutual
  pub has_no_handle : Shape → Bool
  has_no_handle (scalar k) = true
  has_no_handle string = true
  has_no_handle (own r) = false
  has_no_handle (borrow r) = false
  has_no_handle (list k s) = has_no_handle s
  has_no_handle (fixed n s) = has_no_handle s
  has_no_handle (product k ms) = have_no_handle ms
  has_no_handle (variant k cs) = cases_have_no_handle cs
  has_no_handle (flags names) = true

  pub have_no_handle : Members → Bool
  have_no_handle no_members = true
  have_no_handle (member name s ms) = has_no_handle s && have_no_handle ms

  pub cases_have_no_handle : Cases → Bool
  cases_have_no_handle no_cases = true
  cases_have_no_handle (bare name cs) = cases_have_no_handle cs
  cases_have_no_handle (payload name s cs) = has_no_handle s && cases_have_no_handle cs

abbrev pub HasNoHandle : Shape → Type 0
HasNoHandle s = IsTrue (has_no_handle s)

abbrev pub HaveNoHandle : Members → Type 0
HaveNoHandle ms = IsTrue (have_no_handle ms)

-- the scalar of a type, if it is one
abbrev pub scalar_type : InterfaceType → Option Scalar
scalar_type ty.Bool = Some shape.bool
scalar_type ty.S8 = Some shape.s8
scalar_type ty.U8 = Some shape.u8
scalar_type ty.S16 = Some shape.s16
scalar_type ty.U16 = Some shape.u16
scalar_type ty.S32 = Some shape.s32
scalar_type ty.U32 = Some shape.u32
scalar_type ty.S64 = Some shape.s64
scalar_type ty.U64 = Some shape.u64
scalar_type ty.Float32 = Some shape.f32
scalar_type ty.Float64 = Some shape.f64
scalar_type ty.Char = Some shape.char
scalar_type _ = None

abbrev pub IsScalarType : InterfaceType → Type 0
IsScalarType type = (k : Scalar) × (scalar_type type ≡ Some k)
