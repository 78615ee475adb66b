-- What a look-up gives, where the table is that of the start.
use Rattle.std.proofs.Common.{◌≡◌, ◌∙◌, Some, arith, subst, sym, ℕ}
use Rattle.canon_abi.specs.Abi.{HasInfo, HasLayout}
use Rattle.canon_abi.specs.declared.abi.CanonicalAbiInfo.{CanonicalAbiInfo}
use Rattle.canon_abi.specs.declared.abi.VariantInfo.{VariantInfo}
use Rattle.canon_model.specs.Shape.{option_of}
use Rattle.canon_types.specs.Depth.{variant_cases}
use Rattle.canon_types.specs.Instance.{Instance}
use Rattle.canon_types.specs.Table.{IsDefined, Knows, OptionType, TypeTable, shape_of}
use Rattle.canon_types.specs.declared.types.InterfaceType.{InterfaceType}
use Rattle.canon_types.specs.declared.types.InterfaceType.TheVariants as ty
use Rattle.canon_typed.specs.Types.{IsOptionOf}

pub layout_here : (t t2 : TypeTable) (type : InterfaceType) (abi : CanonicalAbiInfo) → t2 ≡ t → HasLayout abi (shape_of t2 type) → HasLayout abi (shape_of t type)
layout_here t t2 type abi e h = subst (λ (x : TypeTable). HasLayout abi (shape_of x type)) e h

-- ---- options

same_option : (x y : InterfaceType) → Some (OptionType x) ≡ Some (OptionType y) → x ≡ y
same_option x y e = cc

-- what a look-up gives of an option's type
pub record IsOptionAt (Fits : Instance → InterfaceType → Type 0) (i : Instance) (type some : InterfaceType) (numbers : VariantInfo) : Type 0 where
  pub shape : shape_of i.types type ≡ option_of (shape_of i.types some)
  pub known : Knows i.types some
  pub fits : Fits i some
  pub info : HasInfo numbers (variant_cases (shape_of i.types type))

pub option_found : (Fits : Instance → InterfaceType → Type 0) (i : Instance) (t2 : TypeTable) (type : InterfaceType) (j : ℕ) (some : InterfaceType) (info : VariantInfo) → t2 ≡ i.types → type ≡ ty.Option j → IsOptionOf Fits i type
    → IsDefined t2 (ty.Option j) (OptionType some) → HasInfo info (variant_cases (shape_of t2 (ty.Option j))) → IsOptionAt Fits i type some info
option_found Fits i t2 type j some info e is fits defined numbers =
    let here : IsDefined i.types (ty.Option j) (OptionType some) = subst (λ (x : TypeTable). IsDefined x (ty.Option j) (OptionType some)) e defined in
    let (other, d, f) = subst (IsOptionOf Fits i) is fits in
    subst (λ (x : InterfaceType). IsOptionAt Fits i x some info) (sym is) (record {
      shape = here.shape;
      known = here.known 0 some (omega arith);
      fits = subst (Fits i) (same_option other some (sym d.definition ∙ here.definition)) f;
      info = subst (λ (x : TypeTable). HasInfo info (variant_cases (shape_of x (ty.Option j)))) e numbers;
    })
