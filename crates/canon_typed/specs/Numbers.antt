-- What numbers a Rust type tells of its component type.
use Rattle.std.specs.Prelude.{MatchOption, None, Option, Some, ⊤, ◌<◌, ◌^◌, ◌≡◌, ◌≤◌, ℕ}
use Rattle.canon_abi.specs.Abi.{HasInfo, HasLayout, wider_size}
use Rattle.canon_abi.specs.Numbers.{flat_within}
use Rattle.canon_abi.specs.declared.abi.CanonicalAbiInfo.{CanonicalAbiInfo}
use Rattle.canon_abi.specs.declared.abi.VariantInfo.{VariantInfo}
use Rattle.canon_model.specs.Layout.{flat}
use Rattle.canon_model.specs.Shape.{Shape, variant}
use Rattle.canon_types.specs.Depth.{variant_cases}

-- the number of words up to 16, and none where a size passes 2^32 - 1
pub record TellsFlat (told : Option ℕ) (s : Shape) : Type 0 where
  pub words : wider_size s < 2 ^ 32 → told ≡ flat_within (flat s)
  pub none : 2 ^ 32 ≤ wider_size s → told ≡ None

-- a type of cases
abbrev pub IsShapeOfCases : Shape → Type 0
IsShapeOfCases (variant k cs) = ⊤
IsShapeOfCases _ = ⊥

-- the discriminant and the payload's place of a type of cases, unless a size passes 2^32 - 1
abbrev pub TellsInfo : Option VariantInfo → Shape → Type 0
TellsInfo told s = MatchOption told (2 ^ 32 ≤ wider_size s) (λ info. (wider_size s < 2 ^ 32) × IsShapeOfCases s × HasInfo info (variant_cases s))

-- the numbers of a case's payload, if it has one, unless a size of the payload passes 2^32 - 1
abbrev pub TellsPayload : Option (Option CanonicalAbiInfo) → Option Shape → Type 0
TellsPayload None (Some s) = 2 ^ 32 ≤ wider_size s
TellsPayload (Some None) None = ⊤
TellsPayload (Some (Some abi)) (Some s) = HasLayout abi s
TellsPayload _ _ = ⊥
