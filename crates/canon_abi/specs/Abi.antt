-- What numbers say of a type.
use Rattle.std.specs.Prelude.{Bool, false, true, max, ℕ, ◌≡◌, ◌≤◌, ◌^◌, List, [], ◌∷◌, Option, Some, None, MatchOption, ⊤}
use Rattle.canon_model.specs.Layout.{align, flat, payload_offset, size, tag_size}
use Rattle.canon_model.specs.Shape.{Cases, Members, Shape, VariantKind, bare, case_count, member, no_cases, no_members, payload, variant}
use Rattle.canon_abi.specs.Numbers.{align_in, flat_within, payload_offset_in, size_in}
use Rattle.canon_abi.specs.Sizes.{tag_bytes}
use Rattle.canon_abi.specs.declared.abi.CanonicalAbiInfo.{CanonicalAbiInfo}
use Rattle.canon_abi.specs.declared.abi.VariantInfo.{VariantInfo}

-- the numbers are those of the type, for each width
pub record HasLayout (abi : CanonicalAbiInfo) (s : Shape) : Type 0 where
  pub size : (wide : Bool) → size_in wide abi ≡ size wide s
  pub align : (wide : Bool) → align_in wide abi ≡ align wide s
  pub flat : abi.flat ≡ flat_within (flat s)

-- the discriminant and the place of the payload are those of a variant of these cases, whose numbers have 32 bits
pub record HasInfo (info : VariantInfo) (cs : Cases) : Type 0 where
  pub size : tag_bytes info.size ≡ tag_size (case_count cs)
  pub offset : (wide : Bool) → payload_offset_in wide info ≡ payload_offset wide cs
  pub few : case_count cs ≤ 2 ^ 32

-- the larger of its sizes for the two widths
abbrev pub wider_size : Shape → ℕ
wider_size s = max (size false s) (size true s)

-- there are numbers, unless a size passes 2 ^ 32 - 1
abbrev pub TellsLayout : Option CanonicalAbiInfo → Shape → Type 0
TellsLayout told s = MatchOption told (2 ^ 32 ≤ wider_size s) (λ abi. HasLayout abi s)

abbrev pub TellsVariant : Option (CanonicalAbiInfo × VariantInfo) → VariantKind → Cases → Type 0
TellsVariant told k cs = MatchOption told (2 ^ 32 ≤ wider_size (variant k cs)) (λ p. HasLayout p.0 (variant k cs) × HasInfo p.1 cs)

-- the numbers of each member
abbrev pub AreOfMembers : List CanonicalAbiInfo → Members → Type 0
AreOfMembers [] no_members = ⊤
AreOfMembers (abi ∷ abis) (member name s ms) = HasLayout abi s × AreOfMembers abis ms
AreOfMembers _ _ = ⊥

-- the numbers of each payload
abbrev pub AreOfCases : List (Option CanonicalAbiInfo) → Cases → Type 0
AreOfCases [] no_cases = ⊤
AreOfCases (None ∷ abis) (bare name cs) = AreOfCases abis cs
AreOfCases (Some abi ∷ abis) (payload name s cs) = HasLayout abi s × AreOfCases abis cs
AreOfCases _ _ = ⊥
