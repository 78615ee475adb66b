-- The numbers of several types, in order.
use Rattle.std.specs.Prelude.{List, [], ◌∷◌, Option, Some, None, ⊤}
use Rattle.std.specs.List.{AllZip}
use Rattle.canon_abi.specs.Abi.{HasLayout}
use Rattle.canon_abi.specs.declared.abi.CanonicalAbiInfo.{CanonicalAbiInfo}
use Rattle.canon_model.specs.Shape.{Cases, Shape, no_cases}
use Rattle.canon_types.specs.declared.types.InterfaceType.{InterfaceType}
use Rattle.canon_types.specs.Table.{named_case, payload_in, shape_in}

abbrev pub AreLaid : List Shape → List CanonicalAbiInfo → List InterfaceType → Type 0
AreLaid known abis types = AllZip (λ abi t. HasLayout abi (shape_in known t)) abis types

abbrev pub IsPayloadLaid : List Shape → Option CanonicalAbiInfo → Option InterfaceType → Type 0
IsPayloadLaid known None None = ⊤
IsPayloadLaid known (Some abi) (Some t) = HasLayout abi (shape_in known t)
IsPayloadLaid known _ _ = ⊥

abbrev pub ArePayloadsLaid : List Shape → List (Option CanonicalAbiInfo) → List (Option InterfaceType) → Type 0
ArePayloadsLaid known abis payloads = AllZip (IsPayloadLaid known) abis payloads

-- the cases without their names
abbrev pub unnamed_cases : List Shape → List (Option InterfaceType) → Cases
unnamed_cases known [] = no_cases
unnamed_cases known (p ∷ ps) = named_case [] (payload_in known p) (unnamed_cases known ps)
