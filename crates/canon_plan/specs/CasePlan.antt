-- A case of a type, as it is lifted.
use Rattle.std.specs.Prelude.{◌≡◌, ◌≤◌, ◌<◌, None, Option, Some, suc, zero, ℕ}
use Rattle.canon_lowering.specs.Copies.{case_members}
use Rattle.canon_model.specs.Cost.{name_cost}
use Rattle.canon_model.specs.Shape.{Cases, Shape, VariantKind, bare, case_count, no_cases, payload, variant}
use Rattle.canon_types.specs.Depth.{variant_cases}
use Rattle.canon_types.specs.Table.{TypeTable}
use Rattle.canon_types.specs.declared.types.InterfaceType.{InterfaceType}
use Rattle.canon_plan.specs.Plan.{AreKnown, shapes_of}
use Rattle.canon_plan.specs.declared.case_plan.CaseSlots.{CaseSlots}
use Rattle.canon_plan.specs.declared.plan.Slots.{Slots}
use Rattle.canon_plan.specs.declared.plan.Slots.TheVariants as slots

-- the charge for the name of case i
abbrev pub case_name_cost : VariantKind → Cases → ℕ → ℕ
case_name_cost k no_cases i = 0
case_name_cost k (bare name cs) zero = name_cost k name
case_name_cost k (bare name cs) (suc i) = case_name_cost k cs i
case_name_cost k (payload name s cs) zero = name_cost k name
case_name_cost k (payload name s cs) (suc i) = case_name_cost k cs i

abbrev pub name_charge : Shape → ℕ → ℕ
name_charge (variant k cs) i = case_name_cost k cs i
name_charge _ i = 0

abbrev pub IsPayload : Option InterfaceType → Slots → Type 0
IsPayload None p = p ≡ slots.Empty
IsPayload (Some type) p = p ≡ slots.Single type

-- the case of this number, of a type of this shape
pub record IsCaseSlots (t : TypeTable) (s : Shape) (tag : ℕ) (c : CaseSlots) : Type 0 where
  pub there : tag < case_count (variant_cases s)
  pub known : AreKnown t c.payload
  pub shapes : shapes_of t c.payload ≡ case_members (variant_cases s) tag
  pub charge : c.name_length ≡ name_charge s tag

abbrev pub TellsCase : TypeTable → Shape → ℕ → Option CaseSlots → Type 0
TellsCase t s tag None = case_count (variant_cases s) ≤ tag
TellsCase t s tag (Some c) = IsCaseSlots t s tag c
