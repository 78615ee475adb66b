-- The cases of a type, by their payloads.
use Rattle.std.specs.Prelude.{None, Option, Some, [], ℕ, ◌<◌, ◌≡◌}
use Rattle.canon_lowering.specs.Copies.{case_members}
use Rattle.canon_model.specs.Shape.{Cases, Members, Shape, VariantKind, case_count, member, no_members, variant}

-- a payload as no member or one
abbrev pub payload_members : Option Shape → Members
payload_members None = no_members
payload_members (Some u) = member [] u no_members

-- case d of the type has this payload
pub record HasCase (s : Shape) (d : ℕ) (p : Option Shape) : Type 0 where
  pub kind : VariantKind
  pub cases : Cases
  pub shape : s ≡ variant kind cases
  pub inside : d < case_count cases
  pub members : case_members cases d ≡ payload_members p
