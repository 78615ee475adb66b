-- Which resource types are those of a kind of host resources.
use Rattle.std.specs.Prelude.{ℕ, Bool, true, false, Option, Some, None}
use Rattle.canon_types.specs.declared.resource.ResourceType.{ResourceType}
use Rattle.canon_types.specs.Resource.{is_host}

abbrev pub unit_if : Bool → Option (Unit {0})
unit_if true = Some tt
unit_if false = None

-- the type of the host type of this number, and no other
abbrev pub as_host : ℕ → ResourceType → Option (Unit {0})
as_host id ty = unit_if (is_host id ty)
