-- The types that resources are of.
use Rattle.std.specs.Prelude.{ℕ, Bool, false, ◌==◌, Option, Some, None, option_map, slice_get}
use Rattle.canon_types.specs.Instance.{Instance}
use Rattle.canon_types.specs.declared.types.ResourceKind.{ResourceKind}
use Rattle.canon_types.specs.declared.types.ResourceKind.TheVariants as kind
use Rattle.canon_types.specs.declared.types.TypeResourceTable.{TypeResourceTable}
use Rattle.canon_types.specs.declared.resource.ResourceType.{ResourceType}
use Rattle.canon_types.specs.declared.resource.ResourceType.TheVariants.{Host, HostDynamic, Guest}

-- it is the type of the host type of this number
abbrev pub is_host : ℕ → ResourceType → Bool
is_host id (Host n) = n == id
is_host id _ = false

abbrev pub as_host_dynamic : ResourceType → Option ℕ
as_host_dynamic (HostDynamic payload) = Some payload
as_host_dynamic _ = None

-- the type by who implements it, and in an instance of a store
abbrev pub type_of_kind : ℕ → ℕ → ResourceKind → ResourceType
type_of_kind store instance (kind.Host id) = Host id
type_of_kind store instance (kind.HostDynamic payload) = HostDynamic payload
type_of_kind store instance (kind.Guest id dtor) = Guest store instance id

-- the type of a resource table, if there is one of this number
abbrev pub resource_type_at : Instance → ℕ → Option ResourceType
resource_type_at i t = option_map (λ (r : TypeResourceTable). type_of_kind i.store r.instance r.kind) (slice_get i.types.resources t)
