-- Which resource types belong to a kind of host resources.
use Rattle.std.proofs.Common.{◌≡◌, ℕ, Bool, true, false, ◌==◌, Some, refl, ap, eq-eqb}
use Rattle.std.proofs.lemmas.Bool.{eqb-true}
use Rattle.canon_types.specs.declared.resource.ResourceType.{ResourceType}
use Rattle.canon_types.specs.declared.resource.ResourceType.TheVariants.{Host, HostDynamic, Guest}
use Rattle.canon_types.specs.Resource.{as_host_dynamic}
use Rattle.canon_resources.specs.Types.{as_host, unit_if}

pub as_host_its : (id : ℕ) → as_host id (Host id) ≡ Some tt
as_host_its id = ap unit_if (eq-eqb id id refl)

some_if : (b : Bool) (u : Unit {0}) → unit_if b ≡ Some u → b ≡ true
some_if true u e = refl
some_if false u e = absurd (cc)

pub as_host_no_other : (id : ℕ) (ty : ResourceType) (u : Unit {0}) → as_host id ty ≡ Some u → ty ≡ Host id
as_host_no_other id (Host n) u e = ap Host (eqb-true n id (some_if (n == id) u e))
as_host_no_other id (HostDynamic p) u e = absurd (cc)
as_host_no_other id (Guest s i n) u e = absurd (cc)

pub as_dynamic_its : (d : ℕ) → as_host_dynamic (HostDynamic d) ≡ Some d
as_dynamic_its d = refl

pub as_dynamic_no_other : (ty : ResourceType) (d : ℕ) → as_host_dynamic ty ≡ Some d → ty ≡ HostDynamic d
as_dynamic_no_other (Host n) d e = absurd (cc)
as_dynamic_no_other (HostDynamic p) d e = ap HostDynamic (cc)
as_dynamic_no_other (Guest s i n) d e = absurd (cc)
