-- What the conversions of host resources answer and do to the ledger.
use Rattle.std.specs.Prelude.{ℕ, Option, Some, None, Result, Ok}
use Rattle.canon_types.specs.declared.resource.ResourceType.{ResourceType}
use Rattle.canon_ledger.specs.declared.fault.ResourceFault.{ResourceFault}
use Rattle.canon_ledger.specs.declared.fault.ResourceFault.TheVariants as fault
use Rattle.canon_ledger.specs.Ledger as ledger
use Rattle.canon_ledger.specs.Ledger.{LedgerState, Did, Done, given, mapped, refused}
use Rattle.canon_ledger.specs.Books.{DidSurely}
use Rattle.canon_resources.specs.declared.host.ResourceState.{ResourceState}
use Rattle.canon_resources.specs.declared.host.ResourceState.TheVariants as state
use Rattle.canon_resources.specs.declared.any.ResourceAnyHandle.{ResourceAnyHandle}
use Rattle.canon_resources.specs.declared.any.ResourceAnyHandle.TheVariants as handle
use Rattle.canon_resources.specs.Held.{HostHandle, held, Any, any}

-- an answer that leaves the ledger
abbrev pub answered : {A : Type 0} → A → LedgerState → Done A
answered a l = record { answer = Ok a; after = l }

-- into a resource that carries its type: an own handle that is in no table is put into the host's, and a borrow keeps its representation alone
abbrev pub into_any : ResourceState → ℕ → ResourceType → LedgerState → Done Any
into_any state.Borrow rep ty l = answered (any (handle.Synthetic rep) ty) l
into_any state.NotInTable rep ty l = mapped (λ x. any (handle.Own x) ty) (given l (ledger.host_resource_lower_own l rep None None))
into_any state.Taken rep ty l = refused fault.HostConsumed l
into_any (state.Index x) rep ty l = answered (any (handle.Own x) ty) l

-- out of a resource that carries its type, where that is d
abbrev pub out_of : {D : Type 0} → D → ResourceAnyHandle → LedgerState → Done (HostHandle D)
out_of d (handle.Own x) l = mapped (λ rep. held state.NotInTable rep d) (ledger.host_resource_lift_own l x)
out_of d (handle.Borrow x) l = mapped (λ rep. held state.Borrow rep d) (ledger.host_resource_remove l x)
out_of d (handle.Synthetic rep) l = answered (held state.Borrow rep d) l

-- and where it may not be of the wanted type
abbrev pub from_any : {D : Type 0} → Option D → ResourceAnyHandle → LedgerState → Done (HostHandle D)
from_any (Some d) h l = out_of d h l
from_any None h l = refused fault.ResourceTypeMismatch l

-- a conversion into a resource that carries its type: one that must insert may run out of memory, and no other does
abbrev pub Converted : ResourceState → Done Any → Result Any ResourceFault → LedgerState → LedgerState → Type 0
Converted state.NotInTable d r l l' = Did d r l l'
Converted _ d r l l' = DidSurely d r l'
