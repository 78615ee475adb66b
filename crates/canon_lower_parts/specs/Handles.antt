-- How a handle is given to the guest for a resource.
use Rattle.std.specs.Prelude.{Bool, Err, IfErr, IfOk, List, None, Ok, Result, [], false, if◌then◌else◌, true, ℕ, ◌<◌, ◌^◌, ◌≡◌, ◌≢◌, ◌⊎◌, ◌∷◌}
use Rattle.canon_context.specs.Core.{Parts}
use Rattle.canon_context.specs.declared.fault.Fault.{Fault}
use Rattle.canon_resources.specs.Parts.{Part, borrow_in, host_own, is_defined_here, is_of_type, lend_inserted, lower_parts, own_in, passed, passed_parts, refuse, table_for, tell}
use Rattle.canon_ledger.specs.Index.{GivenIndex}
use Rattle.canon_ledger.specs.Ledger.{LedgerState, given, host_resource_lower_own}
use Rattle.canon_ledger.specs.declared.fault.ResourceFault.TheVariants as resource
use Rattle.canon_lower_parts.specs.Blames.{IsElsewhere}
use Rattle.canon_lower_parts.specs.Lowers.{EndsBy, HandlesCross}
use Rattle.canon_lowering.specs.Lowering.{refused}
use Rattle.canon_model.specs.Shape.{Shape, borrow, own}
use Rattle.canon_resources.specs.Held.{Any}
use Rattle.canon_resources.specs.declared.any.ResourceAnyHandle.TheVariants as handle
use Rattle.canon_resources.specs.declared.host.ResourceState.{ResourceState}
use Rattle.canon_resources.specs.declared.host.ResourceState.TheVariants as state
use Rattle.canon_types.specs.Instance.{Instance}
use Rattle.canon_types.specs.Resource.{resource_type_at}
use Rattle.canon_types.specs.declared.resource.ResourceType.{ResourceType}
use Rattle.canon_passing.specs.Passed.{number_given}

-- of a resource, where its type is a handle's
abbrev pub handle_gives : Instance → Shape → Any → List (List Part)
handle_gives i (own r) x = lower_parts i (passed true r x) ∷ []
handle_gives i (borrow r) x = lower_parts i (passed false r x) ∷ []
handle_gives i s x = []

-- what was lent is put into the instance's table, but where the instance defines the type
abbrev pub lent_in : Bool → ℕ → ℕ → List Part
lent_in true p r = []
lent_in false p r = borrow_in p r ∷ []

-- What a resource that the host holds does on its way: its representation is put into the guest's table, and it is borrowed, lent or
-- taken out of the host's table before. One that is in no table and is to be lent is put into the host's first.
abbrev pub host_parts : Bool → Instance → ℕ → ResourceState → ℕ → List Part
host_parts owned i r state.Borrow rep = passed_parts owned i r (handle.Synthetic rep)
host_parts owned i r (state.Index x) rep = passed_parts owned i r (handle.Own x)
host_parts owned i r state.Taken rep = refuse resource.HostConsumed ∷ []
host_parts true i r state.NotInTable rep = tell rep ∷ own_in (table_for i r) r ∷ []
host_parts false i r state.NotInTable rep = tell rep ∷ host_own None None ∷ lend_inserted ∷ lent_in (is_defined_here i r) (table_for i r) r

-- its type is tested first
abbrev pub held_parts : Bool → Instance → ℕ → ResourceType → ResourceState → ℕ → List Part
held_parts owned i r kind state rep = if is_of_type (resource_type_at i r) kind then host_parts owned i r state rep else refuse resource.ResourceTypeMismatch ∷ []

abbrev pub held_gives : ResourceType → ResourceState → ℕ → Instance → Shape → List (List Part)
held_gives kind state rep i (own r) = held_parts true i r kind state rep ∷ []
held_gives kind state rep i (borrow r) = held_parts false i r kind state rep ∷ []
held_gives kind state rep i s = []

-- Where the handle of one is that was in no table and was to be lent: at the index that the host's table gave; or in no table still, where it
-- was refused (`ok` is false) and nothing changed.
abbrev pub IsPutInTable : Bool → ℕ → LedgerState → LedgerState → ResourceState → Type 0
IsPutInTable ok rep before after new =
    ((x : GivenIndex) × ((given before (host_resource_lower_own before rep None None)).answer ≡ Ok x) × (new ≡ state.Index x) × (after ≢ before))
    ⊎ ((ok ≡ false) × (after ≡ before) × (new ≡ state.NotInTable))

-- Where the handle of a resource is after it was lowered or refused; `typed` says whether it is of the wanted type, and `old` where it was. As
-- own, one that was in no table is taken, also where the guest's table refused it. As borrow, it was put into the host's. Every other stays.
abbrev pub StateAfter : Bool → Bool → Bool → ResourceState → ℕ → LedgerState → LedgerState → ResourceState → Type 0
StateAfter true true ok state.NotInTable rep before after new = new ≡ state.Taken
StateAfter true false ok state.NotInTable rep before after new = IsPutInTable ok rep before after new
StateAfter typed owned ok old rep before after new = new ≡ old

abbrev pub HeldAfter : ResourceType → ResourceState → ℕ → Instance → Shape → Bool → LedgerState → LedgerState → ResourceState → Type 0
HeldAfter kind old rep i (own r) ok before after new = StateAfter (is_of_type (resource_type_at i r) kind) true ok old rep before after new
HeldAfter kind old rep i (borrow r) ok before after new = StateAfter (is_of_type (resource_type_at i r) kind) false ok old rep before after new
HeldAfter kind old rep i s ok before after new = new ≡ old

-- the number that the guest is given for a resource, or why it was refused; nothing but the ledger changed
pub record GivesNumber {D G : Type 0} (before after : Parts D G) (gives : List (List Part)) (result : Result ℕ Fault) : Type 0 where
  pub passed : HandlesCross before.ledger after.ledger gives (number_given result) result
  pub only_ledger : after ≡ record before { ledger = after.ledger }
  pub narrow : IfOk result (λ h. h < 2 ^ 32)
  pub refusal : IfErr result (λ e. EndsBy {T = Unit {0}} gives (Err e) refused × IsElsewhere e)
