-- Resources of the host: what they are lifted from is the representation behind a handle of the guest's.
use Rattle.std.proofs.Common.{◌≡◌, Bool, Err, Ok, Option, Result, Some, [], ◌∷◌, false, inr, refl, true, ℕ, None}
use Rattle.canon_context.specs.declared.fault.Fault.{Fault}
use Rattle.canon_resources.proofs.Leaves.{leaves_one}
use Rattle.canon_resources.specs.Parts.{LeafTakes, LeavesStop}
use Rattle.canon_ledger.specs.Ledger.{LedgerState}
use Rattle.canon_model.specs.Leaves.{Leaf, flat_leaves, leaf, reach_leaves}
use Rattle.canon_model.specs.Shape.{Shape, borrow, own}
use Rattle.canon_model.specs.Tree.{Tree, handle}
use Rattle.canon_resources.specs.Held.{HostHandle, held}
use Rattle.canon_resources.specs.declared.host.ResourceState.{ResourceState}
use Rattle.canon_resources.specs.declared.host.ResourceState.TheVariants as state
use Rattle.canon_types.specs.Instance.{Instance}
use Rattle.canon_types.specs.Resource.{resource_type_at}
use Rattle.canon_types.specs.Table.{shape_of}
use Rattle.canon_types.specs.declared.resource.ResourceType.{ResourceType}
use Rattle.canon_types.specs.declared.types.InterfaceType.{InterfaceType}
use Rattle.canon_types.specs.declared.types.InterfaceType.TheVariants as ty
use Rattle.canon_typed.specs.Charges.{free}
use Rattle.canon_typed.specs.Meaning.{IsHandle}
use Rattle.canon_typed.specs.Types.{IsHandleOf, handle_type}
use Rattle.canon_reading.specs.Apart.{IsApart}
use Rattle.canon_reading.specs.Handles.{IsRefusal, borrow_represents, leaf_at, own_represents}
use Rattle.canon_reading.specs.OfTrees.{AreSteps, IsFaulted, IsOfTrees, IsPriced}
use Rattle.canon_reading.specs.Reading.{AreTaken, Reading, Setting}
use Rattle.canon_context.specs.Faults.{stop_of}
use Rattle.canon_reading.specs.Spots.{HasRoom, Represents, Spot, flat_in, handle_in, stored}
use Rattle.canon_reading.specs.Ways.{rep_parts}
use Rattle.std.proofs.lemmas.Option.{none-some}

-- a lifted own is in no table of the host, and a borrow has no handle there either
abbrev pub lifted_state : Bool → ResourceState
lifted_state true = state.NotInTable
lifted_state false = state.Borrow

-- It is the resource of a type of the kind, own or borrowed, and a representation.
abbrev pub IsMadeBy : {D : Type 0} → (ResourceType → Option D) → ResourceType → Bool → ℕ → HostHandle D → Type 0
IsMadeBy {D} checked kind owned rep v = (d : D) × (checked kind ≡ Some d) × (v ≡ held (lifted_state owned) rep d)

-- the kind takes this type
abbrev pub IsOfKind : {D : Type 0} → (ResourceType → Option D) → ResourceType → Type 0
IsOfKind {D} checked kind = (d : D) × (checked kind ≡ Some d)

-- a handle of a resource type that is wanted
abbrev pub IsHandleWith : (ResourceType → Type 0) → Instance → InterfaceType → Type 0
IsHandleWith Wanted i type = (kind : ResourceType) × (handle_type i type ≡ Some kind) × Wanted kind

-- the resource that is made of a representation, of the type of the handle
abbrev pub IsHeldOf : {A : Type 0} → (ResourceType → Bool → ℕ → A → Type 0) → Instance → Leaf → ℕ → A → Type 0
IsHeldOf Made i leaf rep v = (kind : ResourceType) × (resource_type_at i leaf.resource ≡ Some kind) × Made kind leaf.owned rep v

abbrev pub HeldReads : {A : Type 0} → (ResourceType → Bool → ℕ → A → Type 0) → Setting → Spot → Shape → LedgerState → A → LedgerState → Type 0
HeldReads Made w at s before v after = HasRoom w.memory at s
    × ((rep : ℕ) × IsHeldOf Made w.types (leaf_at w.memory at s) rep v × LeafTakes before (rep_parts w.types (leaf_at w.memory at s)) rep after)

abbrev pub held_reading : {A : Type 0} → (ResourceType → Bool → ℕ → A → Type 0) → Reading A
held_reading Made = record {
  reads = HeldReads Made;
  faults = λ w at s k x. ⊥;
  reach = λ w at s. 0;
  steps = λ w at s. rep_parts w.types (leaf_at w.memory at s) ∷ [];
  allocates = true;
}

-- the representation behind a handle was taken or lent, or why not
abbrev pub RepLifts : Instance → LedgerState → LedgerState → Leaf → Result ℕ Fault → Type 0
RepLifts i l l2 leaf (Ok rep) = LeafTakes l (rep_parts i leaf) rep l2
RepLifts i l l2 leaf (Err e) = LeavesStop (stop_of e) l (rep_parts i leaf ∷ []) l2 × IsRefusal e

-- the same of the resource
abbrev pub HeldLifts : {A : Type 0} → (ResourceType → Bool → ℕ → A → Type 0) → Instance → LedgerState → LedgerState → Leaf → Result A Fault → Type 0
HeldLifts Made i l l2 leaf (Ok v) = (rep : ℕ) × IsHeldOf Made i leaf rep v × LeafTakes l (rep_parts i leaf) rep l2
HeldLifts Made i l l2 leaf (Err e) = LeavesStop (stop_of e) l (rep_parts i leaf ∷ []) l2 × IsRefusal e

own_rep : (w : Setting) (at : Spot) (r : ℕ) → AreSteps w at (own r) (rep_parts w.types (leaf true r (handle_in w.memory at)) ∷ [])
unfolding reach_leaves flat_leaves
own_rep w (stored a) r = (inr refl, tt)
own_rep w (flat_in ws i) r = (inr refl, tt)

borrow_rep : (w : Setting) (at : Spot) (r : ℕ) → AreSteps w at (borrow r) (rep_parts w.types (leaf false r (handle_in w.memory at)) ∷ [])
unfolding reach_leaves flat_leaves
borrow_rep w (stored a) r = (inr refl, tt)
borrow_rep w (flat_in ws i) r = (inr refl, tt)

-- a type that isn't a handle's has no resource type
pub no_type : {A X : Type 0} {x : X} → None ≡ Some x → A
no_type {A} {X} {x} e = absurd (none-some x e)

pub held_taken : {A : Type 0} (Made : ResourceType → Bool → ℕ → A → Type 0) → AreTaken (held_reading Made)
held_taken Made w at s before after v (room, (rep, is, takes)) = (rep ∷ [], leaves_one before after (rep_parts w.types (leaf_at w.memory at s)) rep takes)

pub held_apart : {A : Type 0} (Made : ResourceType → Bool → ℕ → A → Type 0) → IsApart (held_reading Made)
held_apart Made = record { apart = λ w at s before after v k x h f. f }

pub held_faulted : {A : Type 0} {Fit : Instance → InterfaceType → Type 0} (Made : ResourceType → Bool → ℕ → A → Type 0) → IsFaulted Fit (held_reading Made)
held_faulted Made = record { faults = λ w at type k x f h. absurd h }

pub held_priced : {A : Type 0} {Fit : Instance → InterfaceType → Type 0} (Made : ResourceType → Bool → ℕ → A → Type 0) → IsPriced Fit (held_reading Made) free
held_priced Made = record { reach = λ w at type t f rep. refl }

module _ {D : Type 0} (checked : ResourceType → Option D) where
  held_reads : (w : Setting) (at : Spot) (type : InterfaceType) (before after : LedgerState) (v : HostHandle D) → IsHandleOf checked w.types type
      → HeldReads (IsMadeBy checked) w at (shape_of w.types.types type) before v after → (t : Tree) × Represents w.memory w.encoding at (shape_of w.types.types type) t × IsHandle t
  held_reads w at (ty.Own r) before after v f (room, h) = (handle (handle_in w.memory at), own_represents w at r room, (handle_in w.memory at, refl))
  held_reads w at (ty.Borrow r) before after v f (room, h) = (handle (handle_in w.memory at), borrow_represents w at r room, (handle_in w.memory at, refl))
  held_reads w at _ before after v (kind, d, none, is) h = no_type none

  held_walked : (w : Setting) (at : Spot) (type : InterfaceType) → IsHandleOf checked w.types type
      → AreSteps w at (shape_of w.types.types type) ((held_reading (IsMadeBy checked)).steps w at (shape_of w.types.types type))
  held_walked w at (ty.Own r) f = own_rep w at r
  held_walked w at (ty.Borrow r) f = borrow_rep w at r
  held_walked w at _ (kind, d, none, is) = no_type none

  pub held_told : IsOfTrees (IsHandleOf checked) (held_reading (IsMadeBy checked)) (λ v. IsHandle)
  held_told = record { reads = held_reads; steps = held_walked }
