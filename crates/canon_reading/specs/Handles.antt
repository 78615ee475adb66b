-- Handles, which go through the ledger.
use Rattle.std.specs.Prelude.{◌≡◌, ◌⊎◌, Err, Ok, Result, Some, [], ◌∷◌, false, refl, true, ℕ}
use Rattle.std.proofs.Common.{inl}
use Rattle.canon_context.specs.declared.fault.Fault.{Fault}
use Rattle.canon_context.specs.declared.fault.Fault.TheVariants as fault
use Rattle.canon_resources.proofs.Leaves.{leaves_one}
use Rattle.canon_resources.specs.Parts.{LeafTakes, LeavesStop, lift_parts, lifted_any, refusal_of}
use Rattle.canon_ledger.specs.Ledger.{LedgerState}
use Rattle.canon_ledger.specs.declared.fault.ResourceFault.{ResourceFault}
use Rattle.canon_model.specs.Layout.{size}
use Rattle.canon_model.specs.Leaves.{Leaf, leaf, flat_leaves, reach_leaves}
use Rattle.canon_model.specs.Memory.{Memory}
use Rattle.canon_model.specs.Shape.{Shape, borrow, own}
use Rattle.canon_model.specs.Tree.{Tree, handle}
use Rattle.canon_resources.specs.Held.{Any}
use Rattle.canon_types.specs.Instance.{Instance}
use Rattle.canon_types.specs.Table.{shape_of}
use Rattle.canon_types.specs.declared.types.InterfaceType.{InterfaceType}
use Rattle.canon_types.specs.declared.types.InterfaceType.TheVariants as ty
use Rattle.canon_typed.specs.Charges.{free}
use Rattle.canon_typed.specs.Meaning.{IsHandle}
use Rattle.canon_typed.specs.Types.{IsHandleType}
use Rattle.canon_reading.specs.OfTrees.{IsFaulted, IsOfTrees, IsPriced, AreSteps}
use Rattle.canon_reading.specs.Reading.{AreTaken, Reading, Setting}
use Rattle.canon_context.specs.Faults.{stop_of}
use Rattle.canon_reading.specs.Spots.{HasRoom, Represents, Spot, flat_in, handle_in, stored}
use Rattle.canon_reading.specs.Apart.{IsApart}

-- the handle of a type by its number
abbrev pub leaf_of : InterfaceType → ℕ → Leaf
leaf_of (ty.Own r) n = leaf true r n
leaf_of (ty.Borrow r) n = leaf false r n
leaf_of _ n = leaf false 0 n

abbrev pub leaf_at : Memory → Spot → Shape → Leaf
leaf_at m at (own r) = leaf true r (handle_in m at)
leaf_at m at (borrow r) = leaf false r (handle_in m at)
leaf_at m at _ = leaf false 0 (handle_in m at)

-- why a handle was not lifted: the ledger refused it, or memory ran out
abbrev pub IsRefusal : Fault → Type 0
IsRefusal e = (e ≡ fault.OutOfMemory) ⊎ ((r : ResourceFault) × (e ≡ fault.Resource r) × (refusal_of r ≡ Some r))

-- a handle was lifted to a resource that carries its type, or why not
abbrev pub HandleLifts : Instance → LedgerState → LedgerState → Leaf → Result Any Fault → Type 0
HandleLifts i l l2 leaf (Ok x) = (h : ℕ) × (x ≡ lifted_any i l leaf h) × LeafTakes l (lift_parts i leaf) h l2
HandleLifts i l l2 leaf (Err e) = LeavesStop (stop_of e) l (lift_parts i leaf ∷ []) l2 × IsRefusal e

-- the resource that the host is given for the handle that stands there
abbrev pub AnyReads : Setting → Spot → Shape → LedgerState → Any → LedgerState → Type 0
AnyReads w at s before v after = HasRoom w.memory at s × ((h : ℕ) × (v ≡ lifted_any w.types before (leaf_at w.memory at s) h) × LeafTakes before (lift_parts w.types (leaf_at w.memory at s)) h after)

abbrev pub any_reading : Reading Any
any_reading = record {
  reads = AnyReads;
  faults = λ w at s k x. ⊥;
  reach = λ w at s. 0;
  steps = λ w at s. lift_parts w.types (leaf_at w.memory at s) ∷ [];
  allocates = true;
}

pub any_taken : AreTaken any_reading
any_taken w at s before after v (room, (h, is, takes)) = (h ∷ [], leaves_one before after (lift_parts w.types (leaf_at w.memory at s)) h takes)

pub own_represents : (w : Setting) (at : Spot) (r : ℕ) → HasRoom w.memory at (own r) → Represents w.memory w.encoding at (own r) (handle (handle_in w.memory at))
unfolding size
own_represents w (stored a) r room = (room, refl)
own_represents w (flat_in ws i) r room = (refl, λ g. cc)

pub borrow_represents : (w : Setting) (at : Spot) (r : ℕ) → HasRoom w.memory at (borrow r) → Represents w.memory w.encoding at (borrow r) (handle (handle_in w.memory at))
unfolding size
borrow_represents w (stored a) r room = (room, refl)
borrow_represents w (flat_in ws i) r room = (refl, λ g. cc)

any_reads : (w : Setting) (at : Spot) (type : InterfaceType) (before after : LedgerState) (v : Any) → IsHandleType w.types type → AnyReads w at (shape_of w.types.types type) before v after
    → (t : Tree) × Represents w.memory w.encoding at (shape_of w.types.types type) t × IsHandle t
any_reads w at (ty.Own r) before after v f (room, h) = (handle (handle_in w.memory at), own_represents w at r room, (handle_in w.memory at, refl))
any_reads w at (ty.Borrow r) before after v f (room, h) = (handle (handle_in w.memory at), borrow_represents w at r room, (handle_in w.memory at, refl))
any_reads w at _ before after v f h = absurd f

own_walked : (w : Setting) (at : Spot) (r : ℕ) → AreSteps w at (own r) (lift_parts w.types (leaf true r (handle_in w.memory at)) ∷ [])
unfolding reach_leaves flat_leaves
own_walked w (stored a) r = (inl refl, tt)
own_walked w (flat_in ws i) r = (inl refl, tt)

borrow_walked : (w : Setting) (at : Spot) (r : ℕ) → AreSteps w at (borrow r) (lift_parts w.types (leaf false r (handle_in w.memory at)) ∷ [])
unfolding reach_leaves flat_leaves
borrow_walked w (stored a) r = (inl refl, tt)
borrow_walked w (flat_in ws i) r = (inl refl, tt)

any_walked : (w : Setting) (at : Spot) (type : InterfaceType) → IsHandleType w.types type → AreSteps w at (shape_of w.types.types type) (any_reading.steps w at (shape_of w.types.types type))
any_walked w at (ty.Own r) f = own_walked w at r
any_walked w at (ty.Borrow r) f = borrow_walked w at r
any_walked w at _ f = absurd f

pub any_faulted : IsFaulted IsHandleType any_reading
any_faulted = record { faults = λ w at type k x f h. absurd h }

pub any_apart : IsApart any_reading
any_apart = record { apart = λ w at s before after v k x h f. f }

pub any_priced : IsPriced IsHandleType any_reading free
any_priced = record { reach = λ w at type t f rep. refl }

pub any_told : IsOfTrees IsHandleType any_reading (λ v. IsHandle)
any_told = record { reads = any_reads; steps = any_walked }
