-- Handles through the ledger, one by one.
use Rattle.std.proofs.Common.{◌≡◌, ◌≤◌, ◌<◌, ◌+◌, Err, List, Ok, Option, Result, [], ◌∷◌, ap, arith, false, inl, inr, length, refl, subst, sym, ℕ}
use Rattle.canon_context.proofs.LedgerSteps.{partway_after, through_after}
use Rattle.canon_context.specs.Faults.{resource_fault, stop_of}
use Rattle.canon_context.specs.Lifter.{IsAfterSteps}
use Rattle.canon_context.specs.Told.{LiftBlames}
use Rattle.canon_context.specs.declared.fault.At.{At as Place}
use Rattle.canon_context.specs.declared.fault.Fault.{Fault}
use Rattle.canon_resources.proofs.Leaves.{leaves_one, leaves_stop_one}
use Rattle.canon_resources.proofs.Through.{leaves_partway, leaves_through}
use Rattle.canon_resources.specs.Parts.{LeafLifts, LeafTakes, LeavesStop, Part, Stops, lift_parts, refusal_of}
use Rattle.canon_resources.specs.Steps.{leaves_steps}
use Rattle.canon_ledger.specs.Ledger.{LedgerState}
use Rattle.canon_ledger.specs.declared.fault.ResourceFault.{ResourceFault}
use Rattle.canon_ledger.specs.declared.fault.ResourceFault.TheVariants as resource
use Rattle.canon_model.specs.Layout.{size}
use Rattle.canon_model.specs.Leaves.{Leaf}
use Rattle.canon_model.specs.Memory.{Memory}
use Rattle.canon_model.specs.Reach.{Kind}
use Rattle.canon_model.specs.Shape.{Shape}
use Rattle.canon_resources.specs.Held.{Any}
use Rattle.canon_types.specs.Instance.{Instance}
use Rattle.canon_types.specs.Table.{shape_of}
use Rattle.canon_types.specs.declared.types.InterfaceType.{InterfaceType}
use Rattle.canon_types.specs.declared.types.InterfaceType.TheVariants as ty
use Rattle.canon_typed.specs.Types.{IsHandleType}
use Rattle.canon_reading.specs.Handles.{HandleLifts, IsRefusal, any_reading, leaf_at, leaf_of}
use Rattle.canon_reading.specs.Reading.{Lifts, NamedBy, Setting}
use Rattle.canon_reading.specs.Spots.{HasRoom, Spot, handle_in}

-- what was done to the ledger
pub lift_took_steps : (l n : LedgerState) (ps : List Part) (h : ℕ) → LeafTakes l ps h n → IsAfterSteps l n
lift_took_steps l n ps h takes = through_after l n (leaves_steps l (ps ∷ [])) (leaves_through l n (ps ∷ []) (h ∷ []) (leaves_one l n ps h takes))

pub stopped_steps : (l n : LedgerState) (ps : List Part) (why : Option ResourceFault) → ((last : ℕ) → Stops why last l ps n) → IsAfterSteps l n
stopped_steps l n ps why stops = partway_after l n (leaves_steps l (ps ∷ [])) (leaves_partway why l n (ps ∷ []) (leaves_stop_one why l n ps stops))

pub lifted_steps : (i : Instance) (l n : LedgerState) (leaf : Leaf) (r : Result Any ResourceFault) → LeafLifts i l n leaf r → IsAfterSteps l n
lifted_steps i l n leaf (Ok x) (h, is, takes) = lift_took_steps l n (lift_parts i leaf) h takes
lifted_steps i l n leaf (Err e) stops = stopped_steps l n (lift_parts i leaf) (refusal_of e) stops

-- a refusal of the ledger, or out of memory
pub is_refusal : (e : ResourceFault) → IsRefusal (resource_fault e)
is_refusal resource.OutOfMemory = inl refl
is_refusal (resource.UnknownHandle k) = inr (_, refl, refl)
is_refusal (resource.NotAResource k) = inr (_, refl, refl)
is_refusal resource.ResourceTypeMismatch = inr (_, refl, refl)
is_refusal (resource.StillLent k) = inr (_, refl, refl)
is_refusal (resource.TooManyLends k) = inr (_, refl, refl)
is_refusal resource.HandleLimit = inr (_, refl, refl)
is_refusal resource.IndexOverflow = inr (_, refl, refl)
is_refusal resource.BorrowAsOwn = inr (_, refl, refl)
is_refusal resource.HostConsumed = inr (_, refl, refl)
is_refusal resource.HostDeallocated = inr (_, refl, refl)
is_refusal resource.GenerationExhausted = inr (_, refl, refl)
is_refusal resource.BorrowsRemain = inr (_, refl, refl)
is_refusal resource.NoScope = inr (_, refl, refl)

pub stops_so : (e : ResourceFault) → stop_of (resource_fault e) ≡ refusal_of e
stops_so resource.OutOfMemory = refl
stops_so (resource.UnknownHandle k) = refl
stops_so (resource.NotAResource k) = refl
stops_so resource.ResourceTypeMismatch = refl
stops_so (resource.StillLent k) = refl
stops_so (resource.TooManyLends k) = refl
stops_so resource.HandleLimit = refl
stops_so resource.IndexOverflow = refl
stops_so resource.BorrowAsOwn = refl
stops_so resource.HostConsumed = refl
stops_so resource.HostDeallocated = refl
stops_so resource.GenerationExhausted = refl
stops_so resource.BorrowsRemain = refl
stops_so resource.NoScope = refl

pub lift_handle_refused : (i : Instance) (l n : LedgerState) (leaf : Leaf) (e : ResourceFault) → ((last : ℕ) → Stops (refusal_of e) last l (lift_parts i leaf) n) → HandleLifts i l n leaf (Err (resource_fault e))
lift_handle_refused i l n leaf e stops = (subst (λ (why : Option ResourceFault). LeavesStop why l (lift_parts i leaf ∷ []) n) (sym (stops_so e)) (leaves_stop_one (refusal_of e) l n (lift_parts i leaf) stops), is_refusal e)

-- ---- in memory

handle_bytes : (t : Instance) (type : InterfaceType) → IsHandleType t type → size false (shape_of t.types type) ≡ 4
unfolding size
handle_bytes t (ty.Own r) f = refl
handle_bytes t (ty.Borrow r) f = refl
handle_bytes t _ f = absurd f

pub lift_handle_room : (t : Instance) (type : InterfaceType) (bytes memory : List ℕ) (at : ℕ) → IsHandleType t type → at + size false (shape_of t.types type) ≤ length memory → bytes ≡ memory → at + 4 ≤ length bytes
lift_handle_room t type bytes memory at f inside same = omega (arith, inside, handle_bytes t type f, ap length same)

pub same_leaf : (t : Instance) (m : Memory) (at : Spot) (type : InterfaceType) (n : ℕ) → IsHandleType t type → n ≡ handle_in m at → leaf_of type n ≡ leaf_at m at (shape_of t.types type)
same_leaf t m at (ty.Own r) n f e = ap (λ k. leaf_of (ty.Own r) k) e
same_leaf t m at (ty.Borrow r) n f e = ap (λ k. leaf_of (ty.Borrow r) k) e
same_leaf t m at _ n f e = absurd f

-- a refusal of the ledger blames no place
pub blames_none : (F : Kind → Place → Type 0) (Low : Type 0) (e : Fault) → IsRefusal e → LiftBlames F Low e
blames_none F Low e (inl is) = subst (λ x. LiftBlames F Low x) (sym is) tt
blames_none F Low e (inr (r, is, as_is)) = subst (λ x. LiftBlames F Low x) (sym is) as_is

module _ (w : Setting) (at : Spot) (type : InterfaceType) (n : ℕ) (before after : LedgerState) (fuel left : ℕ) (f : IsHandleType w.types type) (number : n ≡ handle_in w.memory at)
    (room : HasRoom w.memory at (shape_of w.types.types type)) (same : left ≡ fuel) where
  abbrev s : Shape
  s = shape_of w.types.types type

  lifted : (r : Result Any Fault) → HandleLifts w.types before after (leaf_at w.memory at s) r → Lifts any_reading w at s before fuel r after left
  lifted (Ok x) taken = ((room, taken), omega (arith, same))
  lifted (Err e) (stops, why) =
      record { cause = blames_none (NamedBy at (any_reading.faults w at s)) (fuel < any_reading.reach w at s) e why; memory = λ oom. refl; stops = stops; falls = omega (arith, same) }

  pub any_lifts : (r : Result Any Fault) → HandleLifts w.types before after (leaf_of type n) r → Lifts any_reading w at s before fuel r after left
  any_lifts r h = lifted r (subst (λ (l : Leaf). HandleLifts w.types before after l r) (same_leaf w.types w.memory at type n f number) h)
