-- The resource whose handle stands in memory or in a word.
use Rattle.std.proofs.Common.{Bool, Err, IfErr, IfOk, Ok, Result, Some, List, [], ap, arith, false, inl, inr, length, refl, subst, sym, true, ℕ, ◌+◌, ◌<◌, ◌∷◌, ◌≡◌, ◌≤◌, ◌∙◌, ◌⊎◌}
use Rattle.std.specs.Prelude.{slice_index}
use Rattle.canon_context.proofs.Told.{core_on_ok}
use Rattle.canon_context.specs.Told.{LiftBlames, ToldAt}
use Rattle.canon_context.specs.declared.fault.At.{At}
use Rattle.canon_context.specs.declared.fault.Fault.{Fault}
use Rattle.canon_context.specs.declared.fault.Fault.TheVariants as fault
use Rattle.canon_resources.proofs.Leaves.{leaves_stop_one}
use Rattle.canon_resources.proofs.Lifts.{lifts_one}
use Rattle.canon_resources.specs.Parts.{LeafLifts, LeavesLift, lift_parts, refusal_of}
use Rattle.canon_ledger.specs.Ledger.{LedgerState}
use Rattle.canon_ledger.specs.declared.fault.ResourceFault.{ResourceFault}
use Rattle.canon_ledger.specs.declared.fault.ResourceFault.TheVariants as resource
use Rattle.canon_lowering.specs.Storing.{narrow}
use Rattle.canon_model.specs.Cost.{cost}
use Rattle.canon_model.specs.Layout.{flat, size}
use Rattle.canon_model.specs.Leaves.{Leaf, flat_leaves, leaf, reach_leaves}
use Rattle.canon_model.specs.Memory.{Memory, low, num}
use Rattle.canon_model.specs.Reach.{FlatFault, Kind, flat_reach}
use Rattle.canon_model.specs.Shape.{Shape}
use Rattle.canon_model.specs.Text.{Encoding}
use Rattle.canon_model.specs.Tree.{handle}
use Rattle.canon_plan.specs.NoHandle.{IsScalarType}
use Rattle.canon_plan.specs.Plan.{shaped_handle, type_of_handle, typed_handle}
use Rattle.canon_plan.specs.declared.plan.HandleType.{HandleType}
use Rattle.canon_resources.specs.Held.{Any}
use Rattle.canon_types.specs.Instance.{Instance}
use Rattle.canon_types.specs.Table.{HasResource, Knows, TypeTable, shape_of}
use Rattle.canon_types.specs.declared.types.InterfaceType.{InterfaceType}
use Rattle.canon_value_parts.proofs.ResourcesOf.{resources_resource}
use Rattle.canon_value_parts.specs.Lifts.{IsOfWords, LiftsTo}
use Rattle.canon_value_parts.specs.Loads.{IsLoaded}
use Rattle.canon_passing.specs.Passed.{LiftsHandles, told_fault}
use Rattle.canon_value_parts.specs.Resources.{TakesHandle, resources}
use Rattle.canon_val.specs.declared.val.Val.{Val}
use Rattle.canon_val.specs.declared.val.Val.TheVariants as val
use Rattle.canon_passing.proofs.Shapes.{handle_flat, handle_size}

-- ---- types

handle_has : (t : TypeTable) (owned : Bool) (r : ℕ) → Knows t (typed_handle owned r) → HasResource t r
handle_has t true r h = grind (arith, h)
handle_has t false r h = grind (arith, h)

pub has_resource : (t : TypeTable) (h : HandleType) → Knows t (type_of_handle h) → HasResource t h.resource
has_resource t h known = handle_has t h.owned h.resource known

shaped : (t : TypeTable) (owned : Bool) (r : ℕ) → shape_of t (typed_handle owned r) ≡ shaped_handle owned r
shaped t true r = refl
shaped t false r = refl

no_scalar : (owned : Bool) (r : ℕ) → IsScalarType (typed_handle owned r) → ⊥
no_scalar true r (k, e) = cc
no_scalar false r (k, e) = cc

pub handle_no_scalar : (type : InterfaceType) (h : HandleType) → type ≡ type_of_handle h → IsScalarType type → ⊥
handle_no_scalar type h is scalar = no_scalar h.owned h.resource (subst IsScalarType is scalar)

pub handle_shape : (t : TypeTable) (type : InterfaceType) (h : HandleType) → type ≡ type_of_handle h → shape_of t type ≡ shaped_handle h.owned h.resource
handle_shape t type h is = ap (λ (x : InterfaceType). shape_of t x) is ∙ shaped t h.owned h.resource

pub handle_bytes : (t : TypeTable) (type : InterfaceType) (h : HandleType) → type ≡ type_of_handle h → size false (shape_of t type) ≡ 4
handle_bytes t type h is = ap (size false) (handle_shape t type h is) ∙ handle_size h.owned h.resource

pub handle_words : (t : TypeTable) (type : InterfaceType) (h : HandleType) → type ≡ type_of_handle h → flat (shape_of t type) ≡ 1
handle_words t type h is = ap flat (handle_shape t type h is) ∙ handle_flat h.owned h.resource

-- ---- through the ledger

stopped : (types : Instance) (before after : LedgerState) (l : Leaf) (e : ResourceFault) → LeafLifts types before after l (Err e) → TakesHandle types before after l (Err (told_fault (fault.Resource e)))
stopped types before after l resource.OutOfMemory h = record { lifts = leaves_stop_one (refusal_of resource.OutOfMemory) before after (lift_parts types l) h; is = tt; refusal = inl refl }
stopped types before after l (resource.UnknownHandle n) h = record { lifts = leaves_stop_one (refusal_of (resource.UnknownHandle n)) before after (lift_parts types l) h; is = tt; refusal = inr ((resource.UnknownHandle n), refl, refl) }
stopped types before after l (resource.NotAResource n) h = record { lifts = leaves_stop_one (refusal_of (resource.NotAResource n)) before after (lift_parts types l) h; is = tt; refusal = inr ((resource.NotAResource n), refl, refl) }
stopped types before after l resource.ResourceTypeMismatch h =
    record { lifts = leaves_stop_one (refusal_of resource.ResourceTypeMismatch) before after (lift_parts types l) h; is = tt; refusal = inr (resource.ResourceTypeMismatch, refl, refl) }
stopped types before after l (resource.StillLent n) h = record { lifts = leaves_stop_one (refusal_of (resource.StillLent n)) before after (lift_parts types l) h; is = tt; refusal = inr ((resource.StillLent n), refl, refl) }
stopped types before after l (resource.TooManyLends n) h = record { lifts = leaves_stop_one (refusal_of (resource.TooManyLends n)) before after (lift_parts types l) h; is = tt; refusal = inr ((resource.TooManyLends n), refl, refl) }
stopped types before after l resource.HandleLimit h = record { lifts = leaves_stop_one (refusal_of resource.HandleLimit) before after (lift_parts types l) h; is = tt; refusal = inr (resource.HandleLimit, refl, refl) }
stopped types before after l resource.IndexOverflow h = record { lifts = leaves_stop_one (refusal_of resource.IndexOverflow) before after (lift_parts types l) h; is = tt; refusal = inr (resource.IndexOverflow, refl, refl) }
stopped types before after l resource.BorrowAsOwn h = record { lifts = leaves_stop_one (refusal_of resource.BorrowAsOwn) before after (lift_parts types l) h; is = tt; refusal = inr (resource.BorrowAsOwn, refl, refl) }
stopped types before after l resource.HostConsumed h = record { lifts = leaves_stop_one (refusal_of resource.HostConsumed) before after (lift_parts types l) h; is = tt; refusal = inr (resource.HostConsumed, refl, refl) }
stopped types before after l resource.HostDeallocated h = record { lifts = leaves_stop_one (refusal_of resource.HostDeallocated) before after (lift_parts types l) h; is = tt; refusal = inr (resource.HostDeallocated, refl, refl) }
stopped types before after l resource.GenerationExhausted h =
    record { lifts = leaves_stop_one (refusal_of resource.GenerationExhausted) before after (lift_parts types l) h; is = tt; refusal = inr (resource.GenerationExhausted, refl, refl) }
stopped types before after l resource.BorrowsRemain h = record { lifts = leaves_stop_one (refusal_of resource.BorrowsRemain) before after (lift_parts types l) h; is = tt; refusal = inr (resource.BorrowsRemain, refl, refl) }
stopped types before after l resource.NoScope h = record { lifts = leaves_stop_one (refusal_of resource.NoScope) before after (lift_parts types l) h; is = tt; refusal = inr (resource.NoScope, refl, refl) }

-- the resource, or why not, as callers see it
pub handle_taken : (types : Instance) (before after : LedgerState) (l : Leaf) (x : Any) → LeafLifts types before after l (Ok x) → TakesHandle types before after l (Ok (val.Resource x))
handle_taken types before after l x h = record {
  lifts = subst (λ (xs : List Any). LeavesLift types before (l ∷ []) xs after) (sym (resources_resource x)) (lifts_one types before after l x h);
  is = (x, refl);
  refusal = tt;
}

pub handle_refused : (types : Instance) (before after : LedgerState) (l : Leaf) (e : ResourceFault) (f : Fault) → LeafLifts types before after l (Err e) → f ≡ told_fault (fault.Resource e) → TakesHandle types before after l (Err f)
handle_refused types before after l e f h is = subst (λ (g : Fault). TakesHandle types before after l (Err g)) (sym is) (stopped types before after l e h)

told_so : (F : Kind → At → Type 0) (Low : Type 0) (e : Fault) → (e ≡ fault.OutOfMemory) ⊎ ((r : ResourceFault) × (e ≡ fault.Resource r) × (refusal_of r ≡ Some r)) → LiftBlames F Low e
told_so F Low e (inl is) = subst (λ (x : Fault). LiftBlames F Low x) (sym is) tt
told_so F Low e (inr (r, is, refused)) = subst (λ (x : Fault). LiftBlames F Low x) (sym is) refused

module _ (types : Instance) (before after : LedgerState) where
  -- its fault is the ledger's, or out of memory
  pub handle_blamed : (F : Kind → At → Type 0) (Low : Type 0) (l : Leaf) (r : Result Val Fault) → TakesHandle types before after l r → IfErr r (LiftBlames F Low)
  handle_blamed F Low l (Ok v) h = tt
  handle_blamed F Low l (Err e) h = told_so F Low e h.refusal

  -- ---- in memory

  module _ (bytes : List ℕ) (a : ℕ) where
    loaded_so : (enc : Encoding) (fuel : ℕ) (owned : Bool) (r : ℕ) (v : Val) → a + 4 ≤ length bytes → (x : Any) × (v ≡ val.Resource x) → IsLoaded enc (narrow bytes) (shaped_handle owned r) a fuel fuel v
    unfolding cost
    loaded_so enc fuel true r v inside (x, is) = (handle (num (narrow bytes) a 4), (inside, refl), (x, num (narrow bytes) a 4, is, refl), omega arith)
    loaded_so enc fuel false r v inside (x, is) = (handle (num (narrow bytes) a 4), (inside, refl), (x, num (narrow bytes) a 4, is, refl), omega arith)

    leaves_so : (owned : Bool) (r : ℕ) → reach_leaves (narrow bytes) (shaped_handle owned r) a ≡ leaf owned r (num (narrow bytes) a 4) ∷ []
    unfolding reach_leaves
    leaves_so true r = refl
    leaves_so false r = refl

    module _ (t : TypeTable) (type : InterfaceType) (h : HandleType) (is : type ≡ type_of_handle h) (r : Result Val Fault) (takes : TakesHandle types before after (leaf h.owned h.resource (num (narrow bytes) a 4)) r) where
      pub handle_loaded : (enc : Encoding) (fuel : ℕ) → a + size false (shape_of t type) ≤ length bytes → IfOk r (IsLoaded enc (narrow bytes) (shape_of t type) a fuel fuel)
      handle_loaded enc fuel inside =
          let room : a + 4 ≤ length bytes = omega (arith, inside, handle_bytes t type h is) in
          core_on_ok r (λ v. (x : Any) × (v ≡ val.Resource x)) (IsLoaded enc (narrow bytes) (shape_of t type) a fuel fuel)
          (λ v one. subst (λ (s : Shape). IsLoaded enc (narrow bytes) s a fuel fuel v) (sym (handle_shape t type h is)) (loaded_so enc fuel h.owned h.resource v room one)) takes.is

      pub handle_lifts : LiftsHandles resources types before after (reach_leaves (narrow bytes) (shape_of t type) a) r
      handle_lifts =
          subst (λ (ls : List Leaf). LiftsHandles resources types before after ls r) (sym (ap (λ (s : Shape). reach_leaves (narrow bytes) s a) (handle_shape t type h is) ∙ leaves_so h.owned h.resource)) takes.lifts

  -- ---- in a word

  module _ (m : Memory) (ws : List ℕ) (i : ℕ) where
    lifted_so : (enc : Encoding) (fuel : ℕ) (owned : Bool) (r : ℕ) (v : Val) → (x : Any) × (v ≡ val.Resource x) → IsOfWords enc m (shaped_handle owned r) ws i fuel fuel v
    unfolding cost
    lifted_so enc fuel true r v (x, is) = (handle (low (slice_index ws i)), (refl, λ strict. cc), (x, low (slice_index ws i), is, refl), omega arith)
    lifted_so enc fuel false r v (x, is) = (handle (low (slice_index ws i)), (refl, λ strict. cc), (x, low (slice_index ws i), is, refl), omega arith)

    flat_leaves_so : (owned : Bool) (r : ℕ) → flat_leaves m ws (shaped_handle owned r) i ≡ leaf owned r (low (slice_index ws i)) ∷ []
    unfolding flat_leaves
    flat_leaves_so true r = refl
    flat_leaves_so false r = refl

    module _ (t : TypeTable) (type : InterfaceType) (h : HandleType) (is : type ≡ type_of_handle h) where
      pub handle_lifted : (enc : Encoding) (fuel to : ℕ) (r : Result Val Fault) → TakesHandle types before after (leaf h.owned h.resource (low (slice_index ws i))) r → to ≡ i + 1 → LiftsTo enc m ws i to fuel fuel (shape_of t type) r
      handle_lifted enc fuel to (Ok v) takes moved =
          (subst (λ (s : Shape). IsOfWords enc m s ws i fuel fuel v) (sym (handle_shape t type h is)) (lifted_so enc fuel h.owned h.resource v takes.is), omega (arith, moved, handle_words t type h is))
      handle_lifted enc fuel to (Err e) takes moved = told_so (ToldAt (FlatFault enc m ws (shape_of t type) i)) (fuel < flat_reach enc m ws (shape_of t type) i) e takes.refusal

      pub handle_flat_lifts : (r : Result Val Fault) → TakesHandle types before after (leaf h.owned h.resource (low (slice_index ws i))) r → LiftsHandles resources types before after (flat_leaves m ws (shape_of t type) i) r
      handle_flat_lifts r takes =
          subst (λ (ls : List Leaf). LiftsHandles resources types before after ls r) (sym (ap (λ (s : Shape). flat_leaves m ws s i) (handle_shape t type h is) ∙ flat_leaves_so h.owned h.resource)) takes.lifts
