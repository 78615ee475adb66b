-- The representations behind handles, one by one.
use Rattle.std.proofs.Common.{◌≡◌, ◌<◌, Bool, Err, Ok, Option, Result, [], ◌∷◌, arith, false, inl, refl, subst, sym, true, ℕ}
use Rattle.canon_context.specs.Faults.{resource_fault}
use Rattle.canon_context.specs.Lifter.{IsAfterSteps}
use Rattle.canon_context.specs.declared.fault.Fault.{Fault}
use Rattle.canon_resources.proofs.Leaves.{leaves_stop_one}
use Rattle.canon_resources.proofs.Moves.{moves_one}
use Rattle.canon_resources.specs.Parts.{LeafMoves, LeavesStop, do_part, lend, refusal_of, table_for, take}
use Rattle.canon_ledger.specs.Books.{DidSurely}
use Rattle.canon_ledger.specs.Handles.{top_scope}
use Rattle.canon_ledger.specs.Ledger.{Did, Done, LedgerState, resource_lift_borrow, resource_lift_own}
use Rattle.canon_ledger.specs.declared.fault.ResourceFault.{ResourceFault}
use Rattle.canon_model.specs.Leaves.{Leaf, leaf}
use Rattle.canon_model.specs.Shape.{Shape}
use Rattle.canon_types.specs.Instance.{Instance}
use Rattle.canon_types.specs.Table.{shape_of}
use Rattle.canon_types.specs.declared.resource.ResourceType.{ResourceType}
use Rattle.canon_types.specs.declared.types.InterfaceType.{InterfaceType}
use Rattle.canon_types.specs.declared.types.InterfaceType.TheVariants as ty
use Rattle.canon_typed.specs.Types.{IsHandleType}
use Rattle.canon_reading.specs.Handles.{leaf_at, leaf_of}
use Rattle.canon_reading.specs.HostHandles.{HeldLifts, RepLifts, held_reading}
use Rattle.canon_reading.specs.Reading.{Lifts, NamedBy, Setting}
use Rattle.canon_reading.specs.Spots.{HasRoom, Spot, handle_in}
use Rattle.canon_reading.specs.Ways.{rep_parts}
use Rattle.canon_lift_parts.proofs.HandleSteps.{blames_none, is_refusal, same_leaf, stops_so, stopped_steps, lift_took_steps}
use Rattle.canon_handles.specs.declared.handle.TypedResourceIndex.TheVariants.{Component as ComponentIndex}

did_of : (d : Done ℕ) (r : Result ℕ ResourceFault) (l n : LedgerState) → DidSurely d r n → Did d r l n
did_of d (Ok a) l n h = (sym h.0, h.1)
did_of d (Err e) l n h = inl (sym h.0, h.1)

-- one was taken out of the guest's table, or lent from there
module _ (i : Instance) (l n : LedgerState) (table ty index : ℕ) (r : Result ℕ ResourceFault) (its : table ≡ table_for i ty) where
  pub took_rep : DidSurely (resource_lift_own l table (ComponentIndex ty index)) r n → LeafMoves l n (rep_parts i (leaf true ty index)) r
  took_rep h = moves_one l n (take (table_for i ty) ty index) r (λ last. subst (λ p. Did (do_part last (take p ty index) l) r l n) its (did_of (do_part last (take table ty index) l) r l n h))

  pub lent_rep : Did (resource_lift_borrow (top_scope l.handles) l table (ComponentIndex ty index)) r l n → LeafMoves l n (rep_parts i (leaf false ty index)) r
  lent_rep h = moves_one l n (lend (table_for i ty) ty index) r (λ last. subst (λ p. Did (do_part last (lend p ty index) l) r l n) its h)

-- what was done to the ledger
pub rep_steps : (i : Instance) (l n : LedgerState) (leaf : Leaf) (r : Result ℕ ResourceFault) → LeafMoves l n (rep_parts i leaf) r → IsAfterSteps l n
rep_steps i l n leaf (Ok h) takes = lift_took_steps l n (rep_parts i leaf) h takes
rep_steps i l n leaf (Err e) stops = stopped_steps l n (rep_parts i leaf) (refusal_of e) stops

pub rep_refused : (i : Instance) (l n : LedgerState) (leaf : Leaf) (e : ResourceFault) → LeafMoves l n (rep_parts i leaf) (Err e) → RepLifts i l n leaf (Err (resource_fault e))
rep_refused i l n leaf e stops = (subst (λ (why : Option ResourceFault). LeavesStop why l (rep_parts i leaf ∷ []) n) (sym (stops_so e)) (leaves_stop_one (refusal_of e) l n (rep_parts i leaf) stops), is_refusal e)

module _ {A : Type 0} (Made : ResourceType → Bool → ℕ → A → Type 0) (w : Setting) (at : Spot) (type : InterfaceType) (n : ℕ) (before after : LedgerState) (fuel left : ℕ)
    (f : IsHandleType w.types type) (number : n ≡ handle_in w.memory at) (room : HasRoom w.memory at (shape_of w.types.types type)) (same : left ≡ fuel) where
  abbrev s : Shape
  s = shape_of w.types.types type

  lifted : (r : Result A Fault) → HeldLifts Made w.types before after (leaf_at w.memory at s) r → Lifts (held_reading Made) w at s before fuel r after left
  lifted (Ok x) taken = ((room, taken), omega (arith, same))
  lifted (Err e) (stops, why) =
      record { cause = blames_none (NamedBy at ((held_reading Made).faults w at s)) (fuel < (held_reading Made).reach w at s) e why; memory = λ oom. refl; stops = stops; falls = omega (arith, same) }

  pub held_lifts : (r : Result A Fault) → HeldLifts Made w.types before after (leaf_of type n) r → Lifts (held_reading Made) w at s before fuel r after left
  held_lifts r h = lifted r (subst (λ (l : Leaf). HeldLifts Made w.types before after l r) (same_leaf w.types w.memory at type n f number) h)
