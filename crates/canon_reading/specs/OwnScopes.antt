-- An own handle that is lifted leaves the scopes of the ledger as they are.
use Rattle.std.proofs.Common.{Bool, IfOk, List, Option, false, ap, refl, true, ℕ, ◌∙◌, ◌≡◌}
use Rattle.canon_handles.specs.Calls.{raw_index}
use Rattle.canon_handles.specs.Table.{Counter, Table}
use Rattle.canon_handles.specs.declared.handle.Entry.{Entry}
use Rattle.canon_handles.specs.declared.handle.RemovedResource.{RemovedResource}
use Rattle.canon_handles.specs.declared.handle.RemovedResource.TheVariants.{Borrow, Own}
use Rattle.canon_handles.specs.declared.handle.TypedResource.{TypedResource}
use Rattle.canon_handles.specs.declared.handle.TypedResource.TheVariants.{Host}
use Rattle.canon_handles.specs.declared.handle.TypedResourceIndex.{TypedResourceIndex}
use Rattle.canon_handles.specs.declared.handle.TypedResourceIndex.TheVariants.{Component as ComponentIndex}
use Rattle.canon_ledger.proofs.HandlesLemmas.{if_ok-finished}
use Rattle.canon_ledger.proofs.LedgerLemmas.{after-inserting, after-removing}
use Rattle.canon_ledger.proofs.StepLemmas.{if_ok-then, if_ok_always}
use Rattle.canon_ledger.specs.Handles as handles
use Rattle.canon_ledger.specs.Handles.{Handles, OpenScope, host_table, lifted_own, removing_resource, with_table}
use Rattle.canon_ledger.specs.Ledger as ledger
use Rattle.canon_ledger.specs.Ledger.{LedgerState}
use Rattle.canon_resources.specs.Parts.{LeafTakes, dtor_for, instance_for, lifted_parts, table_for}
use Rattle.canon_types.specs.Depth.{has_borrow}
use Rattle.canon_types.specs.Instance.{Instance}
use Rattle.canon_types.specs.Table.{shape_of}
use Rattle.canon_types.specs.declared.types.InterfaceType.{InterfaceType}
use Rattle.canon_types.specs.declared.types.InterfaceType.TheVariants as ty
use Rattle.canon_types.specs.declared.resource.ResourceType.{ResourceType}
use Rattle.canon_typed.specs.Types.{IsHandleOf, IsHandleType}
use Rattle.canon_reading.specs.Handles.{any_reading}
use Rattle.canon_reading.specs.HostHandles.{held_reading, no_type}
use Rattle.canon_reading.specs.Reading.{Setting}
use Rattle.canon_reading.specs.Scopes.{AllKeep, IsKept, one_kept}
use Rattle.canon_reading.specs.Spots.{Spot, handle_in}
use Rattle.canon_reading.specs.Ways.{taken_parts}

module _ (h : Handles) (scopes : List OpenScope) (same : h.scopes ≡ scopes) where
  lifted_keeps : (a : RemovedResource) (m : Handles) → m.scopes ≡ scopes → IfOk (lifted_own (a, m)) (λ w. w.1.scopes ≡ scopes)
  lifted_keeps (Own rep) m e = e
  lifted_keeps (Borrow scope) m e = tt

  lift_own_keeps : (p : ℕ) (idx : TypedResourceIndex) → IfOk (handles.resource_lift_own h p idx) (λ w. w.1.scopes ≡ scopes)
  lift_own_keeps p idx =
      if_ok-then (λ (w : ℕ × Handles). w.1.scopes ≡ scopes) (removing_resource h p idx) lifted_own
      (if_ok-finished (λ w. IfOk (lifted_own w) (λ v. v.1.scopes ≡ scopes)) h p (raw_index idx) _ (if_ok_always _ _ (λ (a : RemovedResource × Table Entry × Counter). lifted_keeps a.0 (with_table h p a.1 a.2) same)))

  new_keeps : (p : ℕ) (r : TypedResource) → IfOk (handles.resource_new h p r) (λ w. w.1.scopes ≡ scopes)
  new_keeps p r = if_ok-finished (λ (w : ℕ × Handles). w.1.scopes ≡ scopes) h p 0 _ (if_ok_always _ _ (λ (a : ℕ × Table Entry × Counter). same))

pub lift_own_scopes : (l : LedgerState) (p : ℕ) (idx : TypedResourceIndex) → (ledger.resource_lift_own l p idx).after.handles.scopes ≡ l.handles.scopes
lift_own_scopes l p idx = after-removing (λ (h : Handles). h.scopes ≡ l.handles.scopes) p (λ h. handles.resource_lift_own h p idx) l refl (lift_own_keeps l.handles l.handles.scopes refl p idx)

host_own_scopes : (l : LedgerState) (rep : ℕ) (dtor instance : Option ℕ) → (ledger.host_resource_lower_own l rep dtor instance).after.handles.scopes ≡ l.handles.scopes
host_own_scopes l rep dtor instance = after-inserting (λ (h : Handles). h.scopes ≡ l.handles.scopes) host_table instance dtor (handles.resource_new l.handles host_table (Host rep)) l refl
    (new_keeps l.handles l.handles.scopes refl host_table (Host rep))

-- one is taken from a component's table and put into the host's
pub own_lifted : (i : Instance) (l n : LedgerState) (ty index h : ℕ) → LeafTakes l (lifted_parts true i ty index) h n → n.handles.scopes ≡ l.handles.scopes
own_lifted i l n ty index h takes =
    let (rep, rest, is, took, (put, more, are, made, (none, ends))) = takes.takes 0 in
    let taken : LedgerState = (ledger.resource_lift_own l (table_for i ty) (ComponentIndex ty index)).after in
    ap (λ (m : LedgerState). m.handles.scopes) ends ∙ (host_own_scopes taken rep (dtor_for i ty) (instance_for i ty) ∙ lift_own_scopes l (table_for i ty) (ComponentIndex ty index))

any_keeps : (w : Setting) (at : Spot) (type : InterfaceType) → IsHandleType w.types type → has_borrow (shape_of w.types.types type) ≡ false → AllKeep (any_reading.steps w at (shape_of w.types.types type))
any_keeps w at (ty.Own r) f none = one_kept _ (λ l n h takes. own_lifted w.types l n r (handle_in w.memory at) h takes)
any_keeps w at (ty.Borrow r) f none = cc
any_keeps w at _ f none = absurd f

pub any_kept : IsKept IsHandleType any_reading
any_kept = record { kept = any_keeps }

-- one is taken from a component's table, for its representation alone
rep_taken : (i : Instance) (l n : LedgerState) (ty index h : ℕ) → LeafTakes l (taken_parts true i ty index) h n → n.handles.scopes ≡ l.handles.scopes
rep_taken i l n ty index h takes = let (rep, rest, is, took, (none, ends)) = takes.takes 0 in ap (λ (m : LedgerState). m.handles.scopes) ends ∙ lift_own_scopes l (table_for i ty) (ComponentIndex ty index)

held_keeps : {A D : Type 0} (checked : ResourceType → Option D) (Made : ResourceType → Bool → ℕ → A → Type 0) (w : Setting) (at : Spot) (type : InterfaceType) → IsHandleOf checked w.types type
    → has_borrow (shape_of w.types.types type) ≡ false → AllKeep ((held_reading Made).steps w at (shape_of w.types.types type))
held_keeps checked Made w at (ty.Own r) f none = one_kept _ (λ l n h takes. rep_taken w.types l n r (handle_in w.memory at) h takes)
held_keeps checked Made w at (ty.Borrow r) f none = cc
held_keeps checked Made w at _ (kind, d, is_none, is) none = no_type is_none

pub held_kept : {A D : Type 0} (checked : ResourceType → Option D) (Made : ResourceType → Bool → ℕ → A → Type 0) → IsKept (IsHandleOf checked) (held_reading Made)
held_kept checked Made = record { kept = held_keeps checked Made }
