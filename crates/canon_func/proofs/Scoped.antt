-- A handle of the host that is removed in a scope of its own leaves that scope empty, and else what it leaves without one.
use Rattle.std.proofs.Common.{Bool, Err, List, None, Ok, Option, Result, [], ap, arith, false, length, refl, subst, suc, sym, take, true, zero, ℕ, ◌&&◌, ◌++◌, ◌-◌, ◌∙◌, ◌∷◌, ◌≡◌}
use Rattle.std.specs.Prelude.{nat_le, nat_lt, slice_index_or, slice_set}
use Rattle.std.proofs.Math.Seq.{get_or-append_seam, take-append_seam}
use Rattle.std.proofs.lemmas.List.{length-append}
use Rattle.canon_handles.specs.declared.handle.Entry.{Entry}
use Rattle.canon_handles.specs.declared.handle.RemovedResource.{RemovedResource}
use Rattle.canon_handles.specs.declared.handle.RemovedResource.TheVariants.{Borrow, Own}
use Rattle.canon_handles.specs.declared.handle.Scope.TheVariants.{Id}
use Rattle.canon_handles.specs.declared.handle.TypedResourceIndex.TheVariants.{Host as HostIndex}
use Rattle.canon_handles.specs.Step.{and_then}
use Rattle.canon_handles.specs.Table.{Outcome}
use Rattle.canon_ledger.specs.declared.fault.ResourceFault.{ResourceFault}
use Rattle.canon_ledger.specs.declared.host.TableSlot.{TableSlot}
use Rattle.canon_ledger.specs.Books.{DidSurely}
use Rattle.canon_ledger.specs.Handles as handles
use Rattle.canon_ledger.specs.Handles.{Handles, OpenScope, StepAnswer, can_leave, dropped, finished, host_table, is_empty_scope, no_scope, one_borrow_less, scope_at}
use Rattle.canon_ledger.specs.Index.{GivenIndex}
use Rattle.canon_ledger.specs.Ledger.{Done, Enter, HostDrop, Leave, LedgerState, Through, do_step, enter, host_drop_return, host_removing, host_resource_drop}
use Rattle.canon_ledger.specs.Ledger.{is_stale, last_generation, leave, leaving, numbered, plainly, raised, resource_drop, slot_at, unless_stale, with_slot_answered}

-- ---- one empty scope more

-- a borrow handle fewer is counted in the same scope, and the empty one on top has none to give
last_stays : (scopes : List OpenScope) (k : ℕ)
    → slice_set (scopes ++ no_scope ∷ []) k (one_borrow_less (slice_index_or (scopes ++ no_scope ∷ []) k no_scope)) ≡ slice_set scopes k (one_borrow_less (slice_index_or scopes k no_scope)) ++ no_scope ∷ []
last_stays [] zero = refl
last_stays [] (suc k) = refl
last_stays (s ∷ scopes) zero = refl
last_stays (s ∷ scopes) (suc k) = ap (λ ss. s ∷ ss) (last_stays scopes k)

-- an answer, with one scope more in what it leaves
abbrev in_scope : {A : Type 0} → StepAnswer A → StepAnswer A
in_scope (Ok (a, h)) = Ok (a, handles.enter h)
in_scope (Err e) = Err e

dropped_in_scope : (h : Handles) (p i : ℕ) (o : Outcome Entry RemovedResource) → and_then (finished (handles.enter h) p i o) dropped ≡ in_scope (and_then (finished h p i o) dropped)
dropped_in_scope h p i (Ok (Own rep, t, c)) = refl
dropped_in_scope h p i (Ok (Borrow (Id k), t, c)) =
    ap (λ (scopes : List OpenScope). Ok (None, record { tables = slice_set h.tables p t; counter = c; scopes = scopes })) (last_stays h.scopes k)
dropped_in_scope h p i (Err e) = refl

-- ---- the ledger

abbrev pub done_in_scope : {A : Type 0} → Done A → Done A
done_in_scope d = record { answer = d.answer; after = enter d.after }

plainly_in_scope : {A : Type 0} (r : StepAnswer A) (l : LedgerState) → plainly (in_scope r) (enter l) ≡ done_in_scope (plainly r l)
plainly_in_scope (Ok (a, h)) l = refl
plainly_in_scope (Err e) l = refl

module _ (l : LedgerState) (x : GivenIndex) where
  abbrev call_step : Handles → StepAnswer (Option ℕ)
  call_step h = handles.resource_drop h host_table (HostIndex x.index)

  removed_in_scope : (spent : Bool) → host_removing spent call_step (enter l) ≡ done_in_scope (host_removing spent call_step l)
  removed_in_scope true = refl
  removed_in_scope false =
      let after : LedgerState = record { handles = l.handles; host = raised l.host } in
      ap (λ (r : StepAnswer (Option ℕ)). plainly r (enter after)) (dropped_in_scope l.handles host_table x.index _) ∙ plainly_in_scope (call_step l.handles) after

  unless_stale_in_scope : (stale : Bool) → unless_stale (enter l) stale (with_slot_answered (slot_at l.host x.index) (resource_drop (enter l) host_table (HostIndex x.index)))
      ≡ done_in_scope (unless_stale l stale (with_slot_answered (slot_at l.host x.index) (resource_drop l host_table (HostIndex x.index))))
  unless_stale_in_scope true = refl
  unless_stale_in_scope false = ap (with_slot_answered (slot_at l.host x.index)) (removed_in_scope (nat_le last_generation l.host.generation))

  -- in a scope of its own it answers the same, and leaves the same below the scope
  pub drop_in_scope : host_resource_drop (enter l) x ≡ done_in_scope (host_resource_drop l x)
  drop_in_scope = unless_stale_in_scope (is_stale l.host x)

-- what a drop answered and left, without the scope
pub dropped_entered : (l m n : LedgerState) (x : GivenIndex) (r : Result (Option (ℕ × TableSlot)) ResourceFault) → m ≡ enter l → DidSurely (host_resource_drop m x) r n
    → ((host_resource_drop l x).answer ≡ r) × (n ≡ enter (host_resource_drop l x).after)
dropped_entered l m n x r entered did =
    let same : host_resource_drop m x ≡ done_in_scope (host_resource_drop l x) = ap (λ (k : LedgerState). host_resource_drop k x) entered ∙ drop_in_scope l x in
    (sym (did.0 ∙ ap (λ d. d.answer) same), did.1 ∙ ap (λ d. d.after) same)

-- ---- the scope is left

one_more : (scopes : List OpenScope) → length (scopes ++ no_scope ∷ []) - 1 ≡ length scopes
one_more scopes = let e = length-append scopes (no_scope ∷ []) in omega arith

-- a scope that was just entered can be left
pub can_leave_entered : (h : Handles) → can_leave (handles.enter h) ≡ true
can_leave_entered h =
    let some : nat_lt 0 (length (h.scopes ++ no_scope ∷ [])) ≡ true = (let e = length-append h.scopes (no_scope ∷ []) in search (arith)) in
    let top : scope_at (handles.enter h) (length (h.scopes ++ no_scope ∷ []) - 1) ≡ no_scope = ap (scope_at (handles.enter h)) (one_more h.scopes) ∙ get_or-append_seam h.scopes no_scope [] no_scope in
    ap (λ (b : Bool). b && is_empty_scope (scope_at (handles.enter h) (length (h.scopes ++ no_scope ∷ []) - 1))) some ∙ ap is_empty_scope top

-- and then nothing is left of it
pub leave_entered : (l : LedgerState) → leave (enter l) ≡ l
leave_entered l =
    let scopes : take (length (l.handles.scopes ++ no_scope ∷ []) - 1) (l.handles.scopes ++ no_scope ∷ []) ≡ l.handles.scopes =
    ap (λ n. take n (l.handles.scopes ++ no_scope ∷ [])) (one_more l.handles.scopes) ∙ take-append_seam l.handles.scopes (no_scope ∷ []) in
    λ i. record { handles = record { tables = l.handles.tables; counter = l.handles.counter; scopes = scopes i }; host = l.host }

-- ---- as steps

module _ (l : LedgerState) (x : GivenIndex) (removed : Option (ℕ × TableSlot)) (answered : (host_resource_drop l x).answer ≡ Ok removed) where
  accepted : (numbered host_drop_return (host_resource_drop (enter l) x)).answer ≡ Ok (host_drop_return removed)
  accepted =
      ap (λ (d : Done (Option (ℕ × TableSlot))). (numbered host_drop_return d).answer) (drop_in_scope l x)
      ∙ ap (λ (r : Result (Option (ℕ × TableSlot)) ResourceFault). and_then r (λ a. Ok (host_drop_return a))) answered

  after_drop : (do_step (HostDrop x) (enter l)).after ≡ enter (host_resource_drop l x).after
  after_drop = ap (λ (d : Done (Option (ℕ × TableSlot))). d.after) (drop_in_scope l x)

  -- the scope is entered, and the handle dropped
  pub through_drop : (l' : LedgerState) → l' ≡ enter (host_resource_drop l x).after → Through l (Enter ∷ HostDrop x ∷ []) l'
  through_drop l' e = (0, refl, (host_drop_return removed, accepted, e ∙ sym after_drop))

  left_is : (do_step Leave (enter (host_resource_drop l x).after)).after ≡ (host_resource_drop l x).after
  left_is = ap (λ (b : Bool). (leaving b (enter (host_resource_drop l x).after)).after) (can_leave_entered (host_resource_drop l x).after.handles) ∙ leave_entered (host_resource_drop l x).after

  leaves : (m : LedgerState) → m ≡ enter (host_resource_drop l x).after → (l' : LedgerState) → l' ≡ (host_resource_drop l x).after → Through m (Leave ∷ []) l'
  leaves m e l' f =
      subst (λ (k : LedgerState). Through k (Leave ∷ []) l') (sym e)
      (0, ap (λ (b : Bool). (leaving b (enter (host_resource_drop l x).after)).answer) (can_leave_entered (host_resource_drop l x).after.handles), f ∙ sym left_is)

  -- and the scope left
  pub through_leave : (l' : LedgerState) → l' ≡ (host_resource_drop l x).after → Through l (Enter ∷ HostDrop x ∷ Leave ∷ []) l'
  through_leave l' e = (0, refl, (host_drop_return removed, accepted, leaves (do_step (HostDrop x) (enter l)).after after_drop l' e))
