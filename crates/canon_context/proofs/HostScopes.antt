-- Steps of the host leave the open scopes, and what is lent to them.
use Rattle.std.proofs.Common.{All, Bool, Err, IfOk, List, None, Ok, Option, Result, [], ap, arith, false, map, refl, suc, true, zero, ℕ, ◌∙◌, ◌∷◌, ◌≡◌}
use Rattle.std.specs.Prelude.{slice_index_or, slice_set}
use Rattle.canon_handles.specs.Calls.{is_own, raw_index}
use Rattle.canon_handles.specs.Step.{refuse_if}
use Rattle.canon_handles.specs.Table.{Counter, Table, entry_at}
use Rattle.canon_handles.specs.declared.handle.Entry.{Entry}
use Rattle.canon_handles.specs.declared.handle.RemovedResource.{RemovedResource}
use Rattle.canon_handles.specs.declared.handle.RemovedResource.TheVariants.{Borrow, Own}
use Rattle.canon_handles.specs.declared.handle.TypedResource.{TypedResource}
use Rattle.canon_handles.specs.declared.handle.TypedResource.TheVariants.{Host}
use Rattle.canon_handles.specs.declared.handle.TypedResourceIndex.{TypedResourceIndex}
use Rattle.canon_handles.specs.declared.handle.TypedResourceIndex.TheVariants.{Host as HostIndex}
use Rattle.canon_ledger.proofs.HandlesLemmas.{if_ok-finished}
use Rattle.canon_ledger.proofs.LedgerLemmas.{after-inserting, after-removing}
use Rattle.canon_ledger.proofs.StepLemmas.{if_ok-refuse, if_ok-then, if_ok_always}
use Rattle.canon_ledger.specs.Handles as handles
use Rattle.canon_ledger.specs.Handles.{Handles, Lender, OpenScope, StepAnswer, dropped, host_table, lifted_own, no_scope, number_of, one_borrow_less, removing_resource, table_at, with_table}
use Rattle.canon_ledger.specs.Index.{GivenIndex}
use Rattle.canon_ledger.specs.Ledger as ledger
use Rattle.canon_ledger.specs.Ledger.{Done, HostDrop, HostLiftBorrow, HostLiftOwn, HostLowerBorrow, HostLowerOwn, HostRemove, LedgerState, LedgerStep, do_step, is_stale, plainly, removed_once_told, run_steps, unless_stale}
use Rattle.canon_ledger.specs.declared.fault.ResourceFault.{ResourceFault}
use Rattle.canon_ledger.specs.declared.fault.ResourceFault.TheVariants as fault
use Rattle.canon_context.specs.Host.{HostSteps, IsHostStep, lenders_in}

-- a borrow handle fewer, and the lenders stay
less_keeps : (scopes : List OpenScope) (k : ℕ) → map (λ s. s.lenders) (slice_set scopes k (one_borrow_less (slice_index_or scopes k no_scope))) ≡ map (λ s. s.lenders) scopes
less_keeps [] zero = refl
less_keeps [] (suc k) = refl
less_keeps (s ∷ scopes) zero = refl
less_keeps (s ∷ scopes) (suc k) = ap (λ xs. s.lenders ∷ xs) (less_keeps scopes k)

module _ (lent : List (List Lender)) where
  abbrev AreLent : Handles → Type 0
  AreLent h = map (λ (s : OpenScope). s.lenders) h.scopes ≡ lent

  module _ (h : Handles) (same : AreLent h) where
    dropped_keeps : (a : RemovedResource) (m : Handles) → AreLent m → IfOk (dropped (a, m)) (λ w. AreLent w.1)
    dropped_keeps (Own rep) m e = e
    dropped_keeps (Borrow scope) m e = less_keeps m.scopes (number_of scope) ∙ e

    drop_keeps : (p : ℕ) (idx : TypedResourceIndex) → IfOk (handles.resource_drop h p idx) (λ w. AreLent w.1)
    drop_keeps p idx =
        if_ok-then (λ (w : Option ℕ × Handles). AreLent w.1) (removing_resource h p idx) dropped
        (if_ok-finished (λ w. IfOk (dropped w) (λ v. AreLent v.1)) h p (raw_index idx) _ (if_ok_always _ _ (λ (a : RemovedResource × Table Entry × Counter). dropped_keeps a.0 (with_table h p a.1 a.2) same)))

    lifted_keeps : (a : RemovedResource) (m : Handles) → AreLent m → IfOk (lifted_own (a, m)) (λ w. AreLent w.1)
    lifted_keeps (Own rep) m e = e
    lifted_keeps (Borrow scope) m e = tt

    lift_own_keeps : (p : ℕ) (idx : TypedResourceIndex) → IfOk (handles.resource_lift_own h p idx) (λ w. AreLent w.1)
    lift_own_keeps p idx =
        if_ok-then (λ (w : ℕ × Handles). AreLent w.1) (removing_resource h p idx) lifted_own
        (if_ok-finished (λ w. IfOk (lifted_own w) (λ v. AreLent v.1)) h p (raw_index idx) _ (if_ok_always _ _ (λ (a : RemovedResource × Table Entry × Counter). lifted_keeps a.0 (with_table h p a.1 a.2) same)))

    new_keeps : (p : ℕ) (r : TypedResource) → IfOk (handles.resource_new h p r) (λ w. AreLent w.1)
    new_keeps p r = if_ok-finished (λ (w : ℕ × Handles). AreLent w.1) h p 0 _ (if_ok_always _ _ (λ (a : ℕ × Table Entry × Counter). same))

    told_keeps : (p : ℕ) (idx : TypedResourceIndex) → IfOk (handles.resource_lift_borrow None h p idx) (λ w. AreLent w.1)
    told_keeps p idx =
        if_ok-then (λ (w : ℕ × Handles). AreLent w.1) (handles.resource_rep h p idx) (λ rep. refuse_if (is_own (entry_at (table_at h p) (raw_index idx))) fault.NoScope (Ok (rep, h)))
        (if_ok_always _ _ (λ rep. if_ok-refuse (λ (w : ℕ × Handles). AreLent w.1) (is_own (entry_at (table_at h p) (raw_index idx))) fault.NoScope (Ok (rep, h)) (λ none. same)))

  module _ (l : LedgerState) (same : AreLent l.handles) where
    stale_keeps : {A : Type 0} (stale : Bool) (d : Done A) → AreLent d.after.handles → AreLent (unless_stale l stale d).after.handles
    stale_keeps true d e = same
    stale_keeps false d e = e

    plainly_keeps : {A : Type 0} (r : StepAnswer A) → IfOk r (λ w. AreLent w.1) → AreLent (plainly r l).after.handles
    plainly_keeps (Ok (a, m)) e = e
    plainly_keeps (Err x) e = same

    dropping : (x : GivenIndex) → AreLent (ledger.host_resource_drop l x).after.handles
    dropping x = stale_keeps (is_stale l.host x) _ (after-removing AreLent host_table (λ h. handles.resource_drop h host_table (HostIndex x.index)) l same (drop_keeps l.handles same host_table (HostIndex x.index)))

    removing : (x : GivenIndex) (r : Result ℕ ResourceFault) → AreLent (removed_once_told r l x).after.handles
    removing x (Ok rep) = dropping x
    removing x (Err e) = same

    step_keeps : (s : LedgerStep) → IsHostStep s → AreLent (do_step s l).after.handles
    step_keeps (HostLiftOwn x) of_host = stale_keeps (is_stale l.host x) _
        (after-removing AreLent host_table (λ h. handles.resource_lift_own h host_table (HostIndex x.index)) l same (lift_own_keeps l.handles same host_table (HostIndex x.index)))
    step_keeps (HostLiftBorrow None x) of_host = stale_keeps (is_stale l.host x) _ (plainly_keeps (handles.resource_lift_borrow None l.handles host_table (HostIndex x.index)) (told_keeps l.handles same host_table (HostIndex x.index)))
    step_keeps (HostDrop x) of_host = dropping x
    step_keeps (HostRemove x) of_host = stale_keeps (is_stale l.host x) _ (removing x (ledger.resource_rep l host_table (HostIndex x.index)))
    step_keeps (HostLowerOwn rep dtor instance) of_host = after-inserting AreLent host_table instance dtor (handles.resource_new l.handles host_table (Host rep)) l same (new_keeps l.handles same host_table (Host rep))
    step_keeps (HostLowerBorrow None rep) of_host = same
    step_keeps _ of_host = absurd of_host

  run_keeps : (steps : List LedgerStep) (l : LedgerState) → All IsHostStep steps → AreLent l.handles → AreLent (run_steps steps l).handles
  run_keeps [] l each same = same
  run_keeps (s ∷ steps) l each same = run_keeps steps (do_step s l).after (λ k d less. each (suc k) d (omega (arith, less))) (step_keeps l same s (each 0 s (omega arith)))

pub scopes_kept : (l n : LedgerState) → HostSteps l n → lenders_in n ≡ lenders_in l
scopes_kept l n h = ap lenders_in h.is ∙ run_keeps (lenders_in l) h.steps l h.each refl
