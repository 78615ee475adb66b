-- Each call of the ledger keeps what holds of it.
use Rattle.std.proofs.Common.{◌≡◌, ℕ, zero, suc, ◌<◌, ◌≤◌, Bool, true, false, not, ◌==◌, cond, if◌then◌else◌, List, [], ◌∷◌, ◌++◌, length, map, replicate, Option, Some, None, Result, Ok, Err, refl, sym, ap, subst, ◌∙◌, arith, IfOk, OnOk, is_err, inl, inr}
use Rattle.std.proofs.lemmas.List.{length-replicate, length-set}
use Rattle.std.proofs.lemmas.Bool.{lt-ltb}
use Rattle.canon_handles.specs.declared.handle.Scope.TheVariants.{Id}
use Rattle.canon_handles.specs.declared.handle.RemovedResource.{RemovedResource}
use Rattle.canon_handles.specs.declared.handle.RemovedResource.TheVariants.{Borrow, Own}
use Rattle.canon_handles.specs.declared.handle.TypedResource.{TypedResource}
use Rattle.canon_handles.specs.declared.handle.TypedResource.TheVariants.{Host}
use Rattle.canon_handles.specs.declared.handle.TypedResourceIndex.{TypedResourceIndex}
use Rattle.canon_handles.specs.declared.handle.Entry.{Entry}
use Rattle.canon_handles.specs.declared.handle.Entry.TheVariants.{ResourceOwn, ResourceBorrow}
use Rattle.canon_handles.specs.Step.{refuse_if}
use Rattle.canon_handles.specs.Table.{Table, Counter, TableState, empty_table, entry_at, max_handle}
use Rattle.canon_handles.specs.Calls.{raw_index, resource_undo_lend, is_own}
use Rattle.canon_handles.proofs.TableLemmas.{fresh}
use Rattle.canon_ledger.specs.declared.fault.ResourceFault.{ResourceFault}
use Rattle.canon_ledger.specs.declared.fault.ResourceFault.TheVariants as fault
use Rattle.canon_ledger.specs.Handles as handles
use Rattle.canon_ledger.specs.Handles.{Handles, Lender, StepAnswer, IsConsistent, Takes, TakesSurely, table_at, with_table, finished, on_table, dropped, lifted_own, lent, removing_resource, inserting_borrow, lending, borrow_added, undone, give_back, exit_scope, opened, lift_borrow_in, lower_borrow_in, scope_at, with_scope, no_scope, number_of, host_table, one_borrow_more}
use Rattle.canon_ledger.specs.Ledger.{LedgerState, HostIndexes, IsHostSound, Done, Did, New, Drop, LiftOwn, LiftBorrow, LowerBorrow, ExitScope, HostLowerOwn, new_ledger, plainly, inserting, removing, with_slot}
use Rattle.canon_ledger.specs.Ledger as ledger
use Rattle.canon_ledger.specs.Books.{Context, Holds, DidSurely, ledger_of, written_at, raised_at, is_spent}
use Rattle.canon_ledger.specs.Places.{SamePlaces}
use Rattle.canon_ledger.proofs.StepLemmas.{if_ok-refuse, if_ok-then, if_ok_always}
use Rattle.canon_ledger.proofs.HandlesLemmas.{if_ok-finished, if_ok-insert}
use Rattle.canon_ledger.proofs.LedgerLemmas.{sound-step, after-plainly, after-inserting, after-removing}
use Rattle.canon_ledger.proofs.HostLemmas.{host-step, new_sound}
use Rattle.canon_ledger.proofs.DidLemmas.{did_plainly, did_surely, did_inserting, did_inserting_host, did_removing}

-- The numbers of tables and of open scopes stay

abbrev Has : ℕ → ℕ → Handles → Type 0
Has n o h = (length h.tables ≡ n) × (length h.scopes ≡ o)

module _ (h : Handles) (n o : ℕ) (has : Has n o h) where
  with_table_has : (p : ℕ) (t : Table Entry) (c : Counter) → Has n o (with_table h p t c)
  with_table_has p t c = (length-set h.tables p t ∙ has.0, has.1)

  new_has : (p : ℕ) (r : TypedResource) → IfOk (handles.resource_new h p r) (λ w. Has n o w.1)
  new_has p r = if_ok-finished (λ (w : ℕ × Handles). Has n o w.1) h p 0 _ (if_ok_always _ _ (λ a. with_table_has p a.1 a.2))

  dropped_has : (a : RemovedResource) (m : Handles) → Has n o m → IfOk (dropped (a, m)) (λ w. Has n o w.1)
  dropped_has (Own rep) m e = e
  dropped_has (Borrow scope) m e = (e.0, length-set m.scopes (number_of scope) _ ∙ e.1)

  lifted_has : (a : RemovedResource) (m : Handles) → Has n o m → IfOk (lifted_own (a, m)) (λ w. Has n o w.1)
  lifted_has (Own rep) m e = e
  lifted_has (Borrow scope) m e = tt

  drop_has : (p : ℕ) (idx : TypedResourceIndex) → IfOk (handles.resource_drop h p idx) (λ w. Has n o w.1)
  drop_has p idx =
      if_ok-then (λ (w : Option ℕ × Handles). Has n o w.1) (removing_resource h p idx) dropped
      (if_ok-finished (λ w. IfOk (dropped w) (λ v. Has n o v.1)) h p (raw_index idx) _ (if_ok_always _ _ (λ (a : RemovedResource × Table Entry × Counter). dropped_has a.0 (with_table h p a.1 a.2) (with_table_has p a.1 a.2))))

  lift_own_has : (p : ℕ) (idx : TypedResourceIndex) → IfOk (handles.resource_lift_own h p idx) (λ w. Has n o w.1)
  lift_own_has p idx =
      if_ok-then (λ (w : ℕ × Handles). Has n o w.1) (removing_resource h p idx) lifted_own
      (if_ok-finished (λ w. IfOk (lifted_own w) (λ v. Has n o v.1)) h p (raw_index idx) _ (if_ok_always _ _ (λ (a : RemovedResource × Table Entry × Counter). lifted_has a.0 (with_table h p a.1 a.2) (with_table_has p a.1 a.2))))

  lent_has : (k : ℕ) (lender : Lender) (a : ℕ × Bool) (m : Handles) → Has n o m → IfOk (lent k lender (a, m)) (λ w. Has n o w.1)
  lent_has k lender (rep, true) m e = (e.0, length-set m.scopes k _ ∙ e.1)
  lent_has k lender (rep, false) m e = e

  lift_borrow_has : (scope : Option ℕ) (p : ℕ) (idx : TypedResourceIndex) → IfOk (lift_borrow_in scope h p idx) (λ w. Has n o w.1)
  lift_borrow_has (Some k) p idx =
      if_ok-then (λ (w : ℕ × Handles). Has n o w.1) (lending h p idx) (lent k (record { table = p; index = idx }))
      (if_ok-finished (λ w. IfOk (lent k (record { table = p; index = idx }) w) (λ v. Has n o v.1)) h p (raw_index idx) _
      (if_ok_always _ _ (λ (a : (ℕ × Bool) × Table Entry × Counter). lent_has k (record { table = p; index = idx }) a.0 (with_table h p a.1 a.2) (with_table_has p a.1 a.2))))
  lift_borrow_has None p idx =
      if_ok-then (λ (w : ℕ × Handles). Has n o w.1) (handles.resource_rep h p idx) (λ rep. refuse_if (is_own (entry_at (table_at h p) (raw_index idx))) fault.NoScope (Ok (rep, h)))
      (if_ok_always _ _ (λ rep. if_ok-refuse (λ (w : ℕ × Handles). Has n o w.1) (is_own (entry_at (table_at h p) (raw_index idx))) fault.NoScope (Ok (rep, h)) (λ none. has)))

  borrow_added_has : (k : ℕ) (m : Handles) → Has n o m → Has n o (borrow_added m k)
  borrow_added_has k m e = (e.0, length-set m.scopes k (one_borrow_more (scope_at m k)) ∙ e.1)

  lower_borrow_has : (scope : Option ℕ) (p : ℕ) (r : TypedResource) → IfOk (lower_borrow_in scope h p r) (λ w. Has n o w.1)
  lower_borrow_has (Some k) p r =
      if_ok-then (λ (w : ℕ × Handles). Has n o w.1) (inserting_borrow h p r k) (λ (i, h'). Ok (i, borrow_added h' k))
      (if_ok-finished (λ (w : ℕ × Handles). Has n o (borrow_added w.1 k)) h p 0 _ (if_ok_always _ _ (λ (a : ℕ × Table Entry × Counter). borrow_added_has k (with_table h p a.1 a.2) (with_table_has p a.1 a.2))))
  lower_borrow_has None p r = tt

  undone_has : (r : StepAnswer (Unit {0})) → IfOk r (λ w. Has n o w.1) → Has n o (undone h r)
  undone_has (Ok (u, m)) e = e
  undone_has (Err x) e = has

give_back_has : (lenders : List Lender) (h : Handles) (n o : ℕ) → Has n o h → Has n o (give_back lenders h)
give_back_has [] h n o has = has
give_back_has (lender ∷ lenders) h n o has =
    give_back_has lenders _ n o
    (undone_has h n o has (on_table h lender.table (raw_index lender.index) (λ t c. resource_undo_lend t c lender.index))
    (if_ok-finished (λ (w : Unit {0} × Handles). Has n o w.1) h lender.table (raw_index lender.index) _ (if_ok_always _ _ (λ a. with_table_has h n o has lender.table a.1 a.2))))

exit_has : (h : Handles) (n o : ℕ) (scope : Option ℕ) → Has n o h → IfOk (exit_scope scope h) (λ w. Has n o w.1)
exit_has h n o None has = tt
exit_has h n o (Some k) has =
    if_ok-refuse (λ (w : Unit {0} × Handles). Has n o w.1) (not ((scope_at h k).borrow_count == 0)) fault.BorrowsRemain (Ok (tt, give_back (scope_at h k).lenders (with_scope h k no_scope)))
    (λ none. give_back_has (scope_at h k).lenders (with_scope h k no_scope) n o (has.0, length-set h.scopes k no_scope ∙ has.1))

-- As many tables and scopes as before

abbrev Stays : LedgerState → Handles → Type 0
Stays l h = Has (length l.handles.tables) (length l.handles.scopes) h

stay : (l m : LedgerState) → Stays l m.handles → SamePlaces l m
stay l m h = record { scopes = h.1; tables = h.0 }

stays_new : (l : LedgerState) (p : ℕ) (instance dtor : Option ℕ) (r : TypedResource) → Stays l (inserting p instance dtor (handles.resource_new l.handles p r) l).after.handles
stays_new l p instance dtor r = after-inserting (Stays l) p instance dtor (handles.resource_new l.handles p r) l (refl, refl) (new_has l.handles _ _ (refl, refl) p r)

stays_drop : (l : LedgerState) (p : ℕ) (idx : TypedResourceIndex) → Stays l (ledger.resource_drop l p idx).after.handles
stays_drop l p idx = after-removing (Stays l) p (λ h. handles.resource_drop h p idx) l (refl, refl) (drop_has l.handles _ _ (refl, refl) p idx)

stays_lift_own : (l : LedgerState) (p : ℕ) (idx : TypedResourceIndex) → Stays l (ledger.resource_lift_own l p idx).after.handles
stays_lift_own l p idx = after-removing (Stays l) p (λ h. handles.resource_lift_own h p idx) l (refl, refl) (lift_own_has l.handles _ _ (refl, refl) p idx)

stays_lift_borrow : (l : LedgerState) (scope : Option ℕ) (p : ℕ) (idx : TypedResourceIndex) → Stays l (plainly (lift_borrow_in scope l.handles p idx) l).after.handles
stays_lift_borrow l scope p idx = after-plainly (Stays l) (lift_borrow_in scope l.handles p idx) l (refl, refl) (lift_borrow_has l.handles _ _ (refl, refl) scope p idx)

stays_lower_borrow : (l : LedgerState) (scope : Option ℕ) (p : ℕ) (r : TypedResource) → Stays l (inserting p None None (lower_borrow_in scope l.handles p r) l).after.handles
stays_lower_borrow l scope p r = after-inserting (Stays l) p None None (lower_borrow_in scope l.handles p r) l (refl, refl) (lower_borrow_has l.handles _ _ (refl, refl) scope p r)

stays_exit : (l : LedgerState) (scope : Option ℕ) → Stays l (plainly (exit_scope scope l.handles) l).after.handles
stays_exit l scope = after-plainly (Stays l) (exit_scope scope l.handles) l (refl, refl) (exit_has l.handles _ _ scope (refl, refl))

same_did : {A : Type 0} (d : Done A) (r : Result A ResourceFault) (l m : LedgerState) → Did d r l m → SamePlaces l d.after → SamePlaces l m
same_did d (Ok a) l m did same = subst (SamePlaces l) (sym did.1) same
same_did d (Err e) l m did same = elim did as (λ _. SamePlaces l m) [ inl w ↦ subst (SamePlaces l) (sym w.1) same | inr w ↦ subst (SamePlaces l) (sym w.1) (record { scopes = refl; tables = refl }) ]

pub same_new : (l : LedgerState) (p : ℕ) (q : TypedResource) (r : Result ℕ ResourceFault) (m : LedgerState) → Did (ledger.resource_new l p q) r l m → SamePlaces l m
same_new l p q r m did = same_did (ledger.resource_new l p q) r l m did (stay l _ (stays_new l p None None q))

pub same_drop : (l : LedgerState) (p : ℕ) (idx : TypedResourceIndex) (r : Result (Option ℕ) ResourceFault) (m : LedgerState) → DidSurely (ledger.resource_drop l p idx) r m → SamePlaces l m
same_drop l p idx r m did = subst (SamePlaces l) (sym did.1) (stay l _ (stays_drop l p idx))

pub same_lift_own : (l : LedgerState) (p : ℕ) (idx : TypedResourceIndex) (r : Result ℕ ResourceFault) (m : LedgerState) → DidSurely (ledger.resource_lift_own l p idx) r m → SamePlaces l m
same_lift_own l p idx r m did = subst (SamePlaces l) (sym did.1) (stay l _ (stays_lift_own l p idx))

pub same_lift_borrow : (l : LedgerState) (scope : Option ℕ) (p : ℕ) (idx : TypedResourceIndex) (r : Result ℕ ResourceFault) (m : LedgerState) → Did (ledger.resource_lift_borrow scope l p idx) r l m → SamePlaces l m
same_lift_borrow l scope p idx r m did = same_did (ledger.resource_lift_borrow scope l p idx) r l m did (stay l _ (stays_lift_borrow l (opened l.handles scope) p idx))

pub same_lower_borrow : (l : LedgerState) (scope : Option ℕ) (p : ℕ) (q : TypedResource) (r : Result ℕ ResourceFault) (m : LedgerState) → Did (ledger.resource_lower_borrow scope l p q) r l m → SamePlaces l m
same_lower_borrow l scope p q r m did = same_did (ledger.resource_lower_borrow scope l p q) r l m did (stay l _ (stays_lower_borrow l (opened l.handles scope) p q))

pub same_exit : (l : LedgerState) (scope : Option ℕ) (r : Result (Unit {0}) ResourceFault) (m : LedgerState) → DidSurely (ledger.validate_scope_exit scope l) r m → SamePlaces l m
same_exit l scope r m did = subst (SamePlaces l) (sym did.1) (stay l _ (stays_exit l (opened l.handles scope)))

-- What holds is kept

pub opened_is : (h : Handles) (k : ℕ) → k < length h.scopes → opened h (Some k) ≡ Some k
opened_is h k within = ap (λ (b : Bool). cond b (Some k) None) (lt-ltb k (length h.scopes) within)

holds : (l m : LedgerState) → Holds l → IsConsistent m.handles → IsHostSound m → Stays l m.handles → Holds m
holds l m h s host has = record { sound = s; host = host; tables = has.0 ∙ h.tables }

holds_new : (l : LedgerState) (p : ℕ) (r : TypedResource) → Holds l → Holds (ledger.resource_new l p r).after
holds_new l p r h =
    holds l _ h (sound-step (New p r) l h.sound) (host-step (New p r) l h.sound h.host)
    (stays_new l p None None r)

holds_drop : (l : LedgerState) (p : ℕ) (idx : TypedResourceIndex) → Holds l → Holds (ledger.resource_drop l p idx).after
holds_drop l p idx h =
    holds l _ h (sound-step (Drop p idx) l h.sound) (host-step (Drop p idx) l h.sound h.host)
    (stays_drop l p idx)

holds_lift_own : (l : LedgerState) (p : ℕ) (idx : TypedResourceIndex) → Holds l → Holds (ledger.resource_lift_own l p idx).after
holds_lift_own l p idx h =
    holds l _ h (sound-step (LiftOwn p idx) l h.sound) (host-step (LiftOwn p idx) l h.sound h.host)
    (stays_lift_own l p idx)

holds_lift_borrow : (l : LedgerState) (k p : ℕ) (idx : TypedResourceIndex) → k < length l.handles.scopes → Holds l → Holds (plainly (lift_borrow_in (Some k) l.handles p idx) l).after
holds_lift_borrow l k p idx within h =
    let e : lift_borrow_in (opened l.handles (Some k)) l.handles p idx ≡ lift_borrow_in (Some k) l.handles p idx = ap (λ o. lift_borrow_in o l.handles p idx) (opened_is l.handles k within) in
    holds l _ h
    (subst (λ (r : StepAnswer ℕ). IsConsistent (plainly r l).after.handles) e (sound-step (LiftBorrow (Some k) p idx) l h.sound))
    (subst (λ (r : StepAnswer ℕ). IsHostSound (plainly r l).after) e (host-step (LiftBorrow (Some k) p idx) l h.sound h.host))
    (stays_lift_borrow l (Some k) p idx)

holds_lower_borrow : (l : LedgerState) (k p : ℕ) (r : TypedResource) → k < length l.handles.scopes → Holds l → Holds (inserting p None None (lower_borrow_in (Some k) l.handles p r) l).after
holds_lower_borrow l k p r within h =
    let e : lower_borrow_in (opened l.handles (Some k)) l.handles p r ≡ lower_borrow_in (Some k) l.handles p r = ap (λ o. lower_borrow_in o l.handles p r) (opened_is l.handles k within) in
    holds l _ h
    (subst (λ (a : StepAnswer ℕ). IsConsistent (inserting p None None a l).after.handles) e (sound-step (LowerBorrow (Some k) p r) l h.sound))
    (subst (λ (a : StepAnswer ℕ). IsHostSound (inserting p None None a l).after) e (host-step (LowerBorrow (Some k) p r) l h.sound h.host))
    (stays_lower_borrow l (Some k) p r)

holds_exit : (l : LedgerState) (k : ℕ) → k < length l.handles.scopes → Holds l → Holds (plainly (exit_scope (Some k) l.handles) l).after
holds_exit l k within h =
    let e : exit_scope (opened l.handles (Some k)) l.handles ≡ exit_scope (Some k) l.handles = ap (λ o. exit_scope o l.handles) (opened_is l.handles k within) in
    holds l _ h
    (subst (λ (a : StepAnswer (Unit {0})). IsConsistent (plainly a l).after.handles) e (sound-step (ExitScope (Some k)) l h.sound))
    (subst (λ (a : StepAnswer (Unit {0})). IsHostSound (plainly a l).after) e (host-step (ExitScope (Some k)) l h.sound h.host))
    (stays_exit l (Some k))

-- Each call

pub kept_exit : (l : LedgerState) (k : ℕ) (m : Handles) (result : Result (Unit {0}) ResourceFault) → k < length l.handles.scopes → TakesSurely (exit_scope (Some k) l.handles) result l.handles m
    → Holds l → Holds (record { handles = m; host = l.host })
kept_exit l k m result within takes h = subst Holds (sym (did_surely (exit_scope (Some k) l.handles) result l m takes).1) (holds_exit l k within h)

kept_did : {A : Type 0} (d : Done A) (r : Result A ResourceFault) (l m : LedgerState) → Did d r l m → Holds l → Holds d.after → Holds m
kept_did d (Ok a) l m did was now = subst Holds (sym did.1) now
kept_did d (Err e) l m did was now = elim did as (λ _. Holds m) [ inl w ↦ subst Holds (sym w.1) now | inr w ↦ subst Holds (sym w.1) was ]

pub kept_lift_borrow : (l : LedgerState) (k p : ℕ) (idx : TypedResourceIndex) (m : Handles) (result : Result ℕ ResourceFault) → k < length l.handles.scopes
    → Takes (lift_borrow_in (Some k) l.handles p idx) result l.handles m → Holds l → Holds (record { handles = m; host = l.host })
kept_lift_borrow l k p idx m result within takes h =
    kept_did (plainly (lift_borrow_in (Some k) l.handles p idx) l) result l (record { handles = m; host = l.host }) (did_plainly (lift_borrow_in (Some k) l.handles p idx) result l m takes) h (holds_lift_borrow l k p idx within h)

pub kept_new : (l : LedgerState) (p : ℕ) (r : TypedResource) (i : ℕ) (m : Handles) (host : HostIndexes) → handles.resource_new l.handles p r ≡ Ok (i, m) → host ≡ written_at p i l.host → Holds l → Holds (record { handles = m; host = host })
kept_new l p r i m host e w h = subst Holds (sym (did_inserting p (handles.resource_new l.handles p r) l i m host e w).1) (holds_new l p r h)

pub kept_lower_borrow : (l : LedgerState) (k p : ℕ) (r : TypedResource) (i : ℕ) (m : Handles) (host : HostIndexes) → k < length l.handles.scopes → lower_borrow_in (Some k) l.handles p r ≡ Ok (i, m)
    → host ≡ written_at p i l.host → Holds l → Holds (record { handles = m; host = host })
kept_lower_borrow l k p r i m host within e w h = subst Holds (sym (did_inserting p (lower_borrow_in (Some k) l.handles p r) l i m host e w).1) (holds_lower_borrow l k p r within h)

raised_by : (b : Bool) (u : Unit {0}) (result : Result (Unit {0}) ResourceFault) (x y z : HostIndexes) → result ≡ refuse_if b fault.GenerationExhausted (Ok tt) → result ≡ Ok u → z ≡ (if b then x else y) → (b ≡ false) × (z ≡ y)
raised_by true u result x y z a ok after = absurd (cc)
raised_by false u result x y z a ok after = (refl, after)

pub kept_drop : (l : LedgerState) (p : ℕ) (idx : TypedResourceIndex) (u : Unit {0}) (raising : Result (Unit {0}) ResourceFault) (host : HostIndexes) (m : Handles) (result : Result (Option ℕ) ResourceFault)
    → raising ≡ refuse_if (is_spent p l.host) fault.GenerationExhausted (Ok tt) → raising ≡ Ok u → host ≡ (if is_spent p l.host then l.host else raised_at p l.host)
    → TakesSurely (handles.resource_drop l.handles p idx) result l.handles m → Holds l → Holds (record { handles = m; host = host })
kept_drop l p idx u raising host m result a ok after takes h =
    let w = raised_by (is_spent p l.host) u raising l.host (raised_at p l.host) host a ok after in
    subst Holds (sym (did_removing p (λ h. handles.resource_drop h p idx) result l m host w.0 w.1 takes).1) (holds_drop l p idx h)

pub kept_lift_own : (l : LedgerState) (p : ℕ) (idx : TypedResourceIndex) (u : Unit {0}) (raising : Result (Unit {0}) ResourceFault) (host : HostIndexes) (m : Handles) (result : Result ℕ ResourceFault)
    → raising ≡ refuse_if (is_spent p l.host) fault.GenerationExhausted (Ok tt) → raising ≡ Ok u → host ≡ (if is_spent p l.host then l.host else raised_at p l.host)
    → TakesSurely (handles.resource_lift_own l.handles p idx) result l.handles m → Holds l → Holds (record { handles = m; host = host })
kept_lift_own l p idx u raising host m result a ok after takes h =
    let w = raised_by (is_spent p l.host) u raising l.host (raised_at p l.host) host a ok after in
    subst Holds (sym (did_removing p (λ h. handles.resource_lift_own h p idx) result l m host w.0 w.1 takes).1) (holds_lift_own l p idx h)

-- The slot of an insertion

abbrev IsGiven : Handles → ℕ → ℕ → Type 0
IsGiven h p i = (0 < i) × (i ≤ length (table_at h p).array)

new_given : (h : Handles) (p : ℕ) (r : TypedResource) → IsConsistent h → IfOk (handles.resource_new h p r) (λ w. IsGiven h p w.0)
new_given h p r s =
    if_ok-finished (λ (w : ℕ × Handles). IsGiven h p w.0) h p 0 _ (if_ok-insert _ (table_at h p) h.counter (ResourceOwn r 0) (λ room. let f = fresh (table_at h p) (s.tables_sound p) in (f.positive, f.at_end)))

lower_given : (h : Handles) (k p : ℕ) (r : TypedResource) → IsConsistent h → IfOk (lower_borrow_in (Some k) h p r) (λ w. IsGiven h p w.0)
lower_given h k p r s =
    if_ok-then (λ (w : ℕ × Handles). IsGiven h p w.0) (inserting_borrow h p r k) (λ (i, h'). Ok (i, borrow_added h' k))
    (if_ok-finished (λ (w : ℕ × Handles). IsGiven h p w.0) h p 0 _ (if_ok-insert _ (table_at h p) h.counter (ResourceBorrow r (Id k)) (λ room. let f = fresh (table_at h p) (s.tables_sound p) in (f.positive, f.at_end))))

pub on_ok : {E : Type 0} (P : Type 0) (r : Result (Unit {0}) E) → is_err r ≡ false → OnOk r P → P
on_ok P (Ok u) e h = h
on_ok P (Err x) e h = absurd (cc)

slot_given : {E : Type 0} (l : LedgerState) (p i room : ℕ) (reserved : HostIndexes) (r : Result (Unit {0}) E) → Holds l → IsGiven l.handles p i → reserved ≡ l.host → is_err r ≡ false → OnOk r (p ≡ 0 → 0 < room)
    → p ≡ 0 → (0 < i) × (i ≤ length reserved.slots) × (0 < room)
slot_given l p i room reserved r h given same ok has zero_ =
    let one = h.host.one_slot_each in
    let a : length (table_at l.handles p).array ≡ length (table_at l.handles 0).array = ap (λ (q : ℕ). length (table_at l.handles q).array) zero_ in
    let b : length reserved.slots ≡ length l.host.slots = ap (λ (x : HostIndexes). length x.slots) same in
    let g = given.1 in
    (given.0, omega arith, on_ok (p ≡ 0 → 0 < room) r ok has zero_)

pub new_slot_given : {E : Type 0} (l : LedgerState) (p : ℕ) (q : TypedResource) (i : ℕ) (m : Handles) (room : ℕ) (reserved : HostIndexes) (r : Result (Unit {0}) E) → Holds l
    → handles.resource_new l.handles p q ≡ Ok (i, m) → reserved ≡ l.host → is_err r ≡ false → OnOk r (p ≡ 0 → 0 < room)
    → p ≡ 0 → (0 < i) × (i ≤ length reserved.slots) × (0 < room)
new_slot_given l p q i m room reserved r h e = slot_given l p i room reserved r h (subst (λ (a : StepAnswer ℕ). IfOk a (λ w. IsGiven l.handles p w.0)) e (new_given l.handles p q h.sound))

pub lower_slot_given : {E : Type 0} (l : LedgerState) (k p : ℕ) (q : TypedResource) (i : ℕ) (m : Handles) (room : ℕ) (reserved : HostIndexes) (r : Result (Unit {0}) E) → Holds l
    → lower_borrow_in (Some k) l.handles p q ≡ Ok (i, m) → reserved ≡ l.host → is_err r ≡ false → OnOk r (p ≡ 0 → 0 < room)
    → p ≡ 0 → (0 < i) × (i ≤ length reserved.slots) × (0 < room)
lower_slot_given l k p q i m room reserved r h e = slot_given l p i room reserved r h (subst (λ (a : StepAnswer ℕ). IfOk a (λ w. IsGiven l.handles p w.0)) e (lower_given l.handles k p q h.sound))

-- New tables

append_one : {A : Type 0} (n : ℕ) (x : A) → replicate n x ++ x ∷ [] ≡ replicate (suc n) x
append_one zero x = refl
append_one (suc n) x = ap (λ l. x ∷ l) (append_one n x)

map-append_table : (tables : List (TableState Entry)) (s : TableState Entry) → map (λ (s : TableState Entry). s.table) (tables ++ s ∷ []) ≡ map (λ (s : TableState Entry). s.table) tables ++ s.table ∷ []
map-append_table [] s = refl
map-append_table (x ∷ xs) s = ap (λ l. x.table ∷ l) (map-append_table xs s)

pub one_table_more : (tables new : List (TableState Entry)) (s : TableState Entry) (n k : ℕ) (t : Table Entry) → map (λ (s : TableState Entry). s.table) tables ≡ replicate n t → s.table ≡ t
    → new ≡ tables ++ s ∷ [] → k ≡ suc n → map (λ (s : TableState Entry). s.table) new ≡ replicate k t
one_table_more tables new s n k t had is e more =
    ap (map (λ (s : TableState Entry). s.table)) e ∙ map-append_table tables s ∙ ap (λ l. l ++ s.table ∷ []) had ∙ ap (λ (x : Table Entry). replicate n t ++ x ∷ []) is ∙ append_one n t ∙ ap (λ (j : ℕ). replicate j t) (sym more)

-- The host's own handles, with what it keeps of their indexes

pub same_host_lower_own : (l : LedgerState) (rep : ℕ) (dtor instance : Option ℕ) (r : Result ℕ ResourceFault) (m : LedgerState) → Did (ledger.host_resource_lower_own l rep dtor instance) r l m → SamePlaces l m
same_host_lower_own l rep dtor instance r m did = same_did (ledger.host_resource_lower_own l rep dtor instance) r l m did (stay l _ (stays_new l host_table instance dtor (Host rep)))

module _ (l : LedgerState) (p rep i : ℕ) (m : Handles) (h : Holds l) (is_host : p ≡ host_table) (e : handles.resource_new l.handles p (Host rep) ≡ Ok (i, m)) where
  pub next_slot : (reserved : HostIndexes) → reserved ≡ l.host → i ≤ length reserved.slots
  next_slot reserved same =
      let one = h.host.one_slot_each in
      let a : length (table_at l.handles p).array ≡ length (table_at l.handles 0).array = ap (λ (q : ℕ). length (table_at l.handles q).array) is_host in
      let b : length reserved.slots ≡ length l.host.slots = ap (λ (x : HostIndexes). length x.slots) same in
      let g = (subst (λ (a : StepAnswer ℕ). IfOk a (λ w. IsGiven l.handles p w.0)) e (new_given l.handles p (Host rep) h.sound)).1 in
      omega arith

  pub kept_host_own : (dtor instance : Option ℕ) (host : HostIndexes) → host ≡ with_slot l.host i instance dtor → Holds (record { handles = m; host = host })
  kept_host_own dtor instance host w =
      let at_host : handles.resource_new l.handles host_table (Host rep) ≡ Ok (i, m) = subst (λ (q : ℕ). handles.resource_new l.handles q (Host rep) ≡ Ok (i, m)) is_host e in
      let is : ◌≡◌ {A = LedgerState} (record { handles = m; host = host }) (ledger.host_resource_lower_own l rep dtor instance).after =
      (did_inserting_host (handles.resource_new l.handles host_table (Host rep)) l i m host instance dtor at_host w).1 in
      subst Holds (sym is)
      (holds l _ h (sound-step (HostLowerOwn rep dtor instance) l h.sound) (host-step (HostLowerOwn rep dtor instance) l h.sound h.host) (stays_new l host_table instance dtor (Host rep)))

-- A new ledger

pub new_holds : (tables : List (TableState Entry)) (counter : Counter) (scopes : List Context) (host : HostIndexes) (limit : ℕ) → map (λ (s : TableState Entry). s.table) tables ≡ replicate 257 (empty_table max_handle)
    → counter ≡ record { live = 0; limit = limit } → scopes ≡ [] → host.slots ≡ None ∷ [] → Holds (ledger_of tables counter scopes host)
new_holds tables counter scopes host limit empty fresh none first =
    let is : ledger_of tables counter scopes host ≡ new_ledger 256 limit host.generation =
    λ i. record { handles = record { tables = empty i; counter = fresh i; scopes = map (λ (x : Context). x.scope) (none i) }; host = record { slots = first i; generation = host.generation } } in
    let both = new_sound 256 limit host.generation in
    subst Holds (sym is) (record { sound = both.0; host = both.1; tables = length-replicate 257 (empty_table {E = Entry} max_handle) })
