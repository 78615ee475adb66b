-- A step that looks for a handle by a host index, and answers Ok, accepted the index.
use Rattle.std.proofs.Common.{◌≡◌, ℕ, Bool, true, false, nat_le, Option, Some, None, Result, Ok, Err, refl, subst, is_some, IfOk}
use Rattle.canon_handles.specs.declared.handle.TypedResourceIndex.{TypedResourceIndex}
use Rattle.canon_handles.specs.declared.handle.TypedResourceIndex.TheVariants.{Host as HostIndex}
use Rattle.canon_handles.specs.declared.handle.Entry.{Entry}
use Rattle.canon_handles.specs.declared.error.HandleError.{HandleError}
use Rattle.canon_ledger.specs.declared.fault.ResourceFault.{ResourceFault}
use Rattle.canon_ledger.specs.declared.host.TableSlot.{TableSlot}
use Rattle.canon_handles.specs.Step.{and_then}
use Rattle.canon_handles.specs.Table.{Table, Counter, entry_at, lookup_entry}
use Rattle.canon_handles.specs.Calls.{raw_index, lend_entry, read_rep, read_removed}
use Rattle.canon_ledger.specs.Handles as handles
use Rattle.canon_ledger.specs.Handles.{Handles, StepAnswer, table_at, at_index, dropped, lifted_own, lent, opened, lift_borrow_in, host_table, removing_resource}
use Rattle.canon_ledger.specs.Index.{GivenIndex}
use Rattle.canon_ledger.specs.Ledger.{LedgerState, Done, Enter, Leave, SetLimit, New, Rep, Drop, LiftOwn, LiftBorrow, LowerBorrow, ExitScope, HostLiftOwn, HostLiftBorrow, HostDrop, HostRemove, HostLowerOwn, HostLowerBorrow, plainly, host_removing, unless_stale, is_stale, removed_once_told, last_generation, host_drop_return, with_its_slot, with_slot_answered, slot_at, IsAccepted, resource_rep, resource_drop, resource_lift_own, resource_lift_borrow}
use Rattle.canon_ledger.specs.Laws.{AccessesAccept}
use Rattle.canon_ledger.proofs.StepLemmas.{if_ok_always}
use Rattle.canon_ledger.proofs.HandlesLemmas.{if_ok-finished}

-- Each call on an index that names nothing is refused

if_ok-const : {A B E : Type 0} (Q : Type 0) (r : Result A E) (f : A → Result B E) → IfOk r (λ _. Q) → IfOk (and_then r f) (λ _. Q)
if_ok-const Q (Ok x) f q = if_ok_always _ (f x) (λ _. q)
if_ok-const Q (Err e) f q = tt

abbrev IsThere : Handles → ℕ → TypedResourceIndex → Type 0
IsThere h p idx = is_some (entry_at (table_at h p) (raw_index idx)) ≡ true

there-looked_up : {A : Type 0} (read : Entry → Result A HandleError) (o : Option Entry) → IfOk (lookup_entry read o) (λ _. is_some o ≡ true)
there-looked_up read None = tt
there-looked_up read (Some e) = if_ok_always _ (lookup_entry read (Some e)) (λ _. refl)

there-lend_entry : (t : Table Entry) (c : Counter) (idx : TypedResourceIndex) (o : Option Entry) → IfOk (lend_entry t c idx o) (λ _. is_some o ≡ true)
there-lend_entry t c idx None = tt
there-lend_entry t c idx (Some e) = if_ok_always _ (lend_entry t c idx (Some e)) (λ _. refl)

there-at_index : {A : Type 0} (Q : Type 0) (i : ℕ) (r : Result A HandleError) → IfOk r (λ _. Q) → IfOk (at_index i r) (λ _. Q)
there-at_index Q i (Ok a) q = q
there-at_index Q i (Err e) q = tt

there-rep : (h : Handles) (p : ℕ) (idx : TypedResourceIndex) → IfOk (handles.resource_rep h p idx) (λ _. IsThere h p idx)
there-rep h p idx = there-at_index (IsThere h p idx) (raw_index idx) _ (there-looked_up (read_rep idx) (entry_at (table_at h p) (raw_index idx)))

there-removing : (h : Handles) (p : ℕ) (idx : TypedResourceIndex) → IfOk (removing_resource h p idx) (λ _. IsThere h p idx)
there-removing h p idx = if_ok-finished (λ _. IsThere h p idx) h p (raw_index idx) _
    (if_ok-const (IsThere h p idx) (lookup_entry (read_removed idx) (entry_at (table_at h p) (raw_index idx))) _ (there-looked_up (read_removed idx) (entry_at (table_at h p) (raw_index idx))))

there-lift_own : (h : Handles) (p : ℕ) (idx : TypedResourceIndex) → IfOk (handles.resource_lift_own h p idx) (λ _. IsThere h p idx)
there-lift_own h p idx = if_ok-const (IsThere h p idx) (removing_resource h p idx) lifted_own (there-removing h p idx)

there-drop : (h : Handles) (p : ℕ) (idx : TypedResourceIndex) → IfOk (handles.resource_drop h p idx) (λ _. IsThere h p idx)
there-drop h p idx = if_ok-const (IsThere h p idx) (removing_resource h p idx) dropped (there-removing h p idx)

there-lift_in : (o : Option ℕ) (h : Handles) (p : ℕ) (idx : TypedResourceIndex) → IfOk (lift_borrow_in o h p idx) (λ _. IsThere h p idx)
there-lift_in (Some k) h p idx = if_ok-const (IsThere h p idx) (handles.lending h p idx) (lent k (record { table = p; index = idx }))
    (if_ok-finished (λ _. IsThere h p idx) h p (raw_index idx) _ (there-lend_entry (table_at h p) h.counter idx (entry_at (table_at h p) (raw_index idx))))
there-lift_in None h p idx = if_ok-const (IsThere h p idx) (handles.resource_rep h p idx) _ (there-rep h p idx)

-- Steps that answer Ok

ok-then : {A B E : Type 0} (f : A → B) (r : Result A E) (b : B) → and_then r (λ a. Ok (f a)) ≡ Ok b → (a : A) × (r ≡ Ok a)
ok-then f (Ok a) b e = (a, refl)
ok-then f (Err e') b e = absurd (cc)

ok-so : {A E : Type 0} (Q : Type 0) (r : Result A E) (a : A) → IfOk r (λ _. Q) → r ≡ Ok a → Q
ok-so Q (Ok b) a q e = q
ok-so Q (Err e') a q e = absurd (cc)

ok-plainly : {A : Type 0} (Q : Type 0) (r : StepAnswer A) (l : LedgerState) (a : A) → IfOk r (λ _. Q) → (plainly r l).answer ≡ Ok a → Q
ok-plainly Q (Ok w) l a q e = q
ok-plainly Q (Err e') l a q e = absurd (cc)

ok-host_removing : {A : Type 0} (Q : Type 0) (b : Bool) (step : Handles → StepAnswer A) (l : LedgerState) (a : A) → IfOk (step l.handles) (λ _. Q) → (host_removing b step l).answer ≡ Ok a → Q
ok-host_removing Q true step l a q e = absurd (cc)
ok-host_removing Q false step l a q e = ok-plainly Q (step l.handles) _ a q e

ok-drop : (l : LedgerState) (idx : TypedResourceIndex) (a : Option ℕ) → (resource_drop l 0 idx).answer ≡ Ok a → IsThere l.handles 0 idx
ok-drop l idx a e = ok-host_removing (IsThere l.handles 0 idx) (nat_le last_generation l.host.generation) (λ h. handles.resource_drop h 0 idx) l a (there-drop l.handles 0 idx) e

ok-lift_own : (l : LedgerState) (idx : TypedResourceIndex) (a : ℕ) → (resource_lift_own l 0 idx).answer ≡ Ok a → IsThere l.handles 0 idx
ok-lift_own l idx a e = ok-host_removing (IsThere l.handles 0 idx) (nat_le last_generation l.host.generation) (λ h. handles.resource_lift_own h 0 idx) l a (there-lift_own l.handles 0 idx) e

ok-lift_borrow : (scope : Option ℕ) (l : LedgerState) (idx : TypedResourceIndex) (a : ℕ) → (resource_lift_borrow scope l 0 idx).answer ≡ Ok a → IsThere l.handles 0 idx
ok-lift_borrow scope l idx a e = ok-plainly (IsThere l.handles 0 idx) (handles.resource_lift_borrow scope l.handles 0 idx) l a (there-lift_in (opened l.handles scope) l.handles 0 idx) e

ok-once_told : (r : Result ℕ ResourceFault) (l : LedgerState) (x : GivenIndex) (Q : Type 0) (a : ℕ) → IfOk r (λ _. Q) → (removed_once_told r l x).answer ≡ Ok a → Q
ok-once_told (Ok rep) l x Q a q e = q
ok-once_told (Err e') l x Q a q e = absurd (cc)

accepts : {A : Type 0} (x : GivenIndex) (l : LedgerState) (b : Bool) (d : Done A) (a : A) → is_stale l.host x ≡ b → ((d.answer ≡ Ok a) → IsThere l.handles 0 (HostIndex x.index)) → (unless_stale l b d).answer ≡ Ok a → IsAccepted x l
accepts x l true d a stale there e = absurd (cc)
accepts x l false d a stale there e = record { current = stale; stands = there e }

accepts-drop : (x : GivenIndex) (l : LedgerState) (a : Option (ℕ × TableSlot))
    → (unless_stale l (is_stale l.host x) (with_slot_answered (slot_at l.host x.index) (resource_drop l host_table (HostIndex x.index)))).answer ≡ Ok a → IsAccepted x l
accepts-drop x l a e = accepts x l (is_stale l.host x) _ a refl
    (λ w. (let d = ok-then (with_its_slot (slot_at l.host x.index)) (resource_drop l host_table (HostIndex x.index)).answer a w in ok-drop l (HostIndex x.index) d.0 d.1)) e

pub access_accepts : AccessesAccept
access_accepts Enter x l a is e = absurd (cc)
access_accepts Leave x l a is e = absurd (cc)
access_accepts (SetLimit n) x l a is e = absurd (cc)
access_accepts (New p r) x l a is e = absurd (cc)
access_accepts (Rep p idx) x l a is e = absurd (cc)
access_accepts (Drop p idx) x l a is e = absurd (cc)
access_accepts (LiftOwn p idx) x l a is e = absurd (cc)
access_accepts (LiftBorrow scope p idx) x l a is e = absurd (cc)
access_accepts (LowerBorrow scope p r) x l a is e = absurd (cc)
access_accepts (ExitScope scope) x l a is e = absurd (cc)
access_accepts (HostLiftOwn y) x l a is e =
    let same : y ≡ x = cc in
    subst (λ (x : GivenIndex). IsAccepted x l) same (accepts y l (is_stale l.host y) _ a refl (λ w. ok-lift_own l (HostIndex y.index) a w) e)
access_accepts (HostLiftBorrow scope y) x l a is e =
    let same : y ≡ x = cc in
    subst (λ (x : GivenIndex). IsAccepted x l) same (accepts y l (is_stale l.host y) _ a refl (λ w. ok-lift_borrow scope l (HostIndex y.index) a w) e)
access_accepts (HostDrop y) x l a is e =
    let same : y ≡ x = cc in
    let d = ok-then host_drop_return _ a e in
    subst (λ (x : GivenIndex). IsAccepted x l) same (accepts-drop y l d.0 d.1)
access_accepts (HostRemove y) x l a is e =
    let same : y ≡ x = cc in
    subst (λ (x : GivenIndex). IsAccepted x l) same
    (accepts y l (is_stale l.host y) _ a refl (λ w. ok-once_told (resource_rep l host_table (HostIndex y.index)) l y _ a (there-rep l.handles host_table (HostIndex y.index)) w) e)
access_accepts (HostLowerOwn rep dtor instance) x l a is e = absurd (cc)
access_accepts (HostLowerBorrow scope rep) x l a is e = absurd (cc)
