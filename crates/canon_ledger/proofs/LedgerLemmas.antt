-- Each step of the ledger keeps its handles sound, and a refused one changes nothing.
use Rattle.std.proofs.Common.{◌≡◌, ℕ, zero, suc, Bool, true, false, ◌==◌, nat_le, [], ◌∷◌, Option, None, Result, Ok, Err, refl, subst, ◌⊎◌, inl, inr, IfOk}
use Rattle.canon_ledger.specs.declared.host.TableSlot.{TableSlot}
use Rattle.canon_handles.specs.declared.handle.TypedResource.TheVariants.{Host}
use Rattle.canon_handles.specs.declared.handle.TypedResourceIndex.TheVariants.{Host as HostIndex}
use Rattle.canon_ledger.specs.declared.fault.ResourceFault.{ResourceFault}
use Rattle.canon_handles.specs.Step.{and_then}
use Rattle.canon_ledger.specs.Handles as handles
use Rattle.canon_ledger.specs.Handles.{Handles, StepAnswer, IsConsistent, can_leave, host_table}
use Rattle.canon_ledger.specs.Index.{GivenIndex}
use Rattle.canon_ledger.specs.Ledger.{LedgerState, Done, LedgerStep, Enter, Leave, SetLimit, New, Rep, Drop, LiftOwn, LiftBorrow, LowerBorrow, ExitScope, HostLiftOwn, HostLiftBorrow, HostDrop, HostRemove, HostLowerOwn, HostLowerBorrow, do_step, plainly, inserting, removing, host_removing, unless_stale, is_stale, leaving, raised, Through, Partway, last_generation, drop_return, host_drop_return, with_its_slot, with_slot_answered, slot_at, resource_rep, resource_drop, host_resource_drop, removed_once_told}
use Rattle.canon_ledger.specs.Laws.{RefusalsChangeNothing, StepsKeepHandlesSound, StepsCompose, PartsCompose, WholesAreParts, with_generation_raised}
use Rattle.canon_ledger.proofs.HandlesLemmas.{sound-enter, sound-leave, sound-set_limit, sound-resource_new, sound-resource_drop, sound-resource_lift_own, sound-resource_lift_borrow, sound-resource_lower_borrow, sound-validate_scope_exit}

-- What holds of the handles before and after each accepted call holds after a step

module _ (P : Handles → Type 0) where
  pub after-plainly : {A : Type 0} (r : StepAnswer A) (l : LedgerState) → P l.handles → IfOk r (λ w. P w.1) → P (plainly r l).after.handles
  after-plainly (Ok w) l was now = now
  after-plainly (Err e) l was now = was

  pub after-inserting : (p : ℕ) (instance : Option ℕ) (dtor : Option ℕ) (r : StepAnswer ℕ) (l : LedgerState) → P l.handles → IfOk r (λ w. P w.1) → P (inserting p instance dtor r l).after.handles
  after-inserting zero instance dtor (Ok w) l was now = now
  after-inserting zero instance dtor (Err e) l was now = was
  after-inserting (suc n) instance dtor r l was now = after-plainly r l was now

  after-host_removing : {A : Type 0} (b : Bool) (step : Handles → StepAnswer A) (l : LedgerState) → P l.handles → IfOk (step l.handles) (λ w. P w.1) → P (host_removing b step l).after.handles
  after-host_removing true step l was now = was
  after-host_removing false step l was now = after-plainly (step l.handles) (record { handles = l.handles; host = raised l.host }) was now

  pub after-removing : {A : Type 0} (p : ℕ) (step : Handles → StepAnswer A) (l : LedgerState) → P l.handles → IfOk (step l.handles) (λ w. P w.1) → P (removing p step l).after.handles
  after-removing zero step l was now = after-host_removing (nat_le last_generation l.host.generation) step l was now
  after-removing (suc n) step l was now = after-plainly (step l.handles) l was now

  pub after-unless_stale : {A : Type 0} (b : Bool) (l : LedgerState) (d : Done A) → P l.handles → P d.after.handles → P (unless_stale l b d).after.handles
  after-unless_stale true l d was now = was
  after-unless_stale false l d was now = now

  pub after-once_told : (r : Result ℕ ResourceFault) (l : LedgerState) (x : GivenIndex) → P l.handles → P (host_resource_drop l x).after.handles → P (removed_once_told r l x).after.handles
  after-once_told (Ok rep) l x was now = now
  after-once_told (Err e) l x was now = was

sound-leaving : (b : Bool) (l : LedgerState) → can_leave l.handles ≡ b → IsConsistent l.handles → IsConsistent (leaving b l).after.handles
sound-leaving true l can s = sound-leave l.handles s can
sound-leaving false l can s = s

sound-host_drop : (x : GivenIndex) (l : LedgerState) → IsConsistent l.handles → IsConsistent (host_resource_drop l x).after.handles
sound-host_drop x l s = after-unless_stale IsConsistent (is_stale l.host x) l _ s
    (after-removing IsConsistent 0 (λ h. handles.resource_drop h host_table (HostIndex x.index)) l s (sound-resource_drop l.handles host_table (HostIndex x.index) s))

pub sound-step : (call : LedgerStep) (l : LedgerState) → IsConsistent l.handles → IsConsistent (do_step call l).after.handles
sound-step Enter l s = sound-enter l.handles s
sound-step Leave l s = sound-leaving (can_leave l.handles) l refl s
sound-step (SetLimit n) l s = sound-set_limit l.handles n s
sound-step (New p r) l s = after-inserting IsConsistent p None None (handles.resource_new l.handles p r) l s (sound-resource_new l.handles p r s)
sound-step (Rep p idx) l s = s
sound-step (Drop p idx) l s = after-removing IsConsistent p (λ h. handles.resource_drop h p idx) l s (sound-resource_drop l.handles p idx s)
sound-step (LiftOwn p idx) l s = after-removing IsConsistent p (λ h. handles.resource_lift_own h p idx) l s (sound-resource_lift_own l.handles p idx s)
sound-step (LiftBorrow scope p idx) l s = after-plainly IsConsistent (handles.resource_lift_borrow scope l.handles p idx) l s (sound-resource_lift_borrow scope l.handles p idx s)
sound-step (LowerBorrow scope p r) l s = after-inserting IsConsistent p None None (handles.resource_lower_borrow scope l.handles p r) l s (sound-resource_lower_borrow scope l.handles p r s)
sound-step (ExitScope scope) l s = after-plainly IsConsistent (handles.validate_scope_exit scope l.handles) l s (sound-validate_scope_exit scope l.handles s)
sound-step (HostLiftOwn x) l s = after-unless_stale IsConsistent (is_stale l.host x) l _ s
    (after-removing IsConsistent 0 (λ h. handles.resource_lift_own h host_table (HostIndex x.index)) l s (sound-resource_lift_own l.handles host_table (HostIndex x.index) s))
sound-step (HostLiftBorrow scope x) l s = after-unless_stale IsConsistent (is_stale l.host x) l _ s
    (after-plainly IsConsistent (handles.resource_lift_borrow scope l.handles host_table (HostIndex x.index)) l s (sound-resource_lift_borrow scope l.handles host_table (HostIndex x.index) s))
sound-step (HostDrop x) l s = sound-host_drop x l s
sound-step (HostRemove x) l s = after-unless_stale IsConsistent (is_stale l.host x) l _ s (after-once_told IsConsistent (resource_rep l host_table (HostIndex x.index)) l x s (sound-host_drop x l s))
sound-step (HostLowerOwn rep dtor instance) l s = after-inserting IsConsistent host_table instance dtor (handles.resource_new l.handles host_table (Host rep)) l s (sound-resource_new l.handles host_table (Host rep) s)
sound-step (HostLowerBorrow scope rep) l s = after-inserting IsConsistent host_table None None (handles.resource_lower_borrow scope l.handles host_table (Host rep)) l s (sound-resource_lower_borrow scope l.handles host_table (Host rep) s)

pub sound-run : StepsKeepHandlesSound
sound-run [] l s = s
sound-run (call ∷ calls) l s = sound-run calls (do_step call l).after (sound-step call l s)

-- Refusals

abbrev OrRaised : Bool → LedgerState → LedgerState → Type 0
OrRaised removal l l' = (l' ≡ l) ⊎ ((removal ≡ true) × (l' ≡ with_generation_raised l))

refused-plainly : {A : Type 0} (r : StepAnswer A) (l : LedgerState) (e : ResourceFault) → (plainly r l).answer ≡ Err e → (plainly r l).after ≡ l
refused-plainly (Ok w) l e is = absurd (cc)
refused-plainly (Err e') l e is = refl

refused-inserting : (p : ℕ) (instance : Option ℕ) (dtor : Option ℕ) (r : StepAnswer ℕ) (l : LedgerState) (e : ResourceFault) → (inserting p instance dtor r l).answer ≡ Err e → (inserting p instance dtor r l).after ≡ l
refused-inserting zero instance dtor (Ok w) l e is = absurd (cc)
refused-inserting zero instance dtor (Err e') l e is = refl
refused-inserting (suc n) instance dtor r l e is = refused-plainly r l e is

refused-host_removing : {A : Type 0} (b : Bool) (step : Handles → StepAnswer A) (l : LedgerState) (e : ResourceFault) → (host_removing b step l).answer ≡ Err e → OrRaised true l (host_removing b step l).after
refused-host_removing true step l e is = inl refl
refused-host_removing false step l e is = inr (refl, refused-plainly (step l.handles) (with_generation_raised l) e is)

refused-removing : {A : Type 0} (p : ℕ) (step : Handles → StepAnswer A) (l : LedgerState) (e : ResourceFault) → (removing p step l).answer ≡ Err e → OrRaised (p == 0) l (removing p step l).after
refused-removing zero step l e is = refused-host_removing (nat_le last_generation l.host.generation) step l e is
refused-removing (suc n) step l e is = inl (refused-plainly (step l.handles) l e is)

refused-then : {A B : Type 0} (f : A → B) (r : Result A ResourceFault) (e : ResourceFault) → and_then r (λ a. Ok (f a)) ≡ Err e → r ≡ Err e
refused-then f (Ok a) e is = absurd (cc)
refused-then f (Err e') e is = cc

refused-unless_stale : (removal : Bool) {A : Type 0} (b : Bool) (l : LedgerState) (d : Done A) (e : ResourceFault) → (unless_stale l b d).answer ≡ Err e
    → (d.answer ≡ Err e → OrRaised removal l d.after) → OrRaised removal l (unless_stale l b d).after
refused-unless_stale removal true l d e is h = inl refl
refused-unless_stale removal false l d e is h = h is

refused-leaving : (b : Bool) (l : LedgerState) (e : ResourceFault) → (leaving b l).answer ≡ Err e → (leaving b l).after ≡ l
refused-leaving true l e is = absurd (cc)
refused-leaving false l e is = refl

abbrev host_dropping : LedgerState → GivenIndex → Done (Option (ℕ × TableSlot))
host_dropping l x = with_slot_answered (slot_at l.host x.index) (resource_drop l host_table (HostIndex x.index))

refused-host_drop : (x : GivenIndex) (l : LedgerState) (e : ResourceFault) → (host_resource_drop l x).answer ≡ Err e → OrRaised true l (host_resource_drop l x).after
refused-host_drop x l e is =
    refused-unless_stale true (is_stale l.host x) l (host_dropping l x) e is
    (λ w. refused-removing 0 (λ h. handles.resource_drop h host_table (HostIndex x.index)) l e (refused-then (with_its_slot (slot_at l.host x.index)) (resource_drop l host_table (HostIndex x.index)).answer e w))

refused-once_told : (r : Result ℕ ResourceFault) (x : GivenIndex) (l : LedgerState) (e : ResourceFault) → (removed_once_told r l x).answer ≡ Err e → OrRaised true l (removed_once_told r l x).after
refused-once_told (Ok rep) x l e is = refused-host_drop x l e (refused-then (λ (w : Option (ℕ × TableSlot)). rep) (host_resource_drop l x).answer e is)
refused-once_told (Err e') x l e is = inl refl

pub refusals : RefusalsChangeNothing
refusals Enter l e is = absurd (cc)
refusals Leave l e is = inl (refused-leaving (can_leave l.handles) l e is)
refusals (SetLimit n) l e is = absurd (cc)
refusals (New p r) l e is = inl (refused-inserting p None None (handles.resource_new l.handles p r) l e is)
refusals (Rep p idx) l e is = inl refl
refusals (Drop p idx) l e is = refused-removing p (λ h. handles.resource_drop h p idx) l e (refused-then drop_return _ e is)
refusals (LiftOwn p idx) l e is = refused-removing p (λ h. handles.resource_lift_own h p idx) l e is
refusals (LiftBorrow scope p idx) l e is = inl (refused-plainly (handles.resource_lift_borrow scope l.handles p idx) l e is)
refusals (LowerBorrow scope p r) l e is = inl (refused-inserting p None None (handles.resource_lower_borrow scope l.handles p r) l e is)
refusals (ExitScope scope) l e is = inl (refused-plainly (handles.validate_scope_exit scope l.handles) l e (refused-then (λ (u : Unit {0}). 0) _ e is))
refusals (HostLiftOwn x) l e is = refused-unless_stale true (is_stale l.host x) l _ e is (λ w. refused-removing 0 (λ h. handles.resource_lift_own h host_table (HostIndex x.index)) l e w)
refusals (HostLiftBorrow scope x) l e is = refused-unless_stale false (is_stale l.host x) l _ e is (λ w. inl (refused-plainly (handles.resource_lift_borrow scope l.handles host_table (HostIndex x.index)) l e w))
refusals (HostDrop x) l e is = refused-host_drop x l e (refused-then host_drop_return _ e is)
refusals (HostRemove x) l e is = refused-unless_stale true (is_stale l.host x) l _ e is (λ w. refused-once_told (resource_rep l host_table (HostIndex x.index)) x l e w)
refusals (HostLowerOwn rep dtor instance) l e is = inl (refused-inserting host_table instance dtor (handles.resource_new l.handles host_table (Host rep)) l e is)
refusals (HostLowerBorrow scope rep) l e is = inl (refused-inserting host_table None None (handles.resource_lower_borrow scope l.handles host_table (Host rep)) l e is)

-- Lists of steps

pub compose : StepsCompose
compose l m n [] more first second = subst (λ k. Through k more n) first second
compose l m n (call ∷ calls) more first second = (first.0, first.1, compose (do_step call l).after m n calls more first.2 second)

pub compose_parts : PartsCompose
compose_parts l m n [] more first second = subst (λ k. Partway k more n) first second
compose_parts l m n (call ∷ calls) more first second = inr (inr (first.0, first.1, compose_parts (do_step call l).after m n calls more first.2 second))

pub whole_is_part : WholesAreParts
whole_is_part l m [] all = all
whole_is_part l m (call ∷ calls) all = inr (inr (all.0, all.1, whole_is_part (do_step call l).after m calls all.2))
