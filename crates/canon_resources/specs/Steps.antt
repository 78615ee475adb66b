-- The steps of the ledger that parts are.
use Rattle.std.specs.Prelude.{Err, List, Ok, Result, [], ℕ, ◌++◌, ◌∷◌}
use Rattle.canon_handles.specs.declared.handle.TypedResource.TheVariants.{Component}
use Rattle.canon_handles.specs.declared.handle.TypedResourceIndex.TheVariants.{Component as ComponentIndex}
use Rattle.canon_ledger.specs.declared.fault.ResourceFault.{ResourceFault}
use Rattle.canon_ledger.specs.Handles.{top_scope}
use Rattle.canon_ledger.specs.Ledger.{HostLiftBorrow, HostLiftOwn, HostLowerBorrow, HostLowerOwn, LedgerState, LedgerStep, LiftBorrow, LiftOwn, LowerBorrow, New}
use Rattle.canon_resources.specs.Parts.{Part, borrow_in, do_part, host_borrow, host_own, lend, lend_host, lend_inserted, own_in, refuse, take, take_host, tell}

-- the step that a part is, where it is one
abbrev pub step_of : ℕ → Part → LedgerState → List LedgerStep
step_of last (take_host x) l = HostLiftOwn x ∷ []
step_of last (lend_host x) l = HostLiftBorrow (top_scope l.handles) x ∷ []
step_of last lend_inserted l = HostLiftBorrow (top_scope l.handles) (record { index = last; generation = l.host.generation }) ∷ []
step_of last (take p ty i) l = LiftOwn p (ComponentIndex ty i) ∷ []
step_of last (lend p ty i) l = LiftBorrow (top_scope l.handles) p (ComponentIndex ty i) ∷ []
step_of last (own_in p ty) l = New p (Component ty last) ∷ []
step_of last (borrow_in p ty) l = LowerBorrow (top_scope l.handles) p (Component ty last) ∷ []
step_of last (host_own dtor instance) l = HostLowerOwn last dtor instance ∷ []
step_of last host_borrow l = HostLowerBorrow (top_scope l.handles) last ∷ []
step_of last (refuse e) l = []
step_of last (tell n) l = []

-- of what follows a part, by what that answered
abbrev pub if_told : {A : Type 0} → Result ℕ ResourceFault → (ℕ → A) → A → A
if_told (Ok a) f x = f a
if_told (Err e) f x = x

-- those of parts, each on what the one before answered, up to a refusal
abbrev pub steps_of : ℕ → LedgerState → List Part → List LedgerStep
steps_of last l [] = []
steps_of last l (p ∷ ps) = step_of last p l ++ if_told (do_part last p l).answer (λ a. steps_of a (do_part last p l).after ps) []

-- what parts leave
abbrev pub after_parts : ℕ → LedgerState → List Part → LedgerState
after_parts last l [] = l
after_parts last l (p ∷ ps) = if_told (do_part last p l).answer (λ a. after_parts a (do_part last p l).after ps) (do_part last p l).after

-- the steps of handles, one after another
abbrev pub leaves_steps : LedgerState → List (List Part) → List LedgerStep
leaves_steps l [] = []
leaves_steps l (leaf ∷ leaves) = steps_of 0 l leaf ++ leaves_steps (after_parts 0 l leaf) leaves
