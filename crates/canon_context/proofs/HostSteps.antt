-- Each call of the host's table outside any call is a step of the host.
use Rattle.std.proofs.Common.{Err, None, Ok, Option, Result, [], arith, inl, inr, refl, sym, ◌++◌, ◌∙◌, ◌∷◌, ◌≡◌, ap, ℕ}
use Rattle.std.proofs.lemmas.List.Elements.{All-append, All-cons}
use Rattle.canon_ledger.specs.Books.{DidSurely}
use Rattle.canon_ledger.specs.Index.{GivenIndex}
use Rattle.canon_ledger.specs.Ledger as ledger
use Rattle.canon_ledger.specs.Ledger.{Did, Done, HostDrop, HostLiftBorrow, HostLiftOwn, HostLowerOwn, HostRemove, LedgerState, LedgerStep, do_step, given, run_steps}
use Rattle.canon_ledger.specs.declared.fault.ResourceFault.{ResourceFault}
use Rattle.canon_ledger.specs.declared.host.TableSlot.{TableSlot}
use Rattle.canon_context.specs.Host.{HostSteps, IsHostStep}
use Rattle.canon_ledger.proofs.HostLemmas.{run-append}

-- a ledger that is left alone took no step
pub left_alone : (l n : LedgerState) → n ≡ l → HostSteps l n
left_alone l n same = record { steps = []; each = λ k d h. absurd (omega (arith, h)); is = same }

pub one_step : (s : LedgerStep) → IsHostStep s → (l n : LedgerState) → n ≡ (do_step s l).after → HostSteps l n
one_step s of_host l n is = record { steps = s ∷ []; each = All-cons IsHostStep s [] of_host (λ k d h. absurd (omega (arith, h))); is = is }

pub steps_then : (l m n : LedgerState) → HostSteps l m → HostSteps m n → HostSteps l n
steps_then l m n h k = record {
  steps = h.steps ++ k.steps;
  each = All-append IsHostStep h.steps k.steps h.each k.each;
  is = k.is ∙ (ap (run_steps k.steps) h.is ∙ sym (run-append h.steps k.steps l));
}

-- a step that may want memory
may_step : {A : Type 0} (d : Done A) (s : LedgerStep) → IsHostStep s → (l n : LedgerState) → d.after ≡ (do_step s l).after → (r : Result A ResourceFault) → Did d r l n → HostSteps l n
may_step d s of_host l n same (Ok a) h = one_step s of_host l n (h.1 ∙ same)
may_step d s of_host l n same (Err e) (inl h) = one_step s of_host l n (h.1 ∙ same)
may_step d s of_host l n same (Err e) (inr h) = left_alone l n h.1

-- ---- the calls

pub own_lowered : (l n : LedgerState) (rep : ℕ) (dtor instance : Option ℕ) (r : Result GivenIndex ResourceFault) → Did (given l (ledger.host_resource_lower_own l rep dtor instance)) r l n → HostSteps l n
own_lowered l n rep dtor instance r h = may_step (given l (ledger.host_resource_lower_own l rep dtor instance)) (HostLowerOwn rep dtor instance) tt l n refl r h

pub own_lifted : (l n : LedgerState) (x : GivenIndex) (r : Result ℕ ResourceFault) → DidSurely (ledger.host_resource_lift_own l x) r n → HostSteps l n
own_lifted l n x r h = one_step (HostLiftOwn x) tt l n h.1

pub borrow_lifted : (l n : LedgerState) (x : GivenIndex) (r : Result ℕ ResourceFault) → Did (ledger.host_resource_lift_borrow None l x) r l n → HostSteps l n
borrow_lifted l n x r h = may_step (ledger.host_resource_lift_borrow None l x) (HostLiftBorrow None x) tt l n refl r h

pub handle_dropped : (l n : LedgerState) (x : GivenIndex) (r : Result (Option (ℕ × TableSlot)) ResourceFault) → DidSurely (ledger.host_resource_drop l x) r n → HostSteps l n
handle_dropped l n x r h = one_step (HostDrop x) tt l n h.1

pub handle_removed : (l n : LedgerState) (x : GivenIndex) (r : Result ℕ ResourceFault) → DidSurely (ledger.host_resource_remove l x) r n → HostSteps l n
handle_removed l n x r h = one_step (HostRemove x) tt l n h.1
