-- How a call ends whose guest returned, said of cores: the guest left `ran`, where the call's scope has ended, and then the results
-- were lifted, which left `lifted`.
use Rattle.std.proofs.Common.{Err, List, Ok, Option, Result, [], refl, subst, sym, true, ℕ, ◌++◌, ◌≡◌}
use Rattle.canon_memory.specs.declared.event.Event.{Event}
use Rattle.canon_memory.specs.Guest.{GuestIn, Seen}
use Rattle.canon_context.specs.Asks.{SameButHandles}
use Rattle.canon_context.specs.Core.{Parts, SameButLedger, guest_of, moment_of}
use Rattle.canon_context.specs.declared.fault.Fault.{Fault}
use Rattle.canon_ledger.specs.Handles.{can_leave}
use Rattle.canon_ledger.specs.Ledger.{LedgerState, leave}
use Rattle.canon_host.specs.HostSide.{LoggedEntry, Giving, HostSide, host_side}
use Rattle.canon_func.specs.Asks.{Limits}
use Rattle.canon_func.specs.Call.{LivesUntil, OnAnswered}
use Rattle.canon_func.specs.Passing.{ReturnedValues}
use Rattle.canon_func.specs.Steps.{Concluded, IsRest, Lifted, Posted, Proceeds, RunsToEnd, Serving}
use Rattle.canon_func.specs.Stores.{Callee}
use Rattle.canon_func.specs.declared.error.Error.{Error}
use Rattle.canon_func.specs.declared.error.Error.TheVariants as error
use Rattle.canon_func.proofs.Asking.{side_handles}
use Rattle.canon_func.proofs.Composed.{answers, conclude_done, conclude_failed, conclude_unlifted, retyped, run_returned}
use Rattle.canon_func.proofs.Lived.{lives_then}
use Rattle.canon_func.proofs.Leaving.{lifted_leaves}
use Rattle.canon_func.specs.Passed.{ReadsRightly}

module _ {T G R : Type 0} (its : ReturnedValues R) (gives : Giving T) (callee : Callee) (limits : Limits) (seen : G → Seen) (moves : GuestIn G → List Event → GuestIn G → Type 0) (Leaves : List ℕ → List ℕ → Type 0)
    (words : List ℕ) (before ran : Parts T G) (host : HostSide T) (log : Option (List LoggedEntry)) (refusals : ℕ) (returned : List ℕ) where
  abbrev pub Ran : Type 0
  Ran = Serving (moment_of seen before) (moment_of seen ran) (λ es. OnAnswered {T = List ℕ} (Ok returned) (moves (guest_of before) es (guest_of ran)))
      (RunsToEnd gives callee limits (LivesUntil {U = List ℕ} seen moves (guest_of before) (guest_of ran) (Ok returned)) words (moment_of seen before) (moment_of seen ran) host (host_side ran log refusals) (Ok returned))

  -- the rest of the call, by what the function answers and what is said of it
  abbrev pub Rest : {U : Type 0} → Result U Error → Result R Error → Parts T G → Type 0
  Rest result answer after = Serving (moment_of seen before) (moment_of seen after) (λ es. OnAnswered result (moves (guest_of before) es (guest_of after)))
      (IsRest its gives callee limits (LivesUntil seen moves (guest_of before) (guest_of after) result) Leaves words (moment_of seen before) (moment_of seen after) host (host_side after log refusals) answer)

  abbrev pub Finished : (after : Parts T G) → Result (Unit {0}) Error → Parts T G → Type 0
  Finished lifted r after = Proceeds (moment_of seen lifted) (moment_of seen after) (λ es. OnAnswered r (moves (guest_of lifted) es (guest_of after))) (Posted Leaves callee returned (moment_of seen lifted) (moment_of seen after) r)

  -- the scope may be left
  pub may_leave : (lifted : Parts T G) (results : R) → Ran → Lifted its limits.fuel returned ran.memory ran.ledger lifted.ledger (Ok results) → can_leave lifted.ledger.handles ≡ true
  may_leave lifted results first h = let out = first.so in lifted_leaves out.ran.ledger ran.ledger lifted.ledger out.ends.1 h.3

  module _ (law : ReadsRightly callee its) (goes_on : (a b c : GuestIn G) (xs ys : List Event) → moves a xs b → moves b ys c → moves a (xs ++ ys) c) (first : Ran) (lifted : Parts T G) (same : SameButLedger ran lifted) where
    -- the results weren't lifted
    pub call_unlifted : (U : Type 0) (f : Fault) → ((a : GuestIn G) → moves a [] a) → Lifted its limits.fuel returned ran.memory ran.ledger lifted.ledger (Err f) → Rest {U = U} (Err (error.Fault f)) (Err (error.Fault f)) lifted
    call_unlifted U f stays h =
        let e : Error = error.Fault f in
        let N : List Event → Type 0 = λ es. OnAnswered {T = U} (Err e) (moves (guest_of ran) es (guest_of ran)) in
        subst (λ k. Rest {U = U} (Err e) (Err e) k) (sym same)
        (run_returned its gives callee limits (LivesUntil {U = U} seen moves (guest_of before) (guest_of ran) (Err e)) Leaves law words (moment_of seen before) (moment_of seen ran) (moment_of seen ran) host (host_side ran log refusals)
        (record (host_side ran log refusals) { ledger = lifted.ledger }) refl returned (Err e)
        (LivesUntil {U = List ℕ} seen moves (guest_of before) (guest_of ran) (Ok returned)) N
        (lives_then seen moves U (List ℕ) returned (Err e) (guest_of before) (guest_of ran) (guest_of ran) goes_on) first
        (conclude_unlifted its Leaves callee limits.fuel returned ran.ledger (seen ran.guest) ran.memory lifted.ledger f N h (answers {T = U} (Err e) (moves (guest_of ran) [] (guest_of ran)) (stays (guest_of ran)))))

    module _ (after : Parts T G) (kept : SameButHandles lifted after) (results : R) (h : Lifted its limits.fuel returned ran.memory ran.ledger lifted.ledger (Ok results)) where
      from_ran : SameButHandles ran after
      from_ran = subst (λ k. SameButHandles k after) same kept

      finished : (r : Result (Unit {0}) Error) → Finished lifted r after → Finished ran r after
      finished r p = subst (λ k. Finished k r after) same p

      -- they were, and post-return failed
      pub failed : (U : Type 0) (e : Error) → after.ledger ≡ lifted.ledger → Finished lifted (Err e) after → Rest {U = U} (Err e) (Err e) after
      failed U e left p =
          let N : List Event → Type 0 = λ es. OnAnswered {T = U} (Err e) (moves (guest_of ran) es (guest_of after)) in
          let concluded : Proceeds (moment_of seen ran) (moment_of seen after) N (Concluded its Leaves callee limits.fuel returned (moment_of seen ran) (moment_of seen after) ran.ledger lifted.ledger (Err e)) =
          conclude_failed its Leaves callee limits.fuel returned ran.ledger (moment_of seen ran) (moment_of seen after) lifted.ledger results h e (λ es. OnAnswered {T = Unit {0}} (Err e) (moves (guest_of ran) es (guest_of after))) N
          (λ es q. retyped (Unit {0}) U e (moves (guest_of ran) es (guest_of after)) q) (finished (Err e) p) in
          run_returned its gives callee limits (LivesUntil {U = U} seen moves (guest_of before) (guest_of after) (Err e)) Leaves law words (moment_of seen before) (moment_of seen ran)
          (moment_of seen after) host (host_side ran log refusals) (host_side after log refusals)
          (side_handles ran after log refusals from_ran) returned (Err e)
          (LivesUntil {U = List ℕ} seen moves (guest_of before) (guest_of ran) (Ok returned)) N
          (lives_then seen moves U (List ℕ) returned (Err e) (guest_of before) (guest_of ran) (guest_of after) goes_on) first
          (subst (λ (l : LedgerState). Proceeds (moment_of seen ran) (moment_of seen after) N (Concluded its Leaves callee limits.fuel returned (moment_of seen ran) (moment_of seen after) ran.ledger l (Err e))) (sym left) concluded)

      -- and the whole was done
      pub completed : {U : Type 0} (u : U) → after.ledger ≡ leave lifted.ledger → Finished lifted (Ok tt) after → Rest {U = U} (Ok u) (Ok results) after
      completed {U} u left p =
          run_returned its gives callee limits (LivesUntil {U = U} seen moves (guest_of before) (guest_of after) (Ok u)) Leaves law words (moment_of seen before) (moment_of seen ran)
          (moment_of seen after) host (host_side ran log refusals) (host_side after log refusals)
          (side_handles ran after log refusals from_ran) returned (Ok results)
          (LivesUntil {U = List ℕ} seen moves (guest_of before) (guest_of ran) (Ok returned)) (λ es. moves (guest_of ran) es (guest_of after))
          (lives_then seen moves U (List ℕ) returned (Ok u) (guest_of before) (guest_of ran) (guest_of after) goes_on) first
          (conclude_done its Leaves callee limits.fuel returned ran.ledger (moment_of seen ran) (moment_of seen after) lifted.ledger results h after.ledger (λ es. moves (guest_of ran) es (guest_of after)) left (finished (Ok tt) p))
