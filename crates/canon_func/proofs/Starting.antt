-- How a call begins, said of cores: its scope is opened, and then its parameters are lowered.
use Rattle.std.proofs.Common.{Err, Global, IfErr, List, Ok, Option, Result, Vec, subst, sym, ℕ, ◌++◌, ◌≡◌}
use Rattle.canon_memory.specs.declared.event.Event.{Event}
use Rattle.canon_memory.specs.Guest.{GuestIn, Seen}
use Rattle.canon_context.specs.Asks.{SameButHandles}
use Rattle.canon_context.specs.Core.{Parts, SameButLedger, guest_of, moment_of}
use Rattle.canon_context.specs.declared.fault.Fault.TheVariants as fault
use Rattle.canon_ledger.specs.Ledger.{enter}
use Rattle.canon_host.specs.HostSide.{LoggedEntry, Giving, HostSide, host_side}
use Rattle.canon_func.specs.Asks.{Limits}
use Rattle.canon_func.specs.Call.{Adding, IsCallOf, LivesUntil, OnAnswered}
use Rattle.canon_func.specs.Passing.{Arguments, ReturnedValues}
use Rattle.canon_func.specs.Steps.{IsLate, IsRest, LoweredArgs, Serving, map_ok}
use Rattle.canon_func.specs.Stores.{Callee}
use Rattle.canon_func.specs.declared.error.Error.{Error}
use Rattle.canon_func.specs.declared.error.Error.TheVariants as error
use Rattle.canon_func.proofs.Asking.{ledger_kept, side_handles, side_ledger}
use Rattle.canon_func.proofs.Composed.{InScope, answered, call_refused, call_started, entered_call, retyped, scope_short}
use Rattle.canon_func.specs.Passed.{BlamesRightly}

-- the host has this log and this count of refusals meanwhile
module _ {T G R : Type 0} (args : Arguments) (its : ReturnedValues R) (gives : Giving T) (callee : Callee) (limits : Limits) (seen : G → Seen) (moves : GuestIn G → List Event → GuestIn G → Type 0) (Leaves : List ℕ → List ℕ → Type 0)
    (log : Option (List LoggedEntry)) (refusals : ℕ) where
  -- by what the function answers, and what is said of it
  abbrev pub WholeCall : {U : Type 0} → Result U Error → Result R Error → Parts T G → Parts T G → HostSide T → Type 0
  WholeCall result answer before after left = Adding (moment_of seen before) (moment_of seen after) (λ es. OnAnswered result (moves (guest_of before) es (guest_of after)))
      (IsCallOf args its (LivesUntil seen moves (guest_of before) (guest_of after) result) Leaves gives callee limits (moment_of seen before) (moment_of seen after) (host_side before log refusals) left answer)

  -- the same in the scope that was opened
  abbrev pub Within : {U : Type 0} → Result U Error → Result R Error → Parts T G → Parts T G → HostSide T → Type 0
  Within result answer before after left = Adding (moment_of seen before) (moment_of seen after) (λ es. OnAnswered result (moves (guest_of before) es (guest_of after)))
      (InScope args its gives callee limits (LivesUntil seen moves (guest_of before) (guest_of after) result) Leaves (host_side before log refusals) (moment_of seen before) (moment_of seen after) left answer)

  abbrev pub Lowers : {U : Type 0} → Result U Error → Result (Vec ℕ Global) Error → Parts T G → Parts T G → Type 0
  Lowers result words before after = Adding (moment_of seen before) (moment_of seen after) (λ es. OnAnswered result (moves (guest_of before) es (guest_of after)))
      (LoweredArgs args callee (moment_of seen before) (moment_of seen after) before.ledger after.ledger words)

  -- the parameters were lowered
  pub lowered : {U : Type 0} (result : Result U Error) (answer : Result R Error) (before mid after : Parts T G) (left : HostSide T) (words : Vec ℕ Global) → SameButHandles before mid
      → ((a b c : GuestIn G) (xs ys : List Event) → moves a xs b → moves b ys c → moves a (xs ++ ys) c) → Lowers (Ok words) (Ok words) before mid
      → Serving (moment_of seen mid) (moment_of seen after) (λ es. OnAnswered result (moves (guest_of mid) es (guest_of after)))
      (IsRest its gives callee limits (LivesUntil seen moves (guest_of mid) (guest_of after) result) Leaves words.items (moment_of seen mid) (moment_of seen after) (host_side mid log refusals) left answer) → Within result answer before after left
  lowered result answer before mid after left words same goes_on first second =
      call_started args its gives callee limits (LivesUntil seen moves (guest_of before) (guest_of after) result) Leaves (LivesUntil seen moves (guest_of mid) (guest_of after) result)
      (moment_of seen before) (moment_of seen mid) (moment_of seen after) (host_side before log refusals) (host_side mid log refusals) left
      (side_handles before mid log refusals same) words answer
      (λ es. moves (guest_of before) es (guest_of mid))
      (λ xs ys p q. answered result (moves (guest_of mid) ys (guest_of after)) (moves (guest_of before) (xs ++ ys) (guest_of after)) (λ r. goes_on (guest_of before) (guest_of mid) (guest_of after) xs ys p r) q)
      (λ xs p leg legs ys (next, does, is, rest). (next, goes_on (guest_of before) (guest_of mid) next xs leg.events p does, is, rest)) first second

  -- they weren't
  pub unlowered : (U : Type 0) (e : Error) (before after : Parts T G) → BlamesRightly args → SameButHandles before after → Lowers {U = Vec ℕ Global} (Err e) (Err e) before after
      → Within {U = U} (Err e) (Err e) before after (host_side after log refusals)
  unlowered U e before after law same low =
      call_refused args its gives callee limits (LivesUntil {U = U} seen moves (guest_of before) (guest_of after) (Err e)) Leaves law (moment_of seen before) (moment_of seen after)
      (host_side before log refusals) (host_side after log refusals) (side_handles before after log refusals same) e
      (record { events = low.events; added = low.added; moves = retyped (Vec ℕ Global) U e (moves (guest_of before) low.events (guest_of after)) low.moves; so = low.so })

  -- the scope was opened
  pub call_entered : {U : Type 0} (result : Result U Error) (answer : Result R Error) (before mid after : Parts T G) (left : HostSide T) → SameButLedger before mid → mid.ledger ≡ enter before.ledger
      → Within result answer mid after left → WholeCall result answer before after left
  call_entered result answer before mid after left same is h =
      entered_call args its gives callee limits (LivesUntil seen moves (guest_of before) (guest_of after) result) Leaves (moment_of seen before) (moment_of seen after) (host_side before log refusals) (host_side mid log refusals) left answer
      (λ es. OnAnswered result (moves (guest_of before) es (guest_of after)))
      (side_ledger before mid log refusals same is)
      (subst (λ k. Adding (moment_of seen k) (moment_of seen after) (λ es. OnAnswered result (moves (guest_of k) es (guest_of after)))
      (InScope args its gives callee limits (LivesUntil seen moves (guest_of k) (guest_of after) result) Leaves (host_side mid log refusals) (moment_of seen k) (moment_of seen after) left answer)) same h)

  -- memory ran out for it
  pub unentered : (U : Type 0) (before after : Parts T G) → SameButLedger before after → after.ledger ≡ before.ledger
      → WholeCall {U = U} (Err (error.Fault fault.OutOfMemory)) (Err (error.Fault fault.OutOfMemory)) before after (host_side after log refusals)
  unentered U before after same left =
      let host = host_side before log refusals in
      subst (λ k. WholeCall {U = U} (Err (error.Fault fault.OutOfMemory)) (Err (error.Fault fault.OutOfMemory)) before k (host_side k log refusals)) (sym same)
      (scope_short args its gives callee limits (LivesUntil {U = U} seen moves (guest_of before) (guest_of before) (Err (error.Fault fault.OutOfMemory))) Leaves (seen before.guest) before.memory host (record host { ledger = after.ledger })
      (ledger_kept before after log refusals left) tt)

-- a refusal of what is said of an answer is one of the answer
pub late_of : {A B : Type 0} (f : A → B) (result : Result A Error) → IfErr (map_ok f result) IsLate → IfErr result IsLate
late_of f (Ok x) h = h
late_of f (Err e) h = h
