-- What a drop did, from what its steps did.
use Rattle.std.proofs.Common.{Err, List, None, Ok, Option, Result, Some, [], ap, arith, inl, inr, refl, subst, sym, true, ℕ, ◌∙◌, ◌≡◌}
use Rattle.std.specs.Prelude.{IsSome}
use Rattle.std.proofs.lemmas.List.{append-nil}
use Rattle.canon_model.specs.Memory.{memory_of}
use Rattle.canon_ledger.specs.Index.{GivenIndex}
use Rattle.canon_ledger.specs.Ledger.{LedgerState, enter, host_resource_drop, leave}
use Rattle.canon_memory.specs.declared.event.Event.{Event}
use Rattle.canon_memory.specs.Counts.{Rose}
use Rattle.canon_memory.specs.Guest.{Goes, GuestIn, Moment, Seen, guest_in, moment}
use Rattle.canon_memory.specs.Journal.{AddsEvents}
use Rattle.canon_context.specs.Core.{Parts, SameButLedger, guest_of, moment_of}
use Rattle.canon_context.specs.declared.fault.Fault.TheVariants as fault
use Rattle.canon_func.specs.Call.{OnAnswered}
use Rattle.canon_func.specs.Drop.{Failed, IsCutOff, IsDrop, IsRemoved, Ran, Removes, destructor_at, destructor_by, destructor_events}
use Rattle.canon_func.specs.Stores.{StoreView}
use Rattle.canon_func.specs.declared.dropping.Destructor.{Destructor}
use Rattle.canon_func.specs.declared.error.Error.{Error}
use Rattle.canon_func.specs.declared.error.Error.TheVariants as error
use Rattle.canon_func.proofs.Scoped.{leave_entered, through_drop, through_leave}

-- ---- the guest

adds_nothing : (journal : Option (List Event)) → AddsEvents journal journal []
adds_nothing None = refl
adds_nothing (Some events) = ap (λ (es : List Event). Some es) (sym (append-nil events))

goes_nowhere : (m : Moment) → Goes m m [] []
goes_nowhere m = record {
  no_shorter = omega arith;
  traps_later = omega arith;
  shortages_later = omega arith;
  marks = sym (append-nil m.guest.marks);
  events = adds_nothing m.guest.journal;
}

on_answered : (answer : Result (Unit {0}) Error) (P : Type 0) → P → OnAnswered answer P
on_answered (Ok x) P p = p
on_answered (Err (error.Fault fault.OutOfMemory)) P p = tt
on_answered (Err e) P p = p

-- out of memory has no events
no_events : (destructor : Option Destructor) (memory : List ℕ) → destructor_events destructor memory (Err (error.Fault fault.OutOfMemory)) ≡ []
no_events None memory = refl
no_events (Some d) memory = refl

module _ {T G : Type 0} (seen : G → Seen) (moves : GuestIn G → List Event → GuestIn G → Type 0) (Leaves : List ℕ → List ℕ → Type 0) where
  module _ (stays : (g : GuestIn G) → moves g [] g) (before after : Parts T G) (guest : after.guest ≡ before.guest) (memory : after.memory ≡ before.memory) (wide : after.wide ≡ before.wide) where
    still : Goes (moment_of seen before) (moment_of seen after) [] []
    still = subst (λ (m : Moment). Goes (moment_of seen before) m [] []) (λ i. moment (seen (sym guest i)) (sym memory i)) (goes_nowhere (moment_of seen before))

    stayed : moves (guest_of before) [] (guest_of after)
    stayed = subst (λ (g : GuestIn G). moves (guest_of before) [] g) (λ i. guest_in (sym guest i) (memory_of (sym memory i) (sym wide i))) (stays (guest_of before))

    -- without a destructor
    pub ran_none : Ran seen moves Leaves None before after (Ok tt)
    ran_none = record { goes = still; moved = stayed; memory = memory; idle = λ _. (guest, memory) }

    -- one that isn't run
    ran_not : (destructor : Option Destructor) (e : Error) → destructor_events destructor before.memory (Err e) ≡ [] → Ran seen moves Leaves destructor before after (Err e)
    ran_not destructor e none = record {
      goes = subst (λ (es : List Event). Goes (moment_of seen before) (moment_of seen after) [] es) (sym none) still;
      moved = on_answered (Err e) _ (subst (λ (es : List Event). moves (guest_of before) es (guest_of after)) (sym none) stayed);
      memory = tt;
      idle = λ _. (guest, memory);
    }

  -- it ran all the same where only the ledger was another
  ran_from : (destructor : Option Destructor) (before mid after : Parts T G) (answer : Result (Unit {0}) Error) → SameButLedger before mid
      → Ran seen moves Leaves destructor mid after answer → Ran seen moves Leaves destructor before after answer
  ran_from destructor before mid after answer same ran =
      let moved : Ran seen moves Leaves destructor (record before { ledger = mid.ledger }) after answer = subst (λ (k : Parts T G). Ran seen moves Leaves destructor k after answer) same ran in
      record { goes = moved.goes; moved = moved.moved; memory = moved.memory; idle = moved.idle }

  -- ---- the whole

  but_ledger : (before after : Parts T G) → SameButLedger before after → after ≡ record before { guest = after.guest; memory = after.memory; ledger = after.ledger }
  but_ledger before after same = same ∙ (λ i. record before { guest = ap (λ k. k.guest) (sym same) i; memory = ap (λ k. k.memory) (sym same) i; ledger = after.ledger })

  module _ {I : Type 0} (stays : (g : GuestIn G) → moves g [] g) (x : GivenIndex) (before after : StoreView T G I) where
    -- the handle wasn't removed
    pub not_removed : (e : Error) → SameButLedger before.core after.core → after.imports ≡ before.imports → after.turns ≡ before.turns → after.trapped ≡ before.trapped
        → Removes before.core.ledger x after.core.ledger (Err e) → IsDrop seen moves Leaves x before after (Err e)
    not_removed (error.Fault fault.OutOfMemory) same imports turns trapped unchanged = record {
      outcome = inl (λ i. record { core = (same ∙ ap (λ (l : LedgerState). record before.core { ledger = l }) unchanged) i; imports = imports i; turns = turns i; trapped = trapped i });
      destructor = ran_not stays before.core after.core (ap (λ k. k.guest) same) (ap (λ k. k.memory) same) (ap (λ k. k.wide) same) (destructor_at before.core.ledger x) (error.Fault fault.OutOfMemory) (no_events _ before.core.memory);
      same = but_ledger before.core after.core same;
    }
    not_removed (error.Fault (fault.Resource e)) same imports turns trapped (refused, left) = record {
      outcome = (refused, λ i. record { core = (same ∙ ap (λ (l : LedgerState). record before.core { ledger = l }) left) i; imports = imports i; turns = turns i; trapped = trapped i });
      destructor = ran_not stays before.core after.core (ap (λ k. k.guest) same) (ap (λ k. k.memory) same) (ap (λ k. k.wide) same) (destructor_at before.core.ledger x) (error.Fault (fault.Resource e))
          (ap (λ r. destructor_events (destructor_by r) before.core.memory (Err (error.Fault (fault.Resource e)))) refused);
      same = but_ledger before.core after.core same;
    }
    not_removed e same imports turns trapped none = absurd none

    module _ (mid : Parts T G) (destructor : Option Destructor) (removed : IsRemoved before.core.ledger x destructor mid.ledger) (same : SameButLedger before.core mid)
        (rest : after.core ≡ record mid { guest = after.core.guest; memory = after.core.memory; ledger = after.core.ledger }) where
      it_is : destructor_at before.core.ledger x ≡ destructor
      it_is = ap destructor_by removed.answered ∙ sym removed.asks

      it_ran : (answer : Result (Unit {0}) Error) → Ran seen moves Leaves destructor mid after.core answer → Ran seen moves Leaves (destructor_at before.core.ledger x) before.core after.core answer
      it_ran answer ran = subst (λ (d : Option Destructor). Ran seen moves Leaves d before.core after.core answer) (sym it_is) (ran_from destructor before.core mid after.core answer same ran)

      all_same : after.core ≡ record before.core { guest = after.core.guest; memory = after.core.memory; ledger = after.core.ledger }
      all_same = rest ∙ ap (λ (k : Parts T G). record k { guest = after.core.guest; memory = after.core.memory; ledger = after.core.ledger }) same

      -- the handle was removed, and the scope left
      pub is_dropped : Ran seen moves Leaves destructor mid after.core (Ok tt) → after.core.ledger ≡ leave mid.ledger → after.trapped ≡ before.trapped → IsDrop seen moves Leaves x before after (Ok tt)
      is_dropped ran left trapped =
          let ledger : after.core.ledger ≡ (host_resource_drop before.core.ledger x).after = left ∙ (ap leave removed.ledger ∙ leave_entered (host_resource_drop before.core.ledger x).after) in
          record {
            outcome = record { steps = through_leave before.core.ledger x removed.removed removed.answered after.core.ledger ledger; ledger = ledger; same_trapped = trapped };
            destructor = it_ran (Ok tt) ran;
            same = all_same;
          }

      cut_off : IsSome destructor → after.core.ledger ≡ mid.ledger → after.trapped ≡ true → IsCutOff x before.core.ledger after.core.ledger after.trapped
      cut_off some stays_open trapped =
          let ledger : after.core.ledger ≡ enter (host_resource_drop before.core.ledger x).after = stays_open ∙ removed.ledger in
          record {
            has_destructor = subst IsSome (sym it_is) some;
            steps = through_drop before.core.ledger x removed.removed removed.answered after.core.ledger ledger;
            ledger = ledger;
            now_trapped = trapped;
          }

      -- the destructor failed, and the scope stays open
      pub is_cut_off : (e : Error) → Ran seen moves Leaves destructor mid after.core (Err e)
          → after.core.ledger ≡ mid.ledger → after.trapped ≡ true → Failed seen destructor mid after.core e → IsDrop seen moves Leaves x before after (Err e)
      is_cut_off (error.Fault fault.GuestTrap) ran stays_open trapped (some, rose) = record {
        outcome = (cut_off some stays_open trapped, subst (λ (k : Parts T G). Rose (seen k.guest).traps (seen after.core.guest).traps) same rose);
        destructor = it_ran (Err (error.Fault fault.GuestTrap)) ran;
        same = all_same;
      }
      is_cut_off (error.Fault fault.OutOfMemory) ran stays_open trapped some = record {
        outcome = inr (cut_off some stays_open trapped);
        destructor = it_ran (Err (error.Fault fault.OutOfMemory)) ran;
        same = all_same;
      }
      is_cut_off e ran stays_open trapped none = absurd none
