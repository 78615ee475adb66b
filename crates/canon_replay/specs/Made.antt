-- What calling a function of the store does.
use Rattle.std.specs.Prelude.{IfSome, IsNone, List, OnOk, Result, length, ℕ, ◌≡◌}
use Rattle.canon_context.specs.Core.{guest_of, moment_of}
use Rattle.canon_val.specs.declared.val.Val.{Val}
use Rattle.canon_func.specs.Asks.{allowed}
use Rattle.canon_func.specs.Call.{Adding, IsCall, LivesUntil, OnAnswered, call_refusal, refused_by}
use Rattle.canon_func.specs.Steps.{SameButHost}
use Rattle.canon_func.specs.Stores.{Named, callee_of}
use Rattle.canon_func.specs.declared.error.Error.{Error}
use Rattle.canon_replay.specs.Calls.{replay_host}
use Rattle.canon_replay.specs.Imports.{GivesNext}
use Rattle.canon_replay.specs.Stores.{JournaledReplays, ReplayStore, asks_in_store, journaled_seen}

-- A function was called with these parameters and so many slots for results, which it left so: refused before the guest was entered, which leaves the
-- store as it was, or called.
pub record CallsAgain (f : Named) (params : List Val) (slots : ℕ) (before after : ReplayStore) (result : Result (Unit {0}) Error) (results : List Val) : Type 0 where
  pub refused : refused_by result ≡ call_refusal (callee_of before f) (length params) slots before.trapped
  pub unchanged : IfSome (refused_by result) (λ e. after ≡ before)
  pub call : IsNone (refused_by result) → Adding (moment_of journaled_seen before.core) (moment_of journaled_seen after.core)
      (λ events. OnAnswered result (JournaledReplays (guest_of before.core) events (guest_of after.core)))
      (λ events. IsCall (LivesUntil journaled_seen JournaledReplays (guest_of before.core) (guest_of after.core) result) (λ m n. n ≡ m) (GivesNext (asks_in_store before)) (callee_of before f)
      (allowed before.core.fuel before.turns) params (moment_of journaled_seen before.core) (moment_of journaled_seen after.core) (replay_host before) (replay_host after) result results events)
  pub runs : OnOk result (after.trapped ≡ before.trapped)
  pub same : SameButHost before.core after.core
  pub turns_kept : after.turns ≡ before.turns
  pub plan : after.imports.asks ≡ before.imports.asks
