-- What the contracts of calls name: a call in a store, by the store before and after.
use Rattle.std.specs.Prelude.{List, Option, Result, ℕ}
use Rattle.canon_memory.specs.Guest.{GuestIn, Seen}
use Rattle.canon_memory.specs.declared.event.Event.{Event}
use Rattle.canon_context.specs.Core.{Parts, guest_of, moment_of}
use Rattle.canon_val.specs.declared.val.Val.{Val}
use Rattle.canon_host.specs.HostSide.{Giving, HostSide, LoggedEntry, host_side}
use Rattle.canon_func.specs.Asks.{allowed}
use Rattle.canon_func.specs.Call.{Adding, IsCallOf, LivesUntil, OnAnswered, dynamic, dynamic_results, with_results}
use Rattle.canon_func.specs.Passing.{Arguments, ReturnedValues}
use Rattle.canon_func.specs.Stores.{Callee, Named, StoreView, callee_of}
use Rattle.canon_func.specs.declared.error.Error.{Error}

-- Of a guest: what is seen of it, how it moves, and what its post-return leaves. Of imports: their plan, what it gives, the asks that they expose, and
-- how often they refused. These are what the traits' ghost members say.
module _ {T G I P : Type 0} (seen : G → Seen) (moves : GuestIn G → List Event → GuestIn G → Type 0) (leaves : List ℕ → List ℕ → Type 0)
    (plan : I → P) (gives : P → Giving T) (log : I → Option (List LoggedEntry)) (refusals : I → ℕ) where
  abbrev pub store_host : Parts T G → I → HostSide T
  store_host core imports = host_side core (log imports) (refusals imports)

  -- From one core with its imports to another its guest added events, by which it moved, and by them a callee was called, which may be asked so
  -- often (CanonicalABI.md, "canon_lift").
  abbrev pub CallsIn : {R U : Type 0} → Arguments → ReturnedValues R → Callee → (turns : ℕ) → Parts T G → I → Parts T G → I → Result U Error → Result R Error → Type 0
  CallsIn args its callee turns before imports after imports2 answer results =
      Adding (moment_of seen before) (moment_of seen after) (λ events. OnAnswered answer (moves (guest_of before) events (guest_of after)))
      (λ events. IsCallOf args its (LivesUntil seen moves (guest_of before) (guest_of after) answer) leaves (gives (plan imports)) callee (allowed before.fuel turns)
      (moment_of seen before) (moment_of seen after) (store_host before imports) (store_host after imports2) results events)

  -- The same of a function of a store, which was called with these parameters, answered so and left these results.
  abbrev pub CallOf : StoreView T G I → Named → List Val → Result (Unit {0}) Error → List Val → StoreView T G I → Type 0
  CallOf before func params answer results after =
      CallsIn (dynamic (callee_of before func) params) (dynamic_results (callee_of before func)) (callee_of before func) before.turns
      before.core before.imports after.core after.imports answer (with_results answer results)
