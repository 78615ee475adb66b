-- How often a call lets the guest go.
use Rattle.std.specs.Prelude.{List, Option, Result, [], ℕ, ◌+◌, ◌∷◌, ◌≤◌}
use Rattle.canon_memory.specs.Guest.{GuestIn, Seen}
use Rattle.canon_memory.specs.declared.event.Event.{Event}
use Rattle.canon_memory.specs.declared.event.Event.TheVariants as event
use Rattle.canon_val.specs.declared.val.Val.{Val}
use Rattle.canon_host.specs.HostSide.{Giving, LoggedEntry}
use Rattle.canon_func.specs.Called.{CallOf}
use Rattle.canon_func.specs.Stores.{Named, StoreView}
use Rattle.canon_func.specs.declared.error.Error.{Error}

-- how often the guest was started or resumed
abbrev pub let_go_in : List Event → ℕ
let_go_in [] = 0
let_go_in (event.Start func words memory ∷ events) = 1 + let_go_in events
let_go_in (event.Resume words memory ∷ events) = 1 + let_go_in events
let_go_in (e ∷ events) = let_go_in events

module _ {T G I P : Type 0} (seen : G → Seen) (moves : GuestIn G → List Event → GuestIn G → Type 0) (leaves : List ℕ → List ℕ → Type 0)
    (plan : I → P) (gives : P → Giving T) (log : I → Option (List LoggedEntry)) (refusals : I → ℕ) where
  -- A call, however it ends, starts and resumes the guest together at most once more than it may have asks served.
  abbrev pub LetsGoSeldom : Type 0
  LetsGoSeldom = (before after : StoreView T G I) (func : Named) (params : List Val) (answer : Result (Unit {0}) Error) (results : List Val)
      → (called : CallOf seen moves leaves plan gives log refusals before func params answer results after) → let_go_in called.events ≤ before.turns + 1
