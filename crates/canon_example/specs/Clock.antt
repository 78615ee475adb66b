-- What the clock of the store answers, and how far it goes on in a call.
use Rattle.std.specs.List.{sum_by}
use Rattle.std.specs.Prelude.{List, Ok, Result, Some, if◌then◌else◌, length, slice_get, suc, zero, ℕ, ◌%◌, ◌+◌, ◌<◌, ◌==◌, ◌≡◌, ◌^◌}
use Rattle.canon_context.specs.declared.host.HostStop.{HostStop}
use Rattle.canon_host.specs.Forms.{HostFuncForm, InView, ValuesAnswering, over_types, over_values}
use Rattle.canon_host.specs.HostSide.{Giving}
use Rattle.canon_ledger.specs.Ledger.{LedgerState}
use Rattle.canon_memory.specs.declared.event.Event.{Event}
use Rattle.canon_memory.specs.declared.event.Event.TheVariants as event
use Rattle.canon_types.specs.declared.types.TypeFunc.{TypeFunc}
use Rattle.canon_val.specs.declared.val.Val.{Val}
use Rattle.canon_val.specs.declared.val.Val.TheVariants as val
use Rattle.canon_example.specs.declared.Clock.{Clock}

-- It goes on by one, and tells that time as its first result. It leaves the handles.
abbrev pub Ticks : ValuesAnswering Clock
Ticks type reached params answer state ledger =
    (state.now ≡ (reached.state.now + 1) % 2 ^ 32)
    × ((results : List Val) × (answer ≡ Ok results) × (0 < length results → slice_get results 0 ≡ Some (val.U32 state.now)))
    × (ledger ≡ reached.ledger)

-- an import that may answer so alone
abbrev pub IsClock : HostFuncForm Clock → Type 0
IsClock (over_values may) = (type : TypeFunc) (reached : InView Clock) (params : List Val) (answer : Result (List Val) HostStop) (state : Clock) (ledger : LedgerState) → may type reached params answer state ledger
    → Ticks type reached params answer state ledger
IsClock (over_types types may) = ⊥

-- each function of the host is such a clock
abbrev pub AreClocks : Giving Clock → Type 0
AreClocks gives = (n : ℕ) → IsClock (gives.form n)

-- 1 where the event is an ask for the import of this number
abbrev pub asked : ℕ → Event → ℕ
asked n (event.Ask index words memory) = if index == n then 1 else 0
asked n _ = 0

-- how often the import of this number was asked for
abbrev pub asks_of : ℕ → List Event → ℕ
asks_of n events = sum_by (asked n) events

-- what a clock tells that goes on so often from this time
abbrev pub after_ticks : ℕ → ℕ → ℕ
after_ticks zero now = now
after_ticks (suc k) now = after_ticks k ((now + 1) % 2 ^ 32)
