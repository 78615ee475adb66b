-- What the imports of a component do with one ask.
use Rattle.std.specs.Prelude.{Err, IfSome, List, None, Ok, Option, Result, Vec, [], option_map, ℕ, ◌+◌, ◌++◌, ◌∷◌, ◌≡◌, ◌⊎◌, length}
use Rattle.std.specs.declared.alloc.Global.{Global}
use Rattle.canon_context.specs.Core.{Parts, component_types}
use Rattle.canon_ledger.specs.Ledger.{LedgerState}
use Rattle.canon_ledger.specs.Reached.{ledger_in}
use Rattle.canon_context.specs.Host.{Closure, HostSteps, IsOutside, Returns, StaticClosure}
use Rattle.canon_context.specs.declared.fault.Fault.{Fault}
use Rattle.canon_context.specs.declared.fault.Fault.TheVariants as fault
use Rattle.canon_context.specs.declared.host.HostStop.TheVariants as stop
use Rattle.canon_context.specs.declared.host.HostStop.{HostStop}
use Rattle.canon_context.specs.declared.host.HostView.{HostView}
use Rattle.canon_memory.specs.Guest.{GuestIn, Seen}
use Rattle.canon_memory.specs.declared.event.Event.{Event}
use Rattle.canon_types.specs.declared.types.TypeFunc.{TypeFunc}
use Rattle.canon_model.specs.Memory.{cap}
use Rattle.canon_val.specs.declared.val.Val.{Val}
use Rattle.canon_host.specs.Forms.{HostFuncForm, InView, IsOfOthers, IsOfThese, MayGiveValues, RustTypes, TypedAnswering, ValuesAnswering, in_view, outcome, over_types, over_values}
use Rattle.canon_host.specs.HostSide.{Answering, LoggedEntry, Giving, entry, gives_values}
use Rattle.canon_host.specs.Serves.{AskValues, CallsBlank, Serves, ServesBy, Steps, Values, value_steps}
use Rattle.canon_host.specs.ServesTyped.{LiftsTyped, ServesTyped, typed_steps_by}
use Rattle.canon_host.specs.declared.asked.Asked.{Asked}
use Rattle.canon_host.specs.declared.error.HostError.{HostError}
use Rattle.canon_host.specs.declared.error.HostError.TheVariants as error
use Rattle.canon_model.specs.Shape.{member_count}
use Rattle.canon_types.specs.Table.{result_members}

-- ---- the log

abbrev pub logged_entry : ℕ → AskValues → LoggedEntry
logged_entry n told = entry n told.params told.results

-- the log with one entry more, where it is exposed
abbrev pub logged : Option (List LoggedEntry) → LoggedEntry → Option (List LoggedEntry)
logged log last = option_map (λ entries. entries ++ last ∷ []) log

-- ---- the call

-- The function of an import was called. Of the core it changed the data, and the ledger by the host's steps. It answered as it may, with a
-- value for each result; and where the log is exposed, it left the ledger as it was, and may answer so by the log.
pub record CallsImport {T G : Type 0} (gives : Giving T) (may : ValuesAnswering T) (log : Option (List LoggedEntry)) (n : ℕ) (asked : Asked) (before : Parts T G) (params : List Val)
    (result : Result (Unit {0}) HostStop) (after : Parts T G) (results : List Val) : Type 0 where
  pub steps : HostSteps before.ledger after.ledger
  pub same : after ≡ record before { state = after.state; ledger = after.ledger }
  pub may_give : may asked.func (in_view before) params (outcome result results) after.state after.ledger
  pub counted : length results ≡ member_count (result_members (component_types before) asked.func)
  pub by_log : IfSome log (λ entries. (after.ledger ≡ before.ledger) × gives.answers entries n before.state params (outcome result results) after.state)

-- The same of a function over Rust types, whose parameters and results are of no values: it answered as it may, and its imports expose no log.
pub record CallsUnlogged {T G P R : Type 0} (May : TypedAnswering T P R) (log : Option (List LoggedEntry)) (before : Parts T G) (params : P) (result : Result R HostStop) (after : Parts T G) : Type 0 where
  pub steps : HostSteps before.ledger after.ledger
  pub same : after ≡ record before { state = after.state; ledger = after.ledger }
  pub may_give : May (in_view before) params result after.state after.ledger
  pub unlogged : log ≡ None

-- whatever a function answers to any data and parameters is so, and leaves the ledger
abbrev pub GivesOnly : {F T : Type 0} → Closure F (HostView T) Val (Result (Unit {0}) HostStop) → F → (T → List Val → Result (List Val) HostStop → T → Type 0) → Type 0
GivesOnly {F} {T} g f P = (v w : HostView T) (type : TypeFunc) (params slots results : List Val) (r : Result (Unit {0}) HostStop) → IsOutside v → Returns g f v type params slots r w results
    → (ledger_in w.tables ≡ ledger_in v.tables) × P v.state.now params (outcome r results) w.state.now

-- whatever a function may answer, this may be answered
abbrev pub AnswersOnly : {F T : Type 0} → Closure F (HostView T) Val (Result (Unit {0}) HostStop) → F → ValuesAnswering T → Type 0
AnswersOnly {F} {T} g f May = (type : TypeFunc) (reached : InView T) (params : List Val) (answer : Result (List Val) HostStop) (state : T) (ledger : LedgerState)
    → MayGiveValues g f type reached params answer state ledger → May type reached params answer state ledger

-- no function is called: each ask is refused, and nothing changes
abbrev pub Refuses : {T : Type 0} → Answering T
Refuses log n before params result after = (result ≡ Err stop.Refused) × (after ≡ before)

abbrev pub RefusesAll : {T : Type 0} → Giving T
RefusesAll = gives_values Refuses

-- a refusal counts once; the count stays at the last number of a `u64`
abbrev pub CountsOnce : Result (Unit {0}) HostError → ℕ → ℕ → Type 0
CountsOnce (Err error.Refused) before after = after ≡ cap (before + 1)
CountsOnce (Err (error.Fault e)) before after = after ≡ before
CountsOnce (Ok x) before after = after ≡ before

-- ---- the ask

-- One ask, from one log and count of refusals to the next, served by steps of a form; `Logged` is the log after an ask that was served. A
-- refusal counts once, and nothing else counts.
module _ {T G A P R S : Type 0} (how : Steps T G A P R S) (Logged : Values P R → Option (List LoggedEntry)) (asked : Asked) (log log2 : Option (List LoggedEntry)) (refusals refusals2 : ℕ) where
  abbrev pub ServesLogged : Parts T G → List ℕ → Result (Unit {0}) HostError → Parts T G → List ℕ → Type 0
  ServesLogged before words (Ok x) after words2 = (told : Values P R) × ServesBy how asked before words (Ok told) after words2 × (log2 ≡ Logged told) × (refusals2 ≡ refusals)
  ServesLogged before words (Err error.Refused) after words2 = (log2 ≡ log) × (refusals2 ≡ cap (refusals + 1)) × ServesBy how asked before words (Err error.Refused) after words2
  ServesLogged before words (Err (error.Fault e)) after words2 = (log2 ≡ log) × (refusals2 ≡ refusals) × ServesBy how asked before words (Err (error.Fault e)) after words2

-- of Rust types: memory for the scope is wanting, or the function is of other types, which is refused where no log is exposed
abbrev pub Declines : {T G P R : Type 0} → RustTypes P R → Option (List LoggedEntry) → Asked → Parts T G → HostError → Type 0
Declines types log asked before e = (e ≡ error.Fault fault.OutOfMemory) ⊎ ((e ≡ error.Refused) × (log ≡ None) × IsOfOthers types before.component.types asked.func)

-- the function is of these types and isn't async, and its parameters are lifted
abbrev pub LiftsOf : {T G P R : Type 0} → RustTypes P R → Asked → Parts T G → List ℕ → Result P Fault → Parts T G → Type 0
LiftsOf types asked before words result after = IsOfThese types before.component.types asked.func × LiftsTyped types.reading asked before words result after

-- It is refused since the function is async or of other types, and nothing is done; or it is of these, and this closure serves the ask.
abbrev pub ServedByTyped : {F T G P R : Type 0} → StaticClosure F (HostView T) P (Result R HostStop) → F → RustTypes P R → (G → Seen) → (GuestIn G → List Event → GuestIn G → Type 0) → Asked
    → Parts T G → List ℕ → Result (Unit {0}) HostError → Parts T G → List ℕ → Type 0
ServedByTyped g f types seen moves asked before words result after words2 =
    ((result ≡ Err error.Refused) × IsOfOthers types before.component.types asked.func × (after ≡ before) × (words2 ≡ words))
    ⊎ (IsOfThese types before.component.types asked.func × ServesTyped g f types.reading types.walks types.gives seen moves asked before words result after words2)

-- This closure over values serves the ask. Which values crossed isn't kept.
abbrev pub ServedBy : {F T G : Type 0} → Closure F (HostView T) Val (Result (Unit {0}) HostStop) → F → (G → Seen) → (GuestIn G → List Event → GuestIn G → Type 0) → Asked
    → Parts T G → List ℕ → Result (Unit {0}) HostError → Parts T G → List ℕ → Type 0
ServedBy g f seen moves asked before words (Ok x) after words2 = (told : AskValues) × Serves (CallsBlank g f asked) seen moves asked before words (Ok told) after words2
ServedBy g f seen moves asked before words (Err e) after words2 = Serves (CallsBlank g f asked) seen moves asked before words (Err e) after words2

-- how a function over Rust types is served, that may answer so
module _ {T G P R : Type 0} (types : RustTypes P R) (May : TypedAnswering T P R) (log : Option (List LoggedEntry)) (seen : G → Seen) (moves : GuestIn G → List Event → GuestIn G → Type 0) (asked : Asked) where
  abbrev pub steps_of_types : Steps T G P P R (Unit {0})
  steps_of_types = typed_steps_by (Declines types log asked) (LiftsOf types asked) (CallsUnlogged May log) types.walks types.gives seen moves asked

  abbrev pub ServesTypes : Option (List LoggedEntry) → ℕ → ℕ → Parts T G → List ℕ → Result (Unit {0}) HostError → Parts T G → List ℕ → Type 0
  ServesTypes log2 refusals refusals2 = ServesLogged steps_of_types (λ told. log) asked log log2 refusals refusals2

module _ {T G : Type 0} (gives : Giving T) (log : Option (List LoggedEntry)) (n : ℕ) (seen : G → Seen) (moves : GuestIn G → List Event → GuestIn G → Type 0) (asked : Asked) where
  -- how a function over values is served, that may answer so
  abbrev pub steps_of_values : ValuesAnswering T → Steps T G (Vec Val Global) (List Val) (List Val) (List Val)
  steps_of_values may = value_steps (CallsImport gives may log n asked) seen moves asked

  -- the ask was served by such a call of a function over values
  abbrev pub ServesWith : ValuesAnswering T → Parts T G → List ℕ → Result AskValues HostError → Parts T G → List ℕ → Type 0
  ServesWith may before words result after words2 = Serves (CallsImport gives may log n asked) seen moves asked before words result after words2

  -- The import was served in its form. The values of an ask over values are added to an exposed log.
  abbrev pub ServesForm : HostFuncForm T → Option (List LoggedEntry) → ℕ → ℕ → Parts T G → List ℕ → Result (Unit {0}) HostError → Parts T G → List ℕ → Type 0
  ServesForm (over_values may) log2 refusals refusals2 = ServesLogged (steps_of_values may) (λ told. logged log (logged_entry n told)) asked log log2 refusals refusals2
  ServesForm (over_types types may) log2 refusals refusals2 = ServesTypes types may log seen moves asked log2 refusals refusals2

  abbrev pub ServesImport : Option (List LoggedEntry) → ℕ → ℕ → Parts T G → List ℕ → Result (Unit {0}) HostError → Parts T G → List ℕ → Type 0
  ServesImport log2 refusals refusals2 before words result after words2 = ServesForm (gives.form n) log2 refusals refusals2 before words result after words2
