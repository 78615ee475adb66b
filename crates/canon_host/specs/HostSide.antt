-- What a host has beside its guest.
use Rattle.std.specs.Prelude.{List, Option, Result, ℕ}
use Rattle.canon_ledger.specs.Ledger.{LedgerState}
use Rattle.canon_context.specs.Core.{Parts}
use Rattle.canon_context.specs.declared.host.HostStop.{HostStop}
use Rattle.canon_val.specs.declared.val.Val.{Val}
use Rattle.canon_host.specs.Forms.{AnyValues, HostFuncForm, RustTypes, TypedAnswering, ValuesAnswering, over_types, over_values}

-- an ask that was served: the number of its import, its parameters and its results
pub record LoggedEntry : Type 0 where
  pub index : ℕ
  pub params : List Val
  pub results : List Val

abbrev pub entry : ℕ → List Val → List Val → LoggedEntry
entry index params results = record { index = index; params = params; results = results }

-- What the function of an import over values may answer where a log is exposed: by the asks that were served before, its number, the data
-- of the store, its parameters, its results or why it gave none, and the data after.
abbrev pub Answering : Type 0 → Type 1
Answering T = List LoggedEntry → ℕ → T → List Val → Result (List Val) HostStop → T → Type 0

-- What is said of the functions of imports: by its number the form of each, which says what it may answer; and what those over values may
-- answer by the asks that were served, where these are exposed.
pub record Giving (T : Type 0) : Type 1 where
  pub answers : Answering T
  pub form : ℕ → HostFuncForm T

-- all of them are over values, and the asks that were served say what they may answer
abbrev pub gives_values : {T : Type 0} → Answering T → Giving T
gives_values answers = record { answers = answers; form = λ n. over_values AnyValues }

-- all of them are over values and may answer so, and no asks are exposed
abbrev pub gives_unlogged : {T : Type 0} → ValuesAnswering T → Giving T
gives_unlogged may = record { answers = λ log n before params result after. ⊥; form = λ n. over_values may }

-- all of them are over these Rust types, and may answer so
abbrev pub gives_types : {T P R : Type 0} → RustTypes P R → TypedAnswering T P R → Giving T
gives_types types may = record { answers = λ log n before params result after. ⊥; form = λ n. over_types types may }

-- The number of a store, its data, the ledger of its handles, and what its imports expose: the asks that they served, if they expose them, and how often
-- they refused one for no fault.
pub record HostSide (T : Type 0) : Type 0 where
  pub store : ℕ
  pub state : T
  pub ledger : LedgerState
  pub log : Option (List LoggedEntry)
  pub refusals : ℕ

abbrev pub host_side : {T G : Type 0} → Parts T G → Option (List LoggedEntry) → ℕ → HostSide T
host_side core log refusals = record { store = core.id; state = core.state; ledger = core.ledger; log = log; refusals = refusals }
