-- Which components may be recorded, and which recordings are of a component.
use Rattle.std.specs.Prelude.{All, List, [], false, slice_get, suc, zero, length, ℕ, ⊤, ◌<◌, ◌^◌, ◌≡◌, ◌∷◌}
use Rattle.canon_model.specs.Shape.{Members, Shape}
use Rattle.canon_model.specs.Tree.{Tree, Trees}
use Rattle.canon_memory.specs.declared.event.Event.{Event}
use Rattle.canon_context.specs.Quiet.{have_block}
use Rattle.canon_context.specs.declared.component.Component.{Component}
use Rattle.canon_context.specs.declared.component.Import.{Import}
use Rattle.canon_context.specs.declared.component.Import.TheVariants as import
use Rattle.canon_plan.specs.NoHandle.{HaveNoHandle}
use Rattle.canon_val.specs.Value.{HasTree, HaveTrees}
use Rattle.canon_val.specs.declared.val.Val.{Val}
use Rattle.canon_func.specs.Runs.{Grows, IsOneRun, last_len}
use Rattle.canon_func.specs.Stores.{Callee, callee_in}
use Rattle.canon_recording_parts.specs.Events.{IsWritten}
use Rattle.canon_recording.specs.Recordings.{Functions, RecordedCall, ServedAsk, exports_of, imports_of}

-- ---- components

abbrev pub IsHost : Import → Type 0
IsHost (import.Host type options) = ⊤
IsHost _ = ⊥

-- No function reaches a handle; the imports are functions of the host, whose results reach no text, list or map.
pub record IsRecordable (c : Component) : Type 0 where
  pub exports : (n : ℕ) → n < length c.exports.items → HaveNoHandle ((exports_of c).params n) × HaveNoHandle ((exports_of c).results n)
  pub hosts : All IsHost c.imports.items
  pub imports : (n : ℕ) → n < length c.imports.items → HaveNoHandle ((imports_of c).params n) × HaveNoHandle ((imports_of c).results n)
  pub flat_results : (n : ℕ) → n < length c.imports.items → have_block ((imports_of c).results n) ≡ false

-- ---- recordings

-- the values are of these types
abbrev pub AreValuesOf : Members → List Val → Type 0
AreValuesOf ms vs = (ts : Trees) × HaveTrees ms vs ts

-- a value is of the type
abbrev pub IsValueOf : Shape → Val → Type 0
IsValueOf s v = (t : Tree) × HasTree s v t

-- they are, and the types reach no handle
pub record ArePlainValues (ms : Members) (vs : List Val) : Type 0 where
  pub no_handle : HaveNoHandle ms
  pub are : AreValuesOf ms vs

-- the number is that of one of the functions, and the values are of its types
pub record IsOfFunction (functions : Functions) (n : ℕ) (given answered : List Val) : Type 0 where
  pub known : n < functions.count
  pub params : AreValuesOf (functions.params n) given
  pub results : AreValuesOf (functions.results n) answered

-- the same of their values alone
abbrev pub ArePassedValues : Functions → ℕ → List Val → List Val → Type 0
ArePassedValues functions n given answered = AreValuesOf (functions.params n) given × AreValuesOf (functions.results n) answered

abbrev pub IsServedAskOf : Functions → ServedAsk → Type 0
IsServedAskOf imports s = IsOfFunction imports s.import s.params s.results

-- there are few enough, and each is of a kind that is written, with one of so many imports
abbrev pub HaveKnownEvents : ℕ → List Event → Type 0
HaveKnownEvents imports events = (length events < 2 ^ 32) × All (IsWritten imports) events

-- the call is one of a component with these functions
pub record IsRecordedCallOf (exports imports : Functions) (call : RecordedCall) : Type 0 where
  pub its : IsOfFunction exports call.export call.params call.results
  pub few : length call.events < 2 ^ 32
  pub asks : All (IsWritten imports.count) call.events
  pub served : All (IsServedAskOf imports) call.served

abbrev pub callee_of_call : Component → RecordedCall → Callee
callee_of_call c call = callee_in c (slice_get c.exports.items call.export)

-- The events are a run of the call's export. No memory among them is shorter than one before it or than `len`, nor longer than 2^32 bytes.
abbrev pub IsRunFrom : Component → ℕ → RecordedCall → Type 0
IsRunFrom c len call = IsOneRun (callee_of_call c call).func (callee_of_call c call).post call.events × Grows len call.events (2 ^ 32)

-- each call is a run, where memory has `len` bytes before the first
abbrev pub AreRuns : Component → ℕ → List RecordedCall → Type 0
AreRuns c len [] = ⊤
AreRuns c len (call ∷ calls) = IsRunFrom c len call × AreRuns c (last_len len call.events) calls

-- call k is the first that is none
abbrev pub IsNoRunAt : Component → ℕ → List RecordedCall → ℕ → Type 0
IsNoRunAt c len [] k = ⊥
IsNoRunAt c len (call ∷ calls) zero = ¬ IsRunFrom c len call
IsNoRunAt c len (call ∷ calls) (suc k) = IsRunFrom c len call × IsNoRunAt c (last_len len call.events) calls k

-- the recording is one of the component
pub record FitsComponent (c : Component) (calls : List RecordedCall) : Type 0 where
  pub few : length calls < 2 ^ 32
  pub are : All (IsRecordedCallOf (exports_of c) (imports_of c)) calls
  pub runs : AreRuns c 0 calls
