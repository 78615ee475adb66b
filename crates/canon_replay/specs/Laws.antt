-- What calls that were replayed tell of what was recorded. Proved as the contract of a function in src/laws.rt.
use Rattle.std.specs.Prelude.{List, None, [], false, ℕ, ⊤, ◌++◌, ◌∷◌, ◌≡◌}
use Rattle.canon_model.specs.Requests.{host_asks, params_requests}
use Rattle.canon_model.specs.Tree.{Trees}
use Rattle.canon_memory.specs.declared.event.Event.{Event}
use Rattle.canon_memory.specs.declared.event.Event.TheVariants as event
use Rattle.canon_lowering.specs.Lowering.{Answer, Meets, events_of}
use Rattle.canon_lowering.specs.Storing.{narrow}
use Rattle.canon_val.specs.Value.{HaveTrees}
use Rattle.canon_val.specs.declared.val.Val.{Val}
use Rattle.canon_value_parts.specs.Lifts.{AreResults}
use Rattle.canon_func.specs.Runs.{Each, OnReturn}
use Rattle.canon_func.specs.Stores.{Callee, callee_of}
use Rattle.canon_replay.specs.Calls.{CallReplayed, HaveOneImage, MadeCall, ReplaysFrom, results_shape_of}
use Rattle.canon_replay.specs.Stores.{ReplayStore, named_export}
use Rattle.canon_replay.specs.declared.outcome.Outcome.TheVariants as outcome

-- The recorded events begin with the blocks that the recorded parameters ask for, each of them and in order; then the function was started.
pub record AsksForParams (callee : Callee) (params : List Val) (recorded : List Event) : Type 0 where
  pub answers : List Answer
  pub words : List ℕ
  pub memory : List ℕ
  pub more : List Event
  pub is : recorded ≡ events_of answers None ++ event.Start callee.func words memory ∷ more
  pub requested : (ts : Trees) → HaveTrees callee.params params ts → (last : ℕ) → Meets last (params_requests false (host_asks callee.encoding) callee.params ts) answers None []

-- The recorded return represents these results alone, which cost no more than the fuel.
abbrev pub RepresentsResults : Callee → ℕ → List Event → List Val → Type 0
RepresentsResults callee fuel recorded results = Each (OnReturn (λ words m. (left : ℕ) × AreResults callee.encoding (narrow m) callee.results words fuel left results)) recorded

-- The recorded requests before the start are those of the recorded parameters, and the recorded results are bit for bit what the recorded return represents.
pub record TellsRecorded (call : MadeCall) (store : ReplayStore) : Type 0 where
  pub asks : AsksForParams (callee_of store (named_export store call.export)) call.params call.events
  pub results : List Val
  pub represents : RepresentsResults (callee_of store (named_export store call.export)) store.core.fuel call.events results
  pub same : HaveOneImage (results_shape_of store call.export) results call.results

-- each call was replayed, one after another, and tells so
abbrev pub EachTells : List MadeCall → ReplayStore → Type 0
EachTells [] store = ⊤
EachTells (call ∷ calls) store = (next : ReplayStore) × CallReplayed call store next × TellsRecorded call store × EachTells calls next

abbrev pub SameTellsRecorded : Type 0
SameTellsRecorded = (k : ℕ) (calls : List MadeCall) (store : ReplayStore) → ReplaysFrom k calls store outcome.Same → EachTells calls store
