-- Laws of an ask that a function over Rust types serves: what its parameters are, and what its ledger goes through.
use Rattle.std.specs.Prelude.{Err, IsTrue, List, None, Ok, Result, [], false, length, take, true, ℕ, ◌<◌, ◌∷◌, ◌≡◌, ◌≤◌, ◌⊎◌}
use Rattle.canon_args.specs.Exactly.{passed_steps}
use Rattle.canon_context.specs.Asks.{SameButHandles}
use Rattle.canon_context.specs.Core.{Parts, component_types, encoding_by, moment_of, stage_of}
use Rattle.canon_context.specs.Host.{HostSteps, StaticClosure}
use Rattle.canon_context.specs.declared.fault.Fault.{Fault}
use Rattle.canon_context.specs.declared.fault.Fault.TheVariants as fault
use Rattle.canon_context.specs.declared.host.HostStop.{HostStop}
use Rattle.canon_context.specs.declared.host.HostView.{HostView}
use Rattle.canon_host.specs.Serves.{IsResultPlace, stopped}
use Rattle.canon_host.specs.ServesTyped.{CallsTyped, LiftsTyped, ServesTyped}
use Rattle.canon_host.specs.declared.asked.Asked.{Asked}
use Rattle.canon_host.specs.declared.error.HostError.{HostError}
use Rattle.canon_resources.specs.Parts.{LeavesTake, Part}
use Rattle.canon_resources.specs.Steps.{leaves_steps}
use Rattle.canon_ledger.specs.Handles.{top_scope}
use Rattle.canon_ledger.specs.Ledger.{Enter, ExitScope, Leave, LedgerState, LedgerStep, Partway, Through, do_step, enter, leave}
use Rattle.canon_reading.specs.Reading.{Reading, setting_in}
use Rattle.canon_reading.specs.Ways.{AreLiftedBy}
use Rattle.canon_lower_parts.specs.Given.{AreGivenBy}
use Rattle.canon_lowering.specs.Attempt.{AreHeld, handle_numbers, value_place}
use Rattle.canon_lowering.specs.Lowering.{AllLawful, Answer, Requested, done, events_of, marks_of}
use Rattle.canon_lowering.specs.Storing.{narrow}
use Rattle.canon_memory.specs.Guest.{Goes, GuestIn, Seen}
use Rattle.canon_memory.specs.declared.event.Event.{Event}
use Rattle.canon_model.specs.Flat.{RepArgs, RepFlatAt, max_params, max_results}
use Rattle.canon_model.specs.Layout.{members_flat}
use Rattle.canon_model.specs.Leaves.{members_leaves}
use Rattle.canon_model.specs.Rep.{RepMem}
use Rattle.canon_model.specs.Requests.{host_asks, members_requests}
use Rattle.canon_model.specs.Shape.{Shape, of_places, product}
use Rattle.canon_model.specs.Tree.{Tree, Trees, parts}
use Rattle.canon_types.specs.Instance.{Instance}
use Rattle.canon_types.specs.Table.{param_members, result_members, shape_of}
use Rattle.canon_types.specs.declared.types.InterfaceType.{InterfaceType}
use Rattle.canon_types.specs.declared.types.InterfaceType.TheVariants.{Tuple}
use Rattle.canon_types.specs.declared.types.TypeFunc.{TypeFunc}
use Rattle.canon_passing.specs.Args.{args_words}
use Rattle.canon_lowering.specs.Stages.{GoesBy}

-- ---- the parameters

-- They are those of a Rust type, with words enough. The shape of a table's tuple is that of its members, as `ComponentTypes::tuple` finds it.
pub record AreAsked (Fit : Instance → InterfaceType → Type 0) (i : Instance) (func : TypeFunc) (words : List ℕ) : Type 0 where
  pub fits : Fit i (Tuple func.params)
  pub shape : shape_of i.types (Tuple func.params) ≡ product of_places (param_members i.types func)
  pub given : args_words (param_members i.types func) ≤ length words

-- the words that they take
abbrev pub param_words : {T G : Type 0} → Asked → Parts T G → List ℕ → List ℕ
param_words asked before words = take (args_words (param_members (component_types before) asked.func)) words

-- the words and memory represent these trees
abbrev pub RepAsked : {T G : Type 0} → Asked → Parts T G → List ℕ → Trees → Type 0
RepAsked asked before words trees = RepArgs false (encoding_by before asked.options) (narrow before.memory) (param_words asked before words) (param_members (component_types before) asked.func) trees

-- what their handles do
abbrev pub asked_parts : {T G P : Type 0} → Reading P → Asked → Parts T G → List ℕ → List (List Part)
asked_parts reading asked before words = passed_steps reading max_params (setting_in before asked.options) (param_members (component_types before) asked.func) (param_words asked before words)

-- The words and memory represent trees of a price within the fuel, which the parameters mean, and whose handles went through the ledger.
pub record AreRead {T G P : Type 0} (reading : Reading P) (Means : P → Tree → Type 0) (price : Tree → ℕ) (asked : Asked) (before : Parts T G) (words : List ℕ) (params : P) (after : LedgerState) : Type 0 where
  pub trees : Trees
  pub represented : RepAsked asked before words trees
  pub means : Means params (parts trees)
  pub within : price (parts trees) ≤ before.fuel
  pub steps : AreLiftedBy before.component.types (members_leaves (param_members (component_types before) asked.func) trees) (asked_parts reading asked before words)
  pub taken : (hs : List ℕ) × LeavesTake before.ledger (asked_parts reading asked before words) hs after

-- the tree was lifted, and its handles left the ledger so; or memory ran out, where lifting takes any
abbrev pub IsTreeLifted : {P : Type 0} → Reading P → (P → Tree → Type 0) → Tree → LedgerState → Result P Fault → LedgerState → Type 0
IsTreeLifted reading Means tree end (Ok params) after = Means params tree × (after ≡ end)
IsTreeLifted reading Means tree end (Err e) after = (e ≡ fault.OutOfMemory) × (reading.allocates ≡ true)

module _ (T G : Type 0) {P : Type 0} (Fit : Instance → InterfaceType → Type 0) (reading : Reading P) (Means : P → Tree → Type 0) (price : Tree → ℕ) where
  -- Parameters are lifted only where they are represented.
  abbrev pub OnlyAsked : Type 0
  OnlyAsked = (asked : Asked) (before after : Parts T G) (words : List ℕ) (params : P) → AreAsked Fit before.component.types asked.func words
      → LiftsTyped reading asked before words (Ok params) after → AreRead reading Means price asked before words params after.ledger

  -- And where trees of a price within the fuel are represented whose handles the ledger accepts, they are lifted, or memory runs out.
  abbrev pub AskedIsEnough : Type 0
  AskedIsEnough = (asked : Asked) (before after : Parts T G) (words : List ℕ) (result : Result P Fault) (trees : Trees) (hs : List ℕ) (end : LedgerState) → AreAsked Fit before.component.types asked.func words
      → RepAsked asked before words trees → price (parts trees) ≤ before.fuel → LeavesTake before.ledger (asked_parts reading asked before words) hs end
      → LiftsTyped reading asked before words result after → IsTreeLifted reading Means (parts trees) end result after.ledger

-- ---- the steps of the ledger

-- up to the call: a scope is opened, and the handles of the parameters are lifted
abbrev pub asked_steps : {T G P : Type 0} → Reading P → Asked → Parts T G → List ℕ → List LedgerStep
asked_steps reading asked before words = Enter ∷ leaves_steps (enter before.ledger) (asked_parts reading asked before words)

-- what the handles of the results do
abbrev pub given_parts : {T G R : Type 0} → (Instance → Shape → R → List (List Part)) → Asked → Parts T G → R → List (List Part)
given_parts gives asked before results = gives before.component.types (product of_places (result_members (component_types before) asked.func)) results

-- from the call on: the scope ends and is left, and the handles of the results are lowered
abbrev pub given_steps : List (List Part) → LedgerState → List LedgerStep
given_steps handles l =
    let exit : LedgerStep = ExitScope (top_scope l.handles) in
    exit ∷ Leave ∷ leaves_steps (leave (do_step exit l).after) handles

module _ {F T G P R : Type 0} (g : StaticClosure F (HostView T) P (Result R HostStop)) (f : F) (reading : Reading P) (walks : R → Tree → Type 0) (gives : Instance → Shape → R → List (List Part))
    (seen : G → Seen) (moves : GuestIn G → List Event → GuestIn G → Type 0) where
  -- In the scope of the ask the parameters were lifted, and the function was called once with them. The ledger accepted the steps up to the
  -- call; those that the function took itself may be refused.
  pub record WasCalled (asked : Asked) (before : Parts T G) (words : List ℕ) (params : P) (result : Result R HostStop) (lifted called : Parts T G) : Type 0 where
    pub lifts : LiftsTyped reading asked (record before { ledger = enter before.ledger }) words (Ok params) lifted
    pub calls : CallsTyped g f lifted params result called
    pub first : Through before.ledger (asked_steps reading asked before words) lifted.ledger
    pub steps : HostSteps lifted.ledger called.ledger

  -- After the call the ledger accepted the steps of what the function gave.
  pub record AskThrough (asked : Asked) (before after : Parts T G) (words : List ℕ) : Type 0 where
    pub params : P
    pub results : R
    pub lifted : Parts T G
    pub called : Parts T G
    pub was : WasCalled asked before words params (Ok results) lifted called
    pub last : Through called.ledger (given_steps (given_parts gives asked before results) called.ledger) after.ledger

  -- An ask that was served went through these steps of the ledger, and through no other.
  abbrev pub ServedIsThrough : Type 0
  ServedIsThrough = (asked : Asked) (before after : Parts T G) (words words2 : List ℕ) → ServesTyped g f reading walks gives seen moves asked before words (Ok tt) after words2 → AskThrough asked before after words

  -- up to some step before the call; or the function gave nothing; or up to some step after it
  abbrev pub AskPartway : Asked → Parts T G → Parts T G → List ℕ → HostError → Type 0
  AskPartway asked before after words e =
      Partway before.ledger (asked_steps reading asked before words) after.ledger
      ⊎ (((params : P) × (why : HostStop) × (lifted : Parts T G) × (e ≡ stopped why) × WasCalled asked before words params (Err why) lifted after)
      ⊎ ((params : P) × (results : R) × (lifted called : Parts T G) × WasCalled asked before words params (Ok results) lifted called
      × Partway called.ledger (given_steps (given_parts gives asked before results) called.ledger) after.ledger))

  -- One that was refused went through them up to some step.
  abbrev pub RefusedIsPartway : Type 0
  RefusedIsPartway = (asked : Asked) (before after : Parts T G) (words words2 : List ℕ) (e : HostError) → ServesTyped g f reading walks gives seen moves asked before words (Err e) after words2 → AskPartway asked before after words e

-- ---- the results

module _ {F T G P R : Type 0} (g : StaticClosure F (HostView T) P (Result R HostStop)) (f : F) (reading : Reading P) (walks : R → Tree → Type 0) (gives : Instance → Shape → R → List (List Part))
    (seen : G → Seen) (moves : GuestIn G → List Event → GuestIn G → Type 0) where
  -- What the function gave was lowered: trees that it walks, by their requests, all of which were answered, and with the handles that the
  -- ledger gave; nothing else was asked of the guest. As far as the answers kept the law of `realloc`, the words in a row represent the trees
  -- strictly, and so does memory where the pointer says, if the guest holds places, or that place lived, or no answer came near it.
  pub record AskAnswered (asked : Asked) (before after : Parts T G) (words words2 : List ℕ) : Type 0 where
    pub through : AskThrough g f reading walks gives seen moves asked before after words
    pub same : SameButHandles through.called after
    pub at : ℕ
    pub place : IsResultPlace (component_types before) asked before.memory words at
    pub trees : Trees
    pub walked : walks through.results (parts trees)
    pub answers : List Answer
    pub goes : Goes (moment_of seen before) (moment_of seen after) (marks_of answers) (events_of answers None)
    pub went : GoesBy (stage_of seen moves before) (stage_of seen moves after) (events_of answers None)
    pub requested : Requested (members_requests false (host_asks (encoding_by before asked.options)) (result_members (component_types before) asked.func) trees) done answers None
    pub given : LeavesTake (leave (do_step (ExitScope (top_scope through.called.ledger.handles)) through.called.ledger).after) (given_parts gives asked before through.results)
        (handle_numbers (members_leaves (result_members (component_types before) asked.func) trees)) after.ledger
    pub near : members_flat (result_members (component_types before) asked.func) ≤ max_results → AllLawful answers
        → RepFlatAt true (encoding_by before asked.options) (narrow after.memory) (take (members_flat (result_members (component_types before) asked.func)) words2) 0
        (product of_places (result_members (component_types before) asked.func)) (parts trees)
    pub far : max_results < members_flat (result_members (component_types before) asked.func) → AllLawful answers
        → IsTrue (seen before.guest).holds ⊎ AreHeld (stage_of seen moves before) answers (value_place false (product of_places (result_members (component_types before) asked.func)) at ∷ [])
        → RepMem true (encoding_by before asked.options) (narrow after.memory) at (product of_places (result_members (component_types before) asked.func)) (parts trees)

  -- An ask that was served is answered so.
  abbrev pub ServedIsAnswered : Type 0
  ServedIsAnswered = (asked : Asked) (before after : Parts T G) (words words2 : List ℕ) → ServesTyped g f reading walks gives seen moves asked before words (Ok tt) after words2 → AskAnswered asked before after words words2

module _ (T G : Type 0) {R : Type 0} (Fit : Instance → InterfaceType → Type 0) (walks : R → Tree → Type 0) (gives : Instance → Shape → R → List (List Part)) where
  -- What the handles of results do are the ways of the handles of the trees that they walk, in order.
  abbrev pub AnswersAreGiven : Type 0
  AnswersAreGiven = (asked : Asked) (before : Parts T G) (results : R) (trees : Trees) → Fit before.component.types (Tuple asked.func.results)
      → shape_of (component_types before) (Tuple asked.func.results) ≡ product of_places (result_members (component_types before) asked.func) → walks results (parts trees)
      → AreGivenBy before.component.types (members_leaves (result_members (component_types before) asked.func) trees) (given_parts gives asked before results)
