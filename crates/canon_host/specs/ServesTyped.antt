-- How one ask is served by a function over Rust types.
use Rattle.std.specs.Prelude.{◌≡◌, Err, IfSome, List, Ok, Result, slice_get, take, ℕ}
use Rattle.canon_args.specs.Results.{TypedResults}
use Rattle.canon_args.specs.Returned.{passed_reading}
use Rattle.canon_context.specs.Core.{Parts, SameButLedger, component_types}
use Rattle.canon_context.specs.Host.{HostSteps}
use Rattle.canon_context.specs.declared.fault.Fault.{Fault}
use Rattle.canon_context.specs.declared.fault.Fault.TheVariants as fault
use Rattle.canon_context.specs.declared.host.HostStop.{HostStop}
use Rattle.canon_context.specs.declared.host.HostView.{HostView}
use Rattle.canon_host.specs.Serves.{EndsAsk, LoweringRelation, ServesBy, Steps, Values}
use Rattle.canon_context.specs.Host.{StaticClosure, StaticGave}
use Rattle.canon_host.specs.declared.asked.Asked.{Asked}
use Rattle.canon_host.specs.declared.error.HostError.{HostError}
use Rattle.canon_host.specs.declared.error.HostError.TheVariants as error
use Rattle.canon_resources.specs.Parts.{Part}
use Rattle.canon_reading.specs.Reading.{Lifts, Reading, setting_in}
use Rattle.canon_reading.specs.Spots.{flat_in}
use Rattle.canon_memory.specs.Guest.{GuestIn, Seen}
use Rattle.canon_memory.specs.declared.event.Event.{Event}
use Rattle.canon_model.specs.Flat.{max_params}
use Rattle.canon_model.specs.Layout.{members_flat}
use Rattle.canon_model.specs.Shape.{Shape, of_places, product}
use Rattle.canon_model.specs.Tree.{Tree}
use Rattle.canon_types.specs.Instance.{Instance}
use Rattle.canon_types.specs.Table.{param_members, result_members}
use Rattle.canon_types.specs.declared.types.InterfaceType.{InterfaceType}
use Rattle.canon_types.specs.declared.types.InterfaceType.TheVariants.{Tuple}
use Rattle.canon_types.specs.declared.types.TypeFunc.{TypeFunc}
use Rattle.canon_passing.specs.Args.{args_words}

-- the tuples of the parameters and of the results are those of Rust types
pub record FitRustTypes (FitParams FitResults : Instance → InterfaceType → Type 0) (i : Instance) (func : TypeFunc) : Type 0 where
  pub params : FitParams i (Tuple func.params)
  pub results : FitResults i (Tuple func.results)

-- those of the function type of a number are
abbrev pub FitsFunc : (Instance → InterfaceType → Type 0) → (Instance → InterfaceType → Type 0) → Instance → ℕ → Type 0
FitsFunc FitParams FitResults i ty = IfSome (slice_get i.types.funcs ty) (λ t. FitRustTypes FitParams FitResults i t)

-- the parameters are lifted from the first words
abbrev pub LiftsTyped : {T G P : Type 0} → Reading P → Asked → Parts T G → List ℕ → Result P Fault → Parts T G → Type 0
LiftsTyped reading asked before words result after =
    ((left : ℕ) × Lifts (passed_reading max_params (product of_places (param_members (component_types before) asked.func)) reading) (setting_in before asked.options)
    (flat_in (take (args_words (param_members (component_types before) asked.func)) words) 0) (product of_places (param_members (component_types before) asked.func)) before.ledger before.fuel result after.ledger left)
    × SameButLedger before after

-- The function is called once.
pub record CallsTyped {F T G P R : Type 0} (g : StaticClosure F (HostView T) P (Result R HostStop)) (f : F) (before : Parts T G) (params : P) (result : Result R HostStop) (after : Parts T G) : Type 0 where
  pub gave : StaticGave g f before after params result
  pub steps : HostSteps before.ledger after.ledger
  pub same : after ≡ record before { state = after.state; ledger = after.ledger }

-- The results are lowered to the first words, or stored at an address; `walks` are their trees as a tuple, and `gives` what their handles do.
abbrev pub LowersTyped : {T G R : Type 0} → (G → Seen) → (GuestIn G → List Event → GuestIn G → Type 0) → (R → Tree → Type 0) → (Instance → Shape → R → List (List Part)) → Asked → LoweringRelation T G R
LowersTyped seen moves walks gives asked before at results result after words =
    TypedResults seen moves asked.options before after (result_members (component_types before) asked.func) at (take (members_flat (result_members (component_types before) asked.func)) words) (walks results)
    (gives before.component.types (product of_places (result_members (component_types before) asked.func)) results) result

-- some parameters and results were those of the ask
abbrev pub Untold : {P R : Type 0} → (Result (Values P R) HostError → Type 0) → Result (Unit {0}) HostError → Type 0
Untold {P} {R} Is (Ok x) = (told : Values P R) × Is (Ok told)
Untold Is (Err e) = Is (Err e)

-- One call over Rust types: the core before, its parameters, its answer, and the core after.
abbrev pub TypedCalling : Type 0 → Type 0 → Type 0 → Type 0 → Type 1
TypedCalling T G P R = Parts T G → P → Result R HostStop → Parts T G → Type 0

-- parameters are lifted as `Lifts` says, the function is called as C says, and `Declines` says why nothing is done
module _ {T G P R : Type 0} (Declines : Parts T G → HostError → Type 0) (Lifts : Parts T G → List ℕ → Result P Fault → Parts T G → Type 0) (C : TypedCalling T G P R) (walks : R → Tree → Type 0)
    (gives : Instance → Shape → R → List (List Part))
    (seen : G → Seen) (moves : GuestIn G → List Event → GuestIn G → Type 0) (asked : Asked) where
  -- nothing but the function decides whether it is called
  abbrev pub typed_steps_by : Steps T G P P R (Unit {0})
  typed_steps_by = record {
    declines = Declines;
    lifts = Lifts;
    told = λ params. params;
    fails = λ before e after. ⊥;
    gives = λ before params after results. C before params (Ok results) after;
    stops = λ before params why after left. C before params (Err why) after;
    ends = EndsAsk seen moves asked;
    lowers = LowersTyped seen moves walks gives asked;
  }

module _ {F T G P R : Type 0} (g : StaticClosure F (HostView T) P (Result R HostStop)) (f : F) (reading : Reading P) (walks : R → Tree → Type 0) (gives : Instance → Shape → R → List (List Part))
    (seen : G → Seen) (moves : GuestIn G → List Event → GuestIn G → Type 0) (asked : Asked) where
  -- the function is this one; memory for the scope may be wanting
  abbrev pub typed_steps : Steps T G P P R (Unit {0})
  typed_steps = typed_steps_by (λ before e. e ≡ error.Fault fault.OutOfMemory) (LiftsTyped reading asked) (CallsTyped g f) walks gives seen moves asked

  abbrev pub ServesTyped : Parts T G → List ℕ → Result (Unit {0}) HostError → Parts T G → List ℕ → Type 0
  ServesTyped before words result after words2 = Untold (λ told. ServesBy typed_steps asked before words told after words2) result
