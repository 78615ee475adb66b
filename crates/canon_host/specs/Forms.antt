-- The forms that a function of the host may have.
use Rattle.std.specs.Prelude.{Bool, Err, IsTrue, List, Ok, Result, false, ℕ, ⊤, ◌≡◌}
use Rattle.canon_context.specs.Core.{Parts}
use Rattle.canon_context.specs.Host.{Closure, IsOutside, Returns, StaticClosure, StaticReturns}
use Rattle.canon_context.specs.declared.host.HostStop.{HostStop}
use Rattle.canon_context.specs.declared.host.HostView.{HostView}
use Rattle.canon_abi.specs.declared.options.CanonicalOptions.{CanonicalOptions}
use Rattle.canon_resources.specs.Parts.{Part}
use Rattle.canon_ledger.specs.Ledger.{LedgerState}
use Rattle.canon_ledger.specs.Reached.{ledger_in}
use Rattle.canon_reading.specs.Apart.{IsApart}
use Rattle.canon_reading.specs.OfTrees.{IsFaulted, IsOfTrees, IsPriced}
use Rattle.canon_reading.specs.Reading.{AreTaken, Reading}
use Rattle.canon_lower_parts.specs.Given.{IsGiven}
use Rattle.canon_model.specs.Shape.{Shape}
use Rattle.canon_model.specs.Tree.{Tree}
use Rattle.canon_typed.specs.Typed.{IsTyped}
use Rattle.canon_types.specs.Instance.{Instance}
use Rattle.canon_types.specs.declared.types.InterfaceType.{InterfaceType}
use Rattle.canon_types.specs.declared.types.TypeFunc.{TypeFunc}
use Rattle.canon_val.specs.declared.val.Val.{Val}
use Rattle.canon_host.specs.Serves.{blank}
use Rattle.canon_host.specs.ServesTyped.{FitRustTypes}

-- What is said of Rust types for parameters and for results, which are tuples.
pub record RustTypes (P R : Type 0) : Type 1 where
  -- which types of an instance are theirs
  pub fits_params : Instance → InterfaceType → Type 0
  pub fits_results : Instance → InterfaceType → Type 0
  -- what is read as parameters; whether they have trees, which these are, and what lifting a tree costs
  pub reading : Reading P
  pub told : Bool
  pub lifts : P → Tree → Type 0
  pub cost : Tree → ℕ
  -- the trees that results mean; those of them that they walk; and what their handles do
  pub means : R → Tree → Type 0
  pub walks : R → Tree → Type 0
  pub gives : Instance → Shape → R → List (List Part)

abbrev pub rust_types : {P R : Type 0} → (Instance → InterfaceType → Type 0) → (Instance → InterfaceType → Type 0) → Reading P → Bool → (P → Tree → Type 0) → (Tree → ℕ) → (R → Tree → Type 0) → (R → Tree → Type 0)
    → (Instance → Shape → R → List (List Part)) → RustTypes P R
rust_types fits_params fits_results reading told lifts cost means walks gives = record {
  fits_params = fits_params;
  fits_results = fits_results;
  reading = reading;
  told = told;
  lifts = lifts;
  cost = cost;
  means = means;
  walks = walks;
  gives = gives;
}

-- ---- what a function may answer

-- What a function reaches when it is called: the number of the store and its memory, the options and the types of its component, the data
-- of the store, and the ledger of its handles.
pub record InView (T : Type 0) : Type 0 where
  pub store : ℕ
  pub memory : List ℕ
  pub options : List CanonicalOptions
  pub types : Instance
  pub state : T
  pub ledger : LedgerState

abbrev pub in_view : {T G : Type 0} → Parts T G → InView T
in_view core = record { store = core.id; memory = core.memory; options = core.component.options.items; types = core.component.types; state = core.state; ledger = core.ledger }

-- Over Rust types, by what it reaches and its parameters: its results or why it gave none, and the data and the ledger after.
abbrev pub TypedAnswering : Type 0 → Type 0 → Type 0 → Type 1
TypedAnswering T P R = InView T → P → Result R HostStop → T → LedgerState → Type 0

-- Over values the same, by the function type that it is asked for too.
abbrev pub ValuesAnswering : Type 0 → Type 1
ValuesAnswering T = TypeFunc → InView T → List Val → Result (List Val) HostStop → T → LedgerState → Type 0

-- what a function over values answered and left in its slots: the results that it gave, or why it gave none
abbrev pub outcome : Result (Unit {0}) HostStop → List Val → Result (List Val) HostStop
outcome (Ok x) results = Ok results
outcome (Err why) results = Err why

-- whatever it answers
abbrev pub AnyValues : {T : Type 0} → ValuesAnswering T
AnyValues type reached params answer state ledger = ⊤

-- It was done once on a view of what is reached, outside any call, and left this data and this ledger.
pub record DoneOn {T : Type 0} (May : HostView T → HostView T → Type 0) (reached : InView T) (state : T) (ledger : LedgerState) : Type 0 where
  pub view : HostView T
  pub left : HostView T
  pub returned : May view left
  pub outside : IsOutside view
  pub id_is : view.memory.id ≡ reached.store
  pub memory_is : view.memory.bytes.now ≡ reached.memory
  pub options_is : view.memory.component.now.options.items ≡ reached.options
  pub types_is : view.memory.component.now.types ≡ reached.types
  pub state_is : view.state.now ≡ reached.state
  pub ledger_is : ledger_in view.tables ≡ reached.ledger
  pub state_left : left.state.now ≡ state
  pub ledger_left : ledger_in left.tables ≡ ledger

-- What a closure over Rust types may answer: called so, it may give this.
abbrev pub MayGive : {F T P R : Type 0} → StaticClosure F (HostView T) P (Result R HostStop) → F → TypedAnswering T P R
MayGive g f reached params answer state ledger = DoneOn (λ v w. StaticReturns g f v params answer w) reached state ledger

-- What a closure over values may answer: called so, with `Bool false` in a slot for each result, it may give this, and leave these results.
abbrev pub MayGiveValues : {F T : Type 0} → Closure F (HostView T) Val (Result (Unit {0}) HostStop) → F → ValuesAnswering T
MayGiveValues g f type reached params answer state ledger =
    (given : Result (Unit {0}) HostStop) × (results : List Val) × (answer ≡ outcome given results)
    × DoneOn (λ v w. Returns g f v type params (blank reached.types.types type) given w results) reached state ledger

-- ---- the form

-- a function over values, or over Rust types, and what it may answer
pub data HostFuncForm (T : Type 0) : Type 1 where
  over_values : ValuesAnswering T → HostFuncForm T
  over_types : {P R : Type 0} → RustTypes P R → TypedAnswering T P R → HostFuncForm T

-- the laws of the traits `ComponentType`, `Lift` and `Lower`
pub record AreLawful {P R : Type 0} (types : RustTypes P R) : Type 0 where
  pub taken : AreTaken types.reading
  pub apart : IsApart types.reading
  pub faulted : IsFaulted types.fits_params types.reading
  pub priced : IsPriced types.fits_params types.reading types.cost
  pub of_trees : IsTrue types.told → IsOfTrees types.fits_params types.reading types.lifts
  pub typed : IsTyped types.fits_results types.means
  pub walked : (v : R) (t : Tree) → types.walks v t → types.means v t
  pub walkable : (v : R) → (t : Tree) × types.walks v t
  pub given : IsGiven types.fits_results types.walks types.gives

-- Rust types keep them
abbrev pub IsLawful : {T : Type 0} → HostFuncForm T → Type 0
IsLawful (over_values may) = ⊤
IsLawful (over_types types may) = AreLawful types

-- a function type is of these types, and isn't async
abbrev pub IsOfThese : {P R : Type 0} → RustTypes P R → Instance → TypeFunc → Type 0
IsOfThese types i func = (func.async_ ≡ false) × FitRustTypes types.fits_params types.fits_results i func

-- one that isn't async is of other types
abbrev pub IsOfOthers : {P R : Type 0} → RustTypes P R → Instance → TypeFunc → Type 0
IsOfOthers types i func = func.async_ ≡ false → FitRustTypes types.fits_params types.fits_results i func → ⊥
