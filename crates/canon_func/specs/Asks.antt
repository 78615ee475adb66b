-- What a guest asks of its host, and how it is served.
use Rattle.std.specs.Prelude.{Err, List, None, Ok, Option, Some, [], length, slice_get, slice_index, ℕ, ◌∷◌, ◌≡◌, ◌≤◌, ◌⊎◌}
use Rattle.std.specs.Option.{option_and_then}
use Rattle.canon_memory.specs.Guest.{Moment}
use Rattle.canon_model.specs.Memory.{low}
use Rattle.canon_handles.specs.declared.handle.TypedResource.TheVariants.{Component}
use Rattle.canon_handles.specs.declared.handle.TypedResourceIndex.TheVariants.{Component as ComponentIndex}
use Rattle.canon_ledger.specs.Ledger.{Done, Drop, LedgerState, LedgerStep, New, Rep, do_step}
use Rattle.canon_ledger.specs.declared.fault.ResourceFault.{ResourceFault}
use Rattle.canon_resources.specs.Parts.{refusal_of, table_for}
use Rattle.canon_lowering.specs.Lowering.{Answer, Trap}
use Rattle.canon_types.specs.Instance.{Instance}
use Rattle.canon_types.specs.declared.types.TypeFunc.{TypeFunc}
use Rattle.canon_context.specs.declared.component.Import.{Import}
use Rattle.canon_context.specs.declared.component.Import.TheVariants as import
use Rattle.canon_context.specs.declared.fault.Fault.TheVariants as fault
use Rattle.canon_types.specs.Table.{param_members, result_members}
use Rattle.canon_host.specs.Asked.{asked_words}
use Rattle.canon_host.specs.HostSide.{Giving, HostSide}
use Rattle.canon_host.specs.declared.asked.Asked.{Asked}
use Rattle.canon_func.specs.HostAsks.{AcceptsHost, HostStops, IsHostServed, NothingAsked}
use Rattle.canon_func.specs.Runs.{AskTurn, living}
use Rattle.canon_func.specs.Stores.{Callee}
use Rattle.canon_func.specs.declared.asks.Builtin.{Builtin}
use Rattle.canon_func.specs.declared.asks.Builtin.TheVariants as builtin
use Rattle.canon_func.specs.declared.error.Error.{Error}
use Rattle.canon_func.specs.declared.error.Error.TheVariants as error

-- What a call may use: the fuel of lifting its results, and of lifting the parameters of each ask, and how many asks are served.
pub record Limits : Type 0 where
  pub fuel : ℕ
  pub turns : ℕ

abbrev pub allowed : ℕ → ℕ → Limits
allowed fuel turns = record { fuel = fuel; turns = turns }

-- ---- builtins: the calls on the handles of a resource type

abbrev pub builtin_of : Import → Option Builtin
builtin_of (import.Host type options) = None
builtin_of (import.ResourceNew t) = Some (builtin.New t)
builtin_of (import.ResourceRep t) = Some (builtin.Rep t)
builtin_of (import.ResourceDrop t) = Some (builtin.Drop t)

-- the resource type whose handles it is a call on
abbrev pub resource_of : Builtin → ℕ
resource_of (builtin.New t) = t
resource_of (builtin.Rep t) = t
resource_of (builtin.Drop t) = t

-- What a builtin does to the ledger (CanonicalABI.md, "canon resource.new", "canon resource.rep", "canon resource.drop"): the word is
-- the representation of a new handle, and else the index of one.
abbrev pub builtin_step : Instance → Builtin → ℕ → LedgerStep
builtin_step types (builtin.New t) word = New (table_for types t) (Component t word)
builtin_step types (builtin.Rep t) word = Rep (table_for types t) (ComponentIndex t word)
builtin_step types (builtin.Drop t) word = Drop (table_for types t) (ComponentIndex t word)

-- of the word of an ask the low half counts
abbrev pub ask_step : Instance → Builtin → List ℕ → LedgerState → Done ℕ
ask_step types called words l = do_step (builtin_step types called (low (slice_index words 0))) l

abbrev pub builtin_at : Callee → ℕ → Option Builtin
builtin_at callee index = option_and_then builtin_of (slice_get callee.imports index)

-- The component has this builtin as an import, and it was asked for with the one word that it takes.
pub record IsAskOf (callee : Callee) (index : ℕ) (words : List ℕ) (called : Builtin) : Type 0 where
  pub known : builtin_at callee index ≡ Some called
  pub one : length words ≡ 1

-- ---- how many words are asked with

abbrev pub host_words : Instance → Option TypeFunc → ℕ
host_words types None = 0
host_words types (Some func) = asked_words (param_members types.types func) (result_members types.types func)

abbrev pub import_words : Callee → Import → ℕ
import_words callee (import.Host type options) = host_words callee.types (slice_get callee.types.types.funcs type)
import_words callee _ = 1

-- ---- an ask that was resumed

module _ {T : Type 0} where
  -- The step of the builtin was taken, and the guest was resumed with the answer, in the memory that it had left.
  pub record IsBuiltinServed (callee : Callee) (t : AskTurn) (before after : HostSide T) : Type 0 where
    pub called : Builtin
    pub is : IsAskOf callee t.index t.words called
    pub answer : ℕ
    pub taken : ask_step callee.types called t.words before.ledger ≡ record { answer = Ok answer; after = after.ledger }
    pub resumed : t.resumed_words ≡ answer ∷ []
    pub same : t.resumed_memory ≡ t.memory
    pub no_request : t.answers ≡ []
    pub kept : after ≡ record before { ledger = after.ledger }

  -- The step was refused; out of memory is kept apart, and then it may have been taken.
  pub record BuiltinStops (callee : Callee) (index : ℕ) (words : List ℕ) (before after : HostSide T) (e : Error) : Type 0 where
    pub called : Builtin
    pub is : IsAskOf callee index words called
    pub why : ResourceFault
    pub told : refusal_of why ≡ Some why
    pub refused : ask_step callee.types called words before.ledger ≡ record { answer = Err why; after = after.ledger }
    pub fault : e ≡ error.ImportFault index (fault.Resource why)
    pub kept : after ≡ record before { ledger = after.ledger }

  pub record BuiltinIsShort (callee : Callee) (index : ℕ) (words : List ℕ) (before after : HostSide T) : Type 0 where
    pub called : Builtin
    pub is : IsAskOf callee index words called
    pub left : (after.ledger ≡ before.ledger) ⊎ (after.ledger ≡ (ask_step callee.types called words before.ledger).after)
    pub kept : after ≡ record before { ledger = after.ledger }

module _ {T : Type 0} (gives : Giving T) (callee : Callee) (fuel : ℕ) where
  -- it is of an import of the component: a builtin or a function of the host
  abbrev pub IsServed : AskTurn → HostSide T → HostSide T → Type 0
  IsServed t before after = IsBuiltinServed callee t before after ⊎ IsHostServed gives callee fuel t before after

  -- each was, in order
  abbrev pub AreServed : List AskTurn → HostSide T → HostSide T → Type 0
  AreServed [] before after = after ≡ before
  AreServed (t ∷ turns) before after = (mid : HostSide T) × IsServed t before mid × AreServed turns mid after

  -- ---- an ask that wasn't

  -- where memory ran out: the ask was served but not resumed, or wasn't
  abbrev pub IsShort : ℕ → List ℕ → Moment → Moment → List Answer → Option Trap → HostSide T → HostSide T → Type 0
  IsShort index words from to answers trap before after =
      (BuiltinIsShort callee index words before after × (answers ≡ []) × (trap ≡ None))
      ⊎ ((asked : Asked) × HostStops gives callee fuel asked index words from to answers trap before after (error.Fault fault.OutOfMemory))
      ⊎ ((resumed memory3 : List ℕ) × (trap ≡ None) × (length memory3 ≤ length to.bytes)
      × IsHostServed gives callee fuel (record { index = index; words = words; live = living from.guest; memory = from.bytes; answers = answers; resumed_words = resumed; resumed_memory = memory3 }) before after)

  -- Why an ask that was made at the first of these moments wasn't resumed, and what that left: of the guest and memory at the second, and of the
  -- host. Blocks were asked for meanwhile with these answers, and perhaps a trap.
  abbrev pub AskStops : Error → ℕ → List ℕ → Moment → Moment → List Answer → Option Trap → HostSide T → HostSide T → Type 0
  AskStops error.TurnsExhausted index words from to answers trap before after = (after ≡ before) × NothingAsked from.bytes to.bytes answers trap
  AskStops (error.UnknownImport n) index words from to answers trap before after = (n ≡ index) × (slice_get callee.imports index ≡ None) × (after ≡ before) × NothingAsked from.bytes to.bytes answers trap
  AskStops error.WrongWords index words from to answers trap before after =
      (called : Import) × (slice_get callee.imports index ≡ Some called) × ¬ (length words ≡ import_words callee called) × (after ≡ before) × NothingAsked from.bytes to.bytes answers trap
  AskStops (error.ImportFault n f) index words from to answers trap before after =
      (n ≡ index) × ((BuiltinStops callee index words before after (error.ImportFault n f) × NothingAsked from.bytes to.bytes answers trap)
      ⊎ ((asked : Asked) × HostStops gives callee fuel asked index words from to answers trap before after (error.ImportFault n f)))
  AskStops (error.HostRefused n) index words from to answers trap before after =
      (n ≡ index) × ((asked : Asked) × HostStops gives callee fuel asked index words from to answers trap before after (error.HostRefused n))
  AskStops (error.Fault fault.OutOfMemory) index words from to answers trap before after = IsShort index words from to answers trap before after
  AskStops _ index words from to answers trap before after = ⊥

  -- ---- an ask that isn't refused

  -- the ledger accepts the step of an ask of a builtin of the component, or the ask of a function of the host can be served
  abbrev pub AcceptsAsk : ℕ → List ℕ → List ℕ → HostSide T → Type 0
  AcceptsAsk index words memory before =
      ((called : Builtin) × IsAskOf callee index words called × ((answer : ℕ) × (after : LedgerState) × (ask_step callee.types called words before.ledger ≡ record { answer = Ok answer; after = after })))
      ⊎ ((asked : Asked) × AcceptsHost gives callee fuel asked index words memory before)
