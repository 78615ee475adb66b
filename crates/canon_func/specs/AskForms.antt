-- What is said of an ask of a function of the host, whatever its form is.
use Rattle.std.specs.Prelude.{IfSome, List, None, Option, Result, Vec, ℕ, ◌≡◌, ◌⊎◌, IfOk, length}
use Rattle.std.specs.declared.alloc.Global.{Global}
use Rattle.canon_ledger.specs.Ledger.{LedgerState}
use Rattle.canon_memory.specs.Guest.{Moment}
use Rattle.canon_resources.specs.Parts.{Part}
use Rattle.canon_lowering.specs.Lowering.{Answer, Trap}
use Rattle.canon_context.specs.declared.fault.Fault.{Fault}
use Rattle.canon_context.specs.declared.fault.Fault.TheVariants as fault
use Rattle.canon_context.specs.declared.host.HostStop.{HostStop}
use Rattle.canon_val.specs.declared.val.Val.{Val}
use Rattle.canon_host.specs.Forms.{HostFuncForm, InView, IsOfOthers, IsOfThese, RustTypes, TypedAnswering, ValuesAnswering, over_types, over_values}
use Rattle.canon_host.specs.HostSide.{Answering, LoggedEntry, Giving, entry}
use Rattle.canon_host.specs.Imports.{logged}
use Rattle.canon_host.specs.declared.asked.Asked.{Asked}
use Rattle.canon_func.specs.AskTypes.{TypedAskLiftable, TypedAskLifts, TypedAskLowerable, TypedAskLowers, typed_given, typed_parts}
use Rattle.canon_func.specs.AskValues.{AskLiftable, AskLifts, AskLowerable, AskLowers, ask_param_parts, ask_result_parts}
use Rattle.canon_func.specs.Stores.{Callee}
use Rattle.canon_func.specs.declared.error.Error.{Error}
use Rattle.canon_func.specs.declared.error.Error.TheVariants as error
use Rattle.canon_model.specs.Shape.{member_count}
use Rattle.canon_types.specs.Table.{result_members}

-- `Params` are what parameters are lifted as, and `Results` what the function gives; `T` is the data of the store.
pub record AskForm (T : Type 0) : Type 1 where
  pub Params : Type 0
  pub Results : Type 0
  -- why nothing is done, by what is asked for, the number of its import and the log
  pub declines : Callee → Asked → ℕ → Option (List LoggedEntry) → Error → Type 0
  -- Parameters were lifted in the store of a number with this fuel from the first words, or why not: by what is asked for, its words and the
  -- memory, the ledger before, the answer, and the ledger after.
  pub lifts : ℕ → Callee → ℕ → Asked → List ℕ → List ℕ → LedgerState → Result Params Fault → LedgerState → Type 0
  -- they can be: nothing but memory is wanting
  pub liftable : ℕ → Callee → ℕ → Asked → List ℕ → List ℕ → LedgerState → Type 0
  -- what their handles do, in order, by the number of the store
  pub parts : ℕ → Callee → Asked → List ℕ → List ℕ → List (List Part)
  -- The function answered so, as it may: by what one over values may answer by a log, the number of its import, the log, what is asked for,
  -- what it reached and its parameters; its answer, and the data and the ledger after.
  pub gave : Answering T → ℕ → Option (List LoggedEntry) → Asked → InView T → Params → Result Results HostStop → T → LedgerState → Type 0
  -- the log after an ask that was served, by the log before and the number of its import
  pub logged_with : Option (List LoggedEntry) → ℕ → Params → Results → Option (List LoggedEntry)
  -- Results were lowered to these words, or at the place, or why not: by what is asked for, the place, the moments before and
  -- after, the results, the answers of `realloc` and perhaps a trap, the ledger before and after, and the answer.
  pub lowers : Callee → Asked → ℕ → Moment → Moment → Results → List ℕ → List Answer → Option Trap → LedgerState → LedgerState → Result (Unit {0}) Fault → Type 0
  -- they can be: nothing but memory is wanting
  pub lowerable : Callee → Asked → List ℕ → Results → LedgerState → Type 0
  -- what their handles do, in order
  pub gives : Callee → Asked → Results → List (List Part)

-- Over values, which may answer so, with a value for each result. If the asks that were served are exposed, it left the ledger as it was, and
-- may answer so by them too.
abbrev pub ask_values : {T : Type 0} → ValuesAnswering T → AskForm T
ask_values May = record {
  Params = Vec Val Global;
  Results = List Val;
  declines = λ callee asked index log e. e ≡ error.Fault fault.OutOfMemory;
  lifts = λ store. AskLifts;
  liftable = λ store. AskLiftable;
  parts = λ store. ask_param_parts;
  gave = λ answers index log asked reached params answer state ledger. May asked.func reached params.items answer state ledger
      × IfSome log (λ entries. (ledger ≡ reached.ledger) × answers entries index reached.state params.items answer state)
      × IfOk answer (λ results. length results ≡ member_count (result_members reached.types.types asked.func));
  logged_with = λ log index params results. logged log (entry index params.items results);
  lowers = AskLowers;
  lowerable = AskLowerable;
  gives = ask_result_parts;
}

-- Over Rust types, which those of the function are; one of other types is refused. Whoever exposes a log has no such function.
abbrev pub ask_types : {T P R : Type 0} → RustTypes P R → TypedAnswering T P R → AskForm T
ask_types {T} {P} {R} types May = record {
  Params = P;
  Results = R;
  declines = λ callee asked index log e. (e ≡ error.Fault fault.OutOfMemory) ⊎ ((e ≡ error.HostRefused index) × (log ≡ None) × IsOfOthers types callee.types asked.func);
  lifts = λ store callee fuel asked words memory before result after. IsOfThese types callee.types asked.func × TypedAskLifts types.reading callee asked words memory store fuel before result after;
  liftable = λ store callee fuel asked words memory before. TypedAskLiftable types.reading callee asked words memory fuel before store;
  parts = λ store callee asked words memory. typed_parts types.reading callee asked words memory store;
  gave = λ answers index log asked reached params answer state ledger. (log ≡ None) × May reached params answer state ledger;
  logged_with = λ log index params results. log;
  lowers = λ callee asked at from to results. TypedAskLowers (types.walks results) (typed_given types callee asked results) callee asked at from to;
  lowerable = λ callee asked memory results. TypedAskLowerable (types.walks results) (typed_given types callee asked results) callee asked memory;
  gives = typed_given types;
}

abbrev pub ask_form : {T : Type 0} → HostFuncForm T → AskForm T
ask_form (over_values may) = ask_values may
ask_form (over_types types may) = ask_types types may

-- of the import of a number
abbrev pub ask_at : {T : Type 0} → Giving T → ℕ → AskForm T
ask_at gives index = ask_form (gives.form index)
