-- An ask of a function of the host over Rust types: how its parameters are lifted and its results lowered.
use Rattle.std.specs.Prelude.{IfErr, List, None, OnOk, Option, Result, [], false, take, ℕ, ◌<◌, ◌≡◌, ◌≤◌}
use Rattle.canon_args.specs.Params.{AreSmallIn, BlamesIn, InParts}
use Rattle.canon_args.specs.Results.{StoresTuple}
use Rattle.canon_args.specs.Returned.{passed_reading}
use Rattle.canon_model.specs.Homes.{host_texts}
use Rattle.canon_model.specs.Flat.{max_params, max_results}
use Rattle.canon_model.specs.Layout.{members_flat}
use Rattle.canon_model.specs.Reach as reach
use Rattle.canon_model.specs.Reach.{Kind}
use Rattle.canon_model.specs.Shape.{Shape, of_places, product}
use Rattle.canon_model.specs.Tree.{Tree}
use Rattle.canon_memory.specs.Guest.{Moment}
use Rattle.canon_ledger.specs.Ledger.{LedgerState}
use Rattle.canon_resources.specs.Parts.{LeavesTake, Part}
use Rattle.canon_reading.specs.Reading.{Lifts, Reading, Setting}
use Rattle.canon_reading.specs.Spots.{flat_in}
use Rattle.canon_lower_parts.specs.Lowers.{EndsBy, HandlesCross}
use Rattle.canon_lowering.specs.Attempt.{LowersMembers}
use Rattle.canon_lowering.specs.Lowering.{Answer, Ending, Trap}
use Rattle.canon_lowering.specs.Storing.{narrow}
use Rattle.canon_context.specs.Quiet.{have_block}
use Rattle.canon_context.specs.declared.fault.Fault.{Fault}
use Rattle.canon_passing.specs.Args.{args_words}
use Rattle.canon_host.specs.Forms.{RustTypes}
use Rattle.canon_host.specs.declared.asked.Asked.{Asked}
use Rattle.canon_func.specs.AskValues.{asked_origin, asked_params, asked_results}
use Rattle.canon_func.specs.Stores.{Callee}
use Rattle.canon_lowering.specs.Stages.{bare}

-- the shape of the tuple of parameters, and of results
abbrev pub asked_shape : Callee → Asked → Shape
asked_shape callee asked = product of_places (asked_params callee asked)

abbrev pub given_shape : Callee → Asked → Shape
given_shape callee asked = product of_places (asked_results callee asked)

-- ---- parameters

-- lifted in the store of a number from the memory that the guest left
abbrev pub asked_setting : Callee → Asked → List ℕ → ℕ → Setting
asked_setting callee asked memory store = record { types = callee.types; memory = narrow memory; encoding = (asked_origin callee asked memory).encoding; options = asked.options; store = store }

module _ {P : Type 0} (reading : Reading P) (callee : Callee) (asked : Asked) (words memory : List ℕ) where
  -- what is read of the first words
  abbrev pub asked_reading : Reading P
  asked_reading = passed_reading max_params (asked_shape callee asked) reading

  abbrev pub typed_parts : ℕ → List (List Part)
  typed_parts store = asked_reading.steps (asked_setting callee asked memory store) (flat_in (take (args_words (asked_params callee asked)) words) 0) (asked_shape callee asked)

  -- Parameters were lifted in the store of this number with this fuel, or why not.
  abbrev pub TypedAskLifts : ℕ → ℕ → LedgerState → Result P Fault → LedgerState → Type 0
  TypedAskLifts store fuel before result after = (left : ℕ) × Lifts asked_reading (asked_setting callee asked memory store) (flat_in (take (args_words (asked_params callee asked)) words) 0)
      (asked_shape callee asked) before fuel result after left

  -- No reached place has a fault, and the charges of all are no more than the fuel; the ledger accepts the handles.
  pub record TypedAskLiftable (fuel : ℕ) (before : LedgerState) (store : ℕ) : Type 0 where
    pub faultless : (k : Kind) (x : reach.At) → ¬ asked_reading.faults (asked_setting callee asked memory store) (flat_in (take (args_words (asked_params callee asked)) words) 0) (asked_shape callee asked) k x
    pub within : asked_reading.reach (asked_setting callee asked memory store) (flat_in (take (args_words (asked_params callee asked)) words) 0) (asked_shape callee asked) ≤ fuel
    pub handles : List ℕ
    pub lifted : LedgerState
    pub takes : LeavesTake before (typed_parts store) handles lifted

-- ---- results

-- Results that as a tuple have these trees were lowered so, to these words in a row or at the place, by these answers of `realloc` and
-- perhaps a trap.
pub record TupleInto (from to : Moment) (callee : Callee) (asked : Asked) (at : ℕ) (Has : Tree → Type 0) (words : List ℕ) (answers : List Answer) (trap : Option Trap) (hs : List ℕ) (ending : Ending) : Type 0 where
  pub near : members_flat (asked_results callee asked) ≤ max_results
      → (low : LowersMembers false (bare from) (bare to) (host_texts (asked_origin callee asked from.bytes).encoding) (asked_results callee asked) words 0 (InParts Has) hs ending) × (low.answers ≡ answers) × (low.trap ≡ trap)
  pub far : max_results < members_flat (asked_results callee asked)
      → (low : StoresTuple (bare from) (bare to) (asked_origin callee asked from.bytes).encoding (asked_results callee asked) at (InParts Has) hs ending) × (low.answers ≡ answers) × (low.trap ≡ trap)

-- the same, with its handles through the ledger, which do this, from one moment to another
pub record TypedAskLowers (Has : Tree → Type 0) (gives : List (List Part)) (callee : Callee) (asked : Asked) (at : ℕ) (from to : Moment) (words : List ℕ) (answers : List Answer) (trap : Option Trap)
    (before after : LedgerState) (result : Result (Unit {0}) Fault) : Type 0 where
  pub handles : List ℕ
  pub ending : Ending
  pub ends : EndsBy gives result ending
  pub lowered : TupleInto from to callee asked at Has words answers trap handles ending
  pub passed : HandlesCross before after gives handles result
  pub cause : IfErr result (BlamesIn (asked_origin callee asked from.bytes).encoding (asked_results callee asked) Has)
  -- no text among them is too long, and no list or map too large
  pub small : OnOk result (AreSmallIn (asked_origin callee asked from.bytes).encoding (asked_results callee asked) Has)
  -- results that reach no text and no list ask for nothing, and leave memory where they go in a row
  pub quiet : have_block (asked_results callee asked) ≡ false → (answers ≡ []) × (trap ≡ None) × (to.guest ≡ from.guest) × (members_flat (asked_results callee asked) ≤ max_results → to.bytes ≡ from.bytes)

-- no text among them is too long, and no list or map too large; the ledger accepts their handles
pub record TypedAskLowerable (Has : Tree → Type 0) (gives : List (List Part)) (callee : Callee) (asked : Asked) (memory : List ℕ) (before : LedgerState) : Type 0 where
  pub small : AreSmallIn (asked_origin callee asked memory).encoding (asked_results callee asked) Has
  pub given : List ℕ
  pub left : LedgerState
  pub takes : LeavesTake before gives given left

-- what the handles of results do, in order
abbrev pub typed_given : {P R : Type 0} → RustTypes P R → Callee → Asked → R → List (List Part)
typed_given types callee asked results = types.gives callee.types (given_shape callee asked) results
