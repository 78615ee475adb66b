-- An ask of a function of the host over values: how its parameters are lifted and its results lowered.
use Rattle.std.specs.Prelude.{IfErr, List, None, OnOk, Option, Result, Vec, [], false, slice_get, take, map, ℕ, ◌<◌, ◌≡◌, ◌≤◌}
use Rattle.std.specs.declared.alloc.Global.{Global}
use Rattle.canon_model.specs.Homes.{host_texts}
use Rattle.canon_model.specs.Cost.{members_cost}
use Rattle.canon_model.specs.Flat.{RepArgs, max_params, max_results}
use Rattle.canon_model.specs.Layout.{members_flat}
use Rattle.canon_model.specs.Leaves.{values_leaves}
use Rattle.canon_model.specs.Shape.{Members}
use Rattle.canon_model.specs.Tree.{Trees}
use Rattle.canon_memory.specs.Guest.{Moment}
use Rattle.canon_ledger.specs.Ledger.{LedgerState}
use Rattle.canon_resources.specs.Parts.{LeavesLift, LeavesTake, Part, lift_parts, lower_parts}
use Rattle.canon_lowering.specs.Attempt.{LowersMembers, StoresMembers}
use Rattle.canon_lowering.specs.Lowering.{Answer, Ending, Trap}
use Rattle.canon_lowering.specs.Storing.{narrow}
use Rattle.canon_resources.specs.Held.{Any}
use Rattle.canon_types.specs.Table.{param_members, result_members}
use Rattle.canon_context.specs.Component.{encoding_in}
use Rattle.canon_context.specs.Lifter.{Origin}
use Rattle.canon_context.specs.Quiet.{have_block, have_handle}
use Rattle.canon_context.specs.declared.fault.Fault.{Fault}
use Rattle.canon_passing.specs.Args.{args_words}
use Rattle.canon_value_parts.specs.Fails.{AreSmall, BlamesMembers}
use Rattle.canon_value_parts.specs.Lifts.{LiftsParams}
use Rattle.canon_passing.specs.Passed.{Crosses}
use Rattle.canon_value_parts.specs.Resources.{all_passes}
use Rattle.canon_val.specs.Value.{HaveTrees}
use Rattle.canon_val.specs.declared.val.Val.{Val}
use Rattle.canon_host.specs.declared.asked.Asked.{Asked}
use Rattle.canon_func.specs.Stores.{Callee}
use Rattle.canon_lowering.specs.Stages.{bare}

-- ---- what is asked for, in any form

-- the members of its parameters and of its results, and where its texts and memory are
abbrev pub asked_params : Callee → Asked → Members
asked_params callee asked = param_members callee.types.types asked.func

abbrev pub asked_results : Callee → Asked → Members
asked_results callee asked = result_members callee.types.types asked.func

abbrev pub asked_origin : Callee → Asked → List ℕ → Origin
asked_origin callee asked memory = record { types = callee.types; memory = memory; encoding = encoding_in (slice_get callee.options asked.options) }

-- ---- parameters

-- its parameters were lifted from its first words with this fuel, or why not
abbrev pub AskLifts : Callee → ℕ → Asked → List ℕ → List ℕ → LedgerState → Result (Vec Val Global) Fault → LedgerState → Type 0
AskLifts callee fuel asked words memory before result after =
    (left : ℕ) × LiftsParams (asked_origin callee asked memory) (take (args_words (asked_params callee asked)) words) (asked_params callee asked) before fuel result after left

-- what their handles do, in order
abbrev pub ask_param_parts : Callee → Asked → List ℕ → List ℕ → List (List Part)
ask_param_parts callee asked words memory = map (lift_parts callee.types) (values_leaves (narrow memory) (take (args_words (asked_params callee asked)) words) max_params (asked_params callee asked))

-- Parameters are represented, and cost no more than this fuel; the ledger accepts their handles.
pub record AskLiftable (callee : Callee) (fuel : ℕ) (asked : Asked) (words memory : List ℕ) (before : LedgerState) : Type 0 where
  pub trees : Trees
  pub represented : RepArgs false (asked_origin callee asked memory).encoding (narrow memory) (take (args_words (asked_params callee asked)) words) (asked_params callee asked) trees
  pub cheap : members_cost (asked_params callee asked) trees ≤ fuel
  pub resources : List Any
  pub lifted : LedgerState
  pub lifts : LeavesLift callee.types before (values_leaves (narrow memory) (take (args_words (asked_params callee asked)) words) max_params (asked_params callee asked)) resources lifted

-- ---- results

-- what the handles of results do that the function gave, in order
abbrev pub ask_result_parts : Callee → Asked → List Val → List (List Part)
ask_result_parts callee asked results = map (lower_parts callee.types) (all_passes (asked_results callee asked) results)

-- Its results were lowered so, to these words in a row or at the place, by these answers of `realloc` and perhaps a trap.
pub record LowersInto (from to : Moment) (callee : Callee) (asked : Asked) (at : ℕ) (results : List Val) (words : List ℕ) (answers : List Answer) (trap : Option Trap) (hs : List ℕ) (ending : Ending) : Type 0 where
  pub near : members_flat (asked_results callee asked) ≤ max_results
      → (low : LowersMembers false (bare from) (bare to) (host_texts (asked_origin callee asked from.bytes).encoding) (asked_results callee asked) words 0 (HaveTrees (asked_results callee asked) results) hs ending) × (low.answers ≡ answers) × (low.trap ≡ trap)
  pub far : max_results < members_flat (asked_results callee asked)
      → (low : StoresMembers false (bare from) (bare to) (host_texts (asked_origin callee asked from.bytes).encoding) (asked_results callee asked) 0 at (HaveTrees (asked_results callee asked) results) hs ending) × (low.answers ≡ answers) × (low.trap ≡ trap)

-- the same, with its handles through the ledger, from one moment to another
pub record AskLowers (callee : Callee) (asked : Asked) (at : ℕ) (from to : Moment) (results : List Val) (words : List ℕ) (answers : List Answer) (trap : Option Trap) (before after : LedgerState)
    (result : Result (Unit {0}) Fault) : Type 0 where
  pub crosses : Crosses callee.types (have_handle (asked_results callee asked)) (all_passes (asked_results callee asked) results) (LowersInto from to callee asked at results words answers trap) before after result
  pub cause : IfErr result (BlamesMembers (asked_origin callee asked from.bytes).encoding (asked_results callee asked) results)
  -- no text among them is too long, and no list or map too large
  pub small : OnOk result (AreSmall (asked_origin callee asked from.bytes).encoding (asked_results callee asked) results)
  -- results that reach no text and no list ask for nothing, and leave memory where they go in a row
  pub quiet : have_block (asked_results callee asked) ≡ false → (answers ≡ []) × (trap ≡ None) × (to.guest ≡ from.guest) × (members_flat (asked_results callee asked) ≤ max_results → to.bytes ≡ from.bytes)

-- They have trees, no text among them is too long, and no list or map too large; the ledger accepts their handles.
pub record AskLowerable (callee : Callee) (asked : Asked) (memory : List ℕ) (results : List Val) (before : LedgerState) : Type 0 where
  pub trees : Trees
  pub have : HaveTrees (asked_results callee asked) results trees
  pub small : AreSmall (asked_origin callee asked memory).encoding (asked_results callee asked) results
  pub given : List ℕ
  pub left : LedgerState
  pub takes : LeavesTake before (ask_result_parts callee asked results) given left
