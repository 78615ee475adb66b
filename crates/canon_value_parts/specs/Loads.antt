-- What loading and lifting answer, and how their faults are reported. `before` and `after` are the fuel.
use Rattle.std.specs.Prelude.{◌≡◌, ◌+◌, ◌<◌, ◌≤◌, IfErr, IfOk, List, Result, false, ℕ}
use Rattle.canon_context.specs.Lifter.{Origin}
use Rattle.canon_context.specs.Told.{Exactly, LiftBlames}
use Rattle.canon_context.specs.declared.fault.Fault.{Fault}
use Rattle.canon_ledger.specs.Ledger.{LedgerState}
use Rattle.canon_lowering.specs.Storing.{narrow}
use Rattle.canon_model.specs.Cost.{cost, members_cost, names_length}
use Rattle.canon_model.specs.Memory.{Inside, Memory}
use Rattle.canon_model.specs.Leaves.{reach_leaves}
use Rattle.canon_model.specs.Reach.{StoredFault, members_reach, reach_cost}
use Rattle.canon_model.specs.Rep.{MembersStored, RepMem}
use Rattle.canon_model.specs.Shape.{Members, Shape}
use Rattle.canon_model.specs.Text.{Encoding}
use Rattle.canon_model.specs.Tree.{Tree, Trees}
use Rattle.canon_passing.specs.Passed.{LiftsHandles}
use Rattle.canon_value_parts.specs.Resources.{resources}
use Rattle.canon_val.specs.Value.{IsLiftedFrom, AreLiftedFrom}
use Rattle.canon_val.specs.declared.val.Val.{Val}

-- ---- values

-- what the bytes at an address represent is the value, and its cost was taken from the fuel
abbrev pub IsLoaded : Encoding → Memory → Shape → ℕ → ℕ → ℕ → Val → Type 0
IsLoaded enc m s a before after v = (t : Tree) × RepMem false enc m a s t × IsLiftedFrom s v t × (before ≡ after + cost s t)

-- members of a product at a, where the one before them ends at offset o, are the values; their own costs were taken
abbrev pub AreLoaded : Encoding → Memory → Members → ℕ → ℕ → ℕ → ℕ → List Val → Type 0
AreLoaded enc m ms o a before after vs = (ts : Trees) × MembersStored (Inside m) false enc m ms o a ts × AreLiftedFrom ms vs ts × (before ≡ after + members_cost ms ts)

-- members in a row, whose own costs and the bytes of whose names were taken
abbrev pub AreCharged : Encoding → Memory → Members → ℕ → ℕ → ℕ → ℕ → List Val → Type 0
AreCharged enc m ms o a before after vs = (ts : Trees) × MembersStored (Inside m) false enc m ms o a ts × AreLiftedFrom ms vs ts × (before ≡ after + (names_length ms + members_cost ms ts))

abbrev pub charged_reach : Encoding → Memory → Members → ℕ → ℕ → ℕ
charged_reach enc m ms o a = names_length ms + members_reach enc m ms o a

-- a value at an address was loaded, with its handles taken through the ledger, or why not
pub record Loads (o : Origin) (s : Shape) (a : ℕ) (before : LedgerState) (fuel : ℕ) (result : Result Val Fault) (after : LedgerState) (left : ℕ) : Type 0 where
  pub ok : IfOk result (IsLoaded o.encoding (narrow o.memory) s a fuel left)
  pub err : IfErr result (LiftBlames (Exactly (StoredFault o.encoding (narrow o.memory) s a)) (fuel < reach_cost o.encoding (narrow o.memory) s a))
  pub falls : left ≤ fuel
  pub handles : LiftsHandles resources o.types before after (reach_leaves (narrow o.memory) s a) result
