-- The laws of values and trees. Each is proved as the contract of a function in src/laws.rt.
use Rattle.std.specs.Prelude.{◌≡◌, ℕ, List, length, map}
use Rattle.canon_model.specs.Same.{CarriedTrees}
use Rattle.canon_model.specs.Shape.{Members, member_count}
use Rattle.canon_model.specs.Tree.{Trees}
use Rattle.canon_val.specs.Equal.{data_of}
use Rattle.canon_value_parts.specs.Fails.{Failure, IsTypeFailure, MemberFails}
use Rattle.canon_value_parts.specs.Resources.{all_resources}
use Rattle.canon_val.specs.Value.{AreLiftedFrom, AreSame, HaveTrees}
use Rattle.canon_val.specs.declared.val.Val.{Val}

-- Values have one list of trees, but for how many bytes spell a text and which handles stand for resources, and trees are those
-- of one list of values, whichever its resources are. Lifted values are values, and all that are lifted from the same trees, with
-- the same resources, have the same data, with their flags in the same order.
pub record OneValue : Type 0 where
  pub trees : (ms : Members) (vs : List Val) (ts us : Trees) → HaveTrees ms vs ts → HaveTrees ms vs us → CarriedTrees ts us
  pub values : (ms : Members) (vs ws : List Val) (ts : Trees) → HaveTrees ms vs ts → HaveTrees ms ws ts → AreSame ms vs ws
  pub lifted : (ms : Members) (vs : List Val) (ts : Trees) → AreLiftedFrom ms vs ts → HaveTrees ms vs ts
  pub one_lifted : (ms : Members) (vs ws : List Val) (ts : Trees) → AreLiftedFrom ms vs ts → AreLiftedFrom ms ws ts → all_resources vs ≡ all_resources ws → map data_of vs ≡ map data_of ws

-- Where a value isn't of its type there are no trees.
abbrev pub FailureExcludes : Type 0
FailureExcludes = (how : Failure) (ms : Members) (vs : List Val) (k : ℕ) (ts : Trees) → IsTypeFailure how → MemberFails how ms vs k → ¬ HaveTrees ms vs ts

-- Where as many values as members are all of their types, it isn't so that there are none.
abbrev pub FailuresAreAll : Type 0
FailuresAreAll = (ms : Members) (vs : List Val) → length vs ≡ member_count ms → ((how : Failure) (k : ℕ) → IsTypeFailure how → ¬ MemberFails how ms vs k) → ¬ ((ts : Trees) → ¬ HaveTrees ms vs ts)
