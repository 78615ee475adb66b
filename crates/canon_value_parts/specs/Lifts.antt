-- How words are read one after another, and what lifting answers. `before` and `after` are the fuel.
use Rattle.std.specs.Prelude.{◌≡◌, ◌+◌, ◌<◌, ◌≤◌, ◌%◌, ◌^◌, Err, IfErr, IfOk, List, Ok, Result, Some, Vec, false, length, ℕ}
use Rattle.std.specs.Char.{IsScalar}
use Rattle.std.specs.declared.alloc.Global.{Global}
use Rattle.canon_model.specs.Cost.{cost, members_cost, names_length}
use Rattle.canon_model.specs.Flat.{MembersFlat, RepFlatAt, RepValues, flat_bits, max_params, max_results}
use Rattle.canon_model.specs.Layout.{flat, members_flat}
use Rattle.canon_model.specs.Memory.{Inside, Memory, low}
use Rattle.canon_model.specs.Leaves.{flat_leaves, values_leaves}
use Rattle.canon_model.specs.Reach.{FlatFault, MemberFlatFault, ValuesFault, flat_reach, members_flat_reach, values_reach}
use Rattle.canon_model.specs.Rep.{ScalarIs}
use Rattle.canon_model.specs.Shape.{Members, Scalar, Shape, char}
use Rattle.canon_model.specs.Text.{Encoding}
use Rattle.canon_model.specs.Tree.{Tree, Trees}
use Rattle.canon_types.specs.declared.types.InterfaceType.{InterfaceType}
use Rattle.canon_plan.specs.NoHandle.{scalar_type}
use Rattle.canon_context.specs.Lifter.{Origin}
use Rattle.canon_context.specs.Told.{Exactly, LiftBlames, ToldAt}
use Rattle.canon_ledger.specs.Ledger.{LedgerState}
use Rattle.canon_lowering.specs.Storing.{narrow}
use Rattle.canon_value_parts.specs.Plan.{parts_of, whole_tree}
use Rattle.canon_passing.specs.Passed.{LiftsHandles}
use Rattle.canon_value_parts.specs.Resources.{all_resources, resources}
use Rattle.canon_val.specs.Value.{HasScalar, IsLiftedFrom, AreLiftedFrom}
use Rattle.canon_context.specs.declared.fault.Fault.{Fault}
use Rattle.canon_val.specs.declared.val.Val.{Val}

-- the scalar is what the word stands for
abbrev pub IsOfWord : InterfaceType → ℕ → Val → Type 0
IsOfWord type w v = (k : Scalar) × (t : Tree) × (scalar_type type ≡ Some k) × HasScalar k v t × ScalarIs k (w % 2 ^ flat_bits k) t

-- the type is char, and the word's low half is no scalar value
abbrev pub IsNoChar : InterfaceType → ℕ → Type 0
IsNoChar type w = (scalar_type type ≡ Some char) × ¬ IsScalar (low w)

-- ---- what lifting answers

-- the value's tree is what the words from word `at` on represent, and its cost was taken from the fuel
abbrev pub IsOfWords : Encoding → Memory → Shape → List ℕ → ℕ → ℕ → ℕ → Val → Type 0
IsOfWords enc m s ws at before after v = (t : Tree) × RepFlatAt false enc m ws at s t × IsLiftedFrom s v t × (before ≡ after + cost s t)

-- As a function's parameters or results, up to `most` words of them in a row, the words represent one list of trees, no other, and
-- the values have these; their costs, and nothing else, were taken from the fuel.
pub record AreValues (most : ℕ) (enc : Encoding) (m : Memory) (ms : Members) (ws : List ℕ) (before after : ℕ) (vs : List Val) : Type 0 where
  pub its_trees : Trees
  pub represented : RepValues most false enc m ws ms its_trees
  pub no_other : (others : Trees) → RepValues most false enc m ws ms others → others ≡ its_trees
  pub have : AreLiftedFrom ms vs its_trees
  pub spent : before ≡ after + members_cost ms its_trees

abbrev pub AreResults : Encoding → Memory → Members → List ℕ → ℕ → ℕ → List Val → Type 0
AreResults enc m ms ws before after vs = AreValues max_results enc m ms ws before after vs

-- a value was lifted from the words from one on, with its handles taken through the ledger, or why not
pub record LiftsWords (o : Origin) (ws : List ℕ) (s : Shape) (i : ℕ) (before : LedgerState) (fuel : ℕ) (result : Result Val Fault) (after : LedgerState) (left : ℕ) : Type 0 where
  pub ok : IfOk result (IsOfWords o.encoding (narrow o.memory) s ws i fuel left)
  pub err : IfErr result (LiftBlames (ToldAt (FlatFault o.encoding (narrow o.memory) ws s i)) (fuel < flat_reach o.encoding (narrow o.memory) ws s i))
  pub falls : left ≤ fuel
  pub handles : LiftsHandles resources o.types before after (flat_leaves (narrow o.memory) ws s i) result

-- there are as many words as values take: in a row up to `most`, else one that points to them
abbrev pub HaveWords : ℕ → Members → List ℕ → Type 0
HaveWords most ms ws = (members_flat ms ≤ most → length ws ≡ members_flat ms) × (most < members_flat ms → length ws ≡ 1)

-- a function's parameters or results were, from all its words
pub record LiftsValues (most : ℕ) (o : Origin) (ws : List ℕ) (ms : Members) (before : LedgerState) (fuel : ℕ) (result : Result (Vec Val Global) Fault) (after : LedgerState) (left : ℕ) : Type 0 where
  pub ok : IfOk result (λ values. AreValues most o.encoding (narrow o.memory) ms ws fuel left values.items)
  pub err : IfErr result (LiftBlames (Exactly (ValuesFault o.encoding (narrow o.memory) ws most ms)) (fuel < values_reach o.encoding (narrow o.memory) ws most ms))
  pub falls : left ≤ fuel
  pub handles : LiftsHandles (λ values. all_resources values.items) o.types before after (values_leaves (narrow o.memory) ws most ms) result

abbrev pub LiftsParams : Origin → List ℕ → Members → LedgerState → ℕ → Result (Vec Val Global) Fault → LedgerState → ℕ → Type 0
LiftsParams o ws ms before fuel result after left = LiftsValues max_params o ws ms before fuel result after left

abbrev pub LiftsResults : Origin → List ℕ → Members → LedgerState → ℕ → Result (Vec Val Global) Fault → LedgerState → ℕ → Type 0
LiftsResults o ws ms before fuel result after left = LiftsValues max_results o ws ms before fuel result after left

-- ---- one after another

module _ (enc : Encoding) (m : Memory) (ws : List ℕ) (from to before after : ℕ) where
  -- a value from the words from one word to another
  abbrev pub LiftsTo : Shape → Result Val Fault → Type 0
  LiftsTo s (Ok v) = IsOfWords enc m s ws from before after v × (to ≡ from + flat s)
  LiftsTo s (Err e) = LiftBlames (ToldAt (FlatFault enc m ws s from)) (before < flat_reach enc m ws s from) e

  -- values in a row, whose own charge was taken before
  abbrev pub AreLifted : Members → List Val → Type 0
  AreLifted ms vs = (ts : Trees) × MembersFlat (Inside m) false enc m ws ms from ts × AreLiftedFrom ms vs ts × (before ≡ after + members_cost ms ts) × (to ≡ from + members_flat ms)

  abbrev pub MembersLiftTo : Members → Result (Vec Val Global) Fault → Type 0
  MembersLiftTo ms (Ok values) = AreLifted ms values.items
  MembersLiftTo ms (Err e) = LiftBlames (ToldAt (MemberFlatFault enc m ws ms from)) (before < members_flat_reach enc m ws ms from) e

  -- the same, where the bytes of their names are charged too
  abbrev pub AreValuesTaken : Members → List Val → Type 0
  AreValuesTaken ms vs = (ts : Trees) × MembersFlat (Inside m) false enc m ws ms from ts × AreLiftedFrom ms vs ts × (before ≡ after + (names_length ms + members_cost ms ts)) × (to ≡ from + members_flat ms)

  abbrev pub PartsLiftTo : Members → Result (Vec Val Global) Fault → Type 0
  PartsLiftTo ms (Ok values) = AreValuesTaken ms values.items
  PartsLiftTo ms (Err e) = LiftBlames (ToldAt (MemberFlatFault enc m ws ms from)) (before < names_length ms + members_flat_reach enc m ws ms from) e

  -- members of a value of the shape, whatever is made of them: their trees make up what the words represent, and its cost was taken
  abbrev pub ArePartsLifted : Shape → List Val → Type 0
  ArePartsLifted s vs = (ts : Trees) × RepFlatAt false enc m ws from s (whole_tree s ts) × AreLiftedFrom (parts_of s (length vs)) vs ts × (before ≡ after + cost s (whole_tree s ts)) × (to ≡ from + flat s)
