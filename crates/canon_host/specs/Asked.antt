-- What is asked for, and with how many words.
use Rattle.std.specs.Prelude.{IfSome, List, Some, drop, if◌then◌else◌, length, max, nat_le, slice_get, ℕ, ◌+◌, ◌<◌, ◌≡◌, ◌≤◌}
use Rattle.canon_model.specs.Flat.{max_results}
use Rattle.canon_model.specs.Layout.{members_flat}
use Rattle.canon_model.specs.Shape.{Members}
use Rattle.canon_types.specs.Table.{HasTuple, TypeTable, param_members, result_members}
use Rattle.canon_context.specs.Component.{HasOptions}
use Rattle.canon_context.specs.declared.component.Component.{Component}
use Rattle.canon_passing.specs.Args.{args_words}
use Rattle.canon_host.specs.declared.asked.Asked.{Asked}

-- it is a function of the component, under options of it
pub record IsAsked (component : Component) (asked : Asked) : Type 0 where
  pub found : slice_get component.types.types.funcs asked.ty ≡ Some asked.func
  pub params : HasTuple component.types.types asked.func.params
  pub results : HasTuple component.types.types asked.func.results
  pub options : HasOptions component asked.options

-- how many words point to where results are stored that don't go in a row
abbrev pub pointer_words : Members → ℕ
pointer_words results = if nat_le (members_flat results) max_results then 0 else 1

-- how many words results take in a row: none where they don't go so
abbrev pub row_words : Members → ℕ
row_words results = if nat_le (members_flat results) max_results then members_flat results else 0

-- how many words the guest asks with: those of the parameters, and the pointer
abbrev pub asked_words : Members → Members → ℕ
asked_words params results = args_words params + pointer_words results

-- how long storage is that has room for them, and for results in a row
abbrev pub storage_words : Members → Members → ℕ
storage_words params results = max (asked_words params results) (row_words results)

-- The words are enough: those of the parameters, one after them that points to where results are stored that don't go in a row, and
-- else as many as the results take.
pub record AreEnough (params results : Members) (words : List ℕ) : Type 0 where
  pub given : args_words params ≤ length words
  pub pointer : max_results < members_flat results → args_words params < length words
  pub room : members_flat results ≤ max_results → members_flat results ≤ length words

-- the words behind those that results take in a row stay
abbrev pub RestStays : Members → List ℕ → List ℕ → Type 0
RestStays results words words2 = drop (row_words results) words2 ≡ drop (row_words results) words

abbrev pub HasWordsEnough : TypeTable → Asked → List ℕ → Type 0
HasWordsEnough types asked words = AreEnough (param_members types asked.func) (result_members types asked.func) words

abbrev pub HasRoomFor : TypeTable → ℕ → List ℕ → Type 0
HasRoomFor types ty words = IfSome (slice_get types.funcs ty) (λ t. AreEnough (param_members types t) (result_members types t) words)
