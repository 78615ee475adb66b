-- The table that an ordered map of cells and a stack of free indexes stand for. A cell holds an entry, or it is vacant.
use Rattle.std.specs.Prelude.{◌≡◌, ℕ, zero, suc, ◌+◌, ◌≤◌, ◌==◌, Bool, true, ◌&&◌, ◌||◌, cond, List, [], ◌∷◌, length, reverse, Option, Some, None}
use Rattle.std.specs.Option.{option_map, option_flatten}
use Rattle.std.specs.Map.{lookup}
use Rattle.std.specs.BTreeMap.{is_at}
use Rattle.std.specs.Ordering.{nat_cmp}
use Rattle.canon_handles.specs.Step.{one_if}
use Rattle.canon_handles.specs.Table.{Table, IsTable, max_handle, entry_at, entry_count, fresh_index, is_full}

-- the cell at an index, where there is one
abbrev pub cell_at : {E : Type 0} → List (ℕ × Option E) → ℕ → Option (Option E)
cell_at cells i = lookup (is_at (nat_cmp i)) cells

-- the entry at an index
abbrev pub entry_in : {E : Type 0} → List (ℕ × Option E) → ℕ → Option E
entry_in cells i = option_flatten (cell_at cells i)

-- what f has at so many numbers, from a number on
abbrev pub values_from : {A : Type 0} → (ℕ → A) → ℕ → ℕ → List A
values_from f a zero = []
values_from f a (suc n) = f a ∷ values_from f (suc a) n

-- greatest is the greatest index given; the stack has the last freed index last
abbrev pub table_of : {E : Type 0} → ℕ → ℕ → List (ℕ × Option E) → List ℕ → Table E
table_of greatest max cells stack = record { array = values_from (entry_in cells) 0 (suc greatest); free = reverse stack; max = max }

-- the cell for what an index names, where b says that it is vacant
abbrev pub cell_of : {E : Type 0} → Bool → Option E → Option (Option E)
cell_of b o = cond b (Some None) (option_map Some o)

-- the cells are the entries and, where vacant, one more at the index that the next insertion gives
abbrev pub AreCells : {E : Type 0} → Bool → Table E → List (ℕ × Option E) → Type 0
AreCells vacant t cells = (i : ℕ) → cell_at cells i ≡ cell_of (vacant && (i == fresh_index t)) (entry_at t i)

-- an insertion needs no memory where a vacant cell stands, nor where no index is left, as it is refused before it needs any
abbrev pub spare_of : {E : Type 0} → Bool → Table E → ℕ
spare_of vacant t = one_if (vacant || is_full t)

-- what holds of the fields of a table, whose stack has room for so many indexes
pub record IsStored {E : Type 0} (greatest max : ℕ) (vacant : Bool) (cells : List (ℕ × Option E)) (stack : List ℕ) (room : ℕ)
    : Type 0 where
  pub sound : IsTable (table_of greatest max cells stack)
  pub exact : AreCells vacant (table_of greatest max cells stack) cells
  pub counted : entry_count (table_of greatest max cells stack) + length stack ≡ greatest
  pub within : greatest ≤ max
  pub small : max ≤ max_handle
  -- the stack has room for all indexes given, and for the one at which a vacant cell stands
  pub roomy : greatest ≤ room
  pub ready : vacant ≡ true → fresh_index (table_of greatest max cells stack) ≤ room

-- the cells with another one at an index, or none there
abbrev pub WritesCell : {E : Type 0} → List (ℕ × Option E) → List (ℕ × Option E) → ℕ → Option (Option E) → Type 0
WritesCell cells cells' i c = (q : ℕ) → cell_at cells' q ≡ cond (q == i) c (cell_at cells q)
