-- Units that stand in a source and are written as they are.
use Rattle.std.specs.Prelude.{List, drop, flat_map, get_or, length, take, ℕ, ◌*◌, ◌+◌, ◌<◌, ◌≡◌, ◌≤◌}
use Rattle.canon_model.specs.Text.{unit_bytes}
use Rattle.canon_text.specs.Writing.{placed}

-- so many units from a place on
abbrev pub run : List ℕ → ℕ → ℕ → List ℕ
run source from count = take count (drop from source)

-- each unit is below a limit
abbrev pub AllBelow : ℕ → List ℕ → Type 0
AllBelow limit xs = (k : ℕ) → get_or xs k 0 < limit

-- From a place of a source so many units, all below a limit, are written at a place of a destination.
pub record Copies (limit : ℕ) (source old new : List ℕ) (from at count : ℕ) : Type 0 where
  pub inside : from + count ≤ length source
  pub room : at + count ≤ length old
  pub below : AllBelow limit (run source from count)
  pub writes : new ≡ placed old at (run source from count)

-- The same, where each unit is written as its bytes.
pub record Spreads (source old new : List ℕ) (from at count : ℕ) : Type 0 where
  pub inside : from + count ≤ length source
  pub room : at + 2 * count ≤ length old
  pub below : AllBelow 128 (run source from count)
  pub writes : new ≡ placed old at (flat_map unit_bytes (run source from count))
