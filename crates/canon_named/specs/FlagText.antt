-- The text of flags: the names of those that are set, between bars and in parentheses.
use Rattle.std.specs.Prelude.{◌/◌, ◌%◌, ◌==◌, ◌++◌, Bool, List, [], ◌∷◌, filter, map, slice_index, ℕ}
use Rattle.std.specs.Int.{bit_at}
use Rattle.std.specs.List.{enumerate_from, join_with_byte}
use Rattle.canon_model.specs.Shape.{Name}

-- the flag of this number is set, in words of 32 flags, the lowest bit first
abbrev pub is_set : List ℕ → ℕ → Bool
is_set words k = bit_at (slice_index words (k / 32)) (k % 32) == 1

-- the names of the flags that are set, in order
abbrev pub set_names : List ℕ → List Name → List Name
set_names words names = map (λ p. p.1) (filter (λ p. is_set words p.0) (enumerate_from 0 names))

-- these names joined by `|`, between `(` and `)`
abbrev pub flags_text : List ℕ → List Name → List ℕ
flags_text words names = 40 ∷ (join_with_byte 124 (set_names words names) ++ 41 ∷ [])
