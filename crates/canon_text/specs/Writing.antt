-- What a write leaves in a destination.
use Rattle.std.specs.Prelude.{List, drop, flat_map, length, take, ℕ, ◌*◌, ◌++◌, ◌+◌}
use Rattle.canon_model.specs.Text.{unit_bytes}

-- written over the front of what stood there
abbrev pub over : List ℕ → List ℕ → List ℕ
over old front = front ++ drop (length front) old

-- written at a place
abbrev pub placed : List ℕ → ℕ → List ℕ → List ℕ
placed old at items = take at old ++ (items ++ drop (at + length items) old)

-- Of the first bytes, those from a place on stand as units, and before them is what stood.
unfoldable pub inflating : List ℕ → ℕ → ℕ → List ℕ
inflating old count j = take (2 * j) old ++ (flat_map unit_bytes (drop j (take count old)) ++ drop (2 * count) old)
