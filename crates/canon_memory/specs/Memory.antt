-- Bytes written over a memory.
use Rattle.std.specs.Prelude.{ℕ, List, ◌++◌, drop, length, take}

-- the bytes ws in the place of xs; where they are of another length they are cut, or followed by the rest of xs
abbrev pub written_over : List ℕ → List ℕ → List ℕ
written_over xs ws = take (length xs) (ws ++ drop (length ws) xs)
