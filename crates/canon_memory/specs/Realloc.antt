-- What a call of `realloc` does to memory and to the blocks that live (CanonicalABI.md, "realloc").
use Rattle.std.specs.Prelude.{ℕ, ◌+◌, ◌%◌, ◌<◌, ◌≤◌, ◌≡◌, ◌⊎◌, ◌↔◌, List, [], ◌∷◌, length, slice_index}
use Rattle.std.specs.List.{Contains}
use Rattle.canon_model.specs.Memory.{Block, InBlocks}
use Rattle.canon_model.specs.Requests.{Call}

abbrev pub block : ℕ → ℕ → Block
block start size = record { start = start; size = size }

abbrev pub call : ℕ → ℕ → ℕ → ℕ → Call
call old old_size align new_size = record { old = old; old_size = old_size; align = align; new_size = new_size }

-- the block that a call gives up, and the block of an answer
abbrev pub old_block : Call → Block
old_block c = block c.old c.old_size

abbrev pub new_block : Call → ℕ → Block
new_block c answer = block answer c.new_size

-- the address lies in a block that lives beside the one that the call gives up
abbrev pub InOthers : List Block → Call → ℕ → Type 0
InOthers live c i = (b : Block) × Contains live b × (b ≡ old_block c → ⊥) × InBlocks (b ∷ []) i

-- The law of `realloc`: the answer is aligned and its block ends inside memory, apart from every other block that
-- lives; the bytes of those stay; the first bytes are copied, up to the smaller size; memory isn't shorter; the block
-- given up lives no more, and the new one lives unless it is empty.
pub record ReallocLaw (live live_after : List Block) (memory after : List ℕ) (c : Call) (answer : ℕ) : Type 0 where
  pub aligned : answer % c.align ≡ 0
  pub inside : answer + c.new_size ≤ length after
  pub apart : (i : ℕ) → InOthers live c i → InBlocks (new_block c answer ∷ []) i → ⊥
  pub kept : (i : ℕ) → InOthers live c i → slice_index after i ≡ slice_index memory i
  pub copied : (k : ℕ) → k < c.old_size → k < c.new_size → slice_index after (answer + k) ≡ slice_index memory (c.old + k)
  pub no_shorter : length memory ≤ length after
  pub lives : (b : Block) → Contains live_after b ↔ ((Contains live b × (b ≡ old_block c → ⊥)) ⊎ ((b ≡ new_block c answer) × (0 < c.new_size)))

-- no byte outside the answered block changed
abbrev pub IsTidy : List ℕ → List ℕ → Block → Type 0
IsTidy memory after b = (i : ℕ) → i < length memory → (InBlocks (b ∷ []) i → ⊥) → slice_index after i ≡ slice_index memory i
