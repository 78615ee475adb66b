-- When a recorded answer of `realloc` is given.
use Rattle.std.specs.Prelude.{List, [], length, min, take, ℕ, ◌%◌, ◌++◌, ◌+◌, ◌-◌, ◌<◌, ◌^◌, ◌∷◌, ◌≡◌, ◌≤◌, ◌⊎◌}
use Rattle.std.specs.List.{All}
use Rattle.canon_model.specs.Memory.{Block, InBlocks}
use Rattle.canon_model.specs.Requests.{Call}
use Rattle.canon_memory.specs.Realloc.{InOthers, new_block}
use Rattle.canon_memory.specs.Watch.{BlockEndsBy, BlocksApart}

-- no block that lives beside the one that is given up has an address of the answered one
abbrev pub IsFree : List Block → Call → ℕ → Type 0
IsFree live c answer = (i : ℕ) → InOthers live c i → InBlocks (new_block c answer ∷ []) i → ⊥

-- Of an answer in a memory of so many bytes: it is below 2 ^ 32 and aligned, its block ends inside memory and is apart from every other block
-- that lives, and the bytes that are to be kept are in memory.
pub record IsLawfulAnswer (live : List Block) (len : ℕ) (c : Call) (answer : ℕ) : Type 0 where
  pub narrow : answer < 2 ^ 32
  pub aligned : answer % c.align ≡ 0
  pub inside : answer + c.new_size ≤ len
  pub free : IsFree live c answer
  pub from : c.old + min c.old_size c.new_size ≤ len

abbrev pub IsNotEmpty : Block → Type 0
IsNotEmpty b = 0 < b.size

-- no block is empty, and each ends at an address or before
abbrev pub IsLiveUpTo : ℕ → Block → Type 0
IsLiveUpTo end b = IsNotEmpty b × BlockEndsBy end b

abbrev pub AreLiveUpTo : ℕ → List Block → Type 0
AreLiveUpTo end live = All (IsLiveUpTo end) live

-- all end at one address or before, and those before the last of the list at another
abbrev pub AreListed : List Block → ℕ → ℕ → Type 0
AreListed live end before = AreLiveUpTo end live × AreLiveUpTo before (take (length live - 1) live)

-- the block is the last of the list, and starts where those before it end, or after
abbrev pub IsHighestBlock : List Block → ℕ → Block → Type 0
IsHighestBlock live before b = (live ≡ take (length live - 1) live ++ b ∷ []) × (before ≤ b.start) × (0 < length live)

-- a block is the old one, or apart from the new one
abbrev pub IsOldOrApart : Block → Block → Block → Type 0
IsOldOrApart old new b = (b ≡ old) ⊎ BlocksApart b new
