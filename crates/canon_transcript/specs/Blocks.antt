-- The blocks that a guest's answers of `realloc` leave, as its events show them.
use Rattle.std.specs.Prelude.{ℕ, ◌==◌, ◌&&◌, Bool, if◌then◌else◌, List, [], ◌∷◌, ◌++◌, fold, sum_by}
use Rattle.canon_memory.specs.declared.event.Event.{Event}
use Rattle.canon_memory.specs.declared.event.Event.TheVariants as event
use Rattle.canon_transcript.specs.declared.blocks.Block.{Block}

-- the block of an answer, where it isn't empty
abbrev pub answered_block : ℕ → ℕ → List Block
answered_block start size = if size == 0 then [] else record { start = start; size = size } ∷ []

abbrev pub is_at : ℕ → ℕ → Block → Bool
is_at start size b = b.start == start && b.size == size

-- these in the place of the first block that starts there and has that size, or at the end where there is none
abbrev pub put_block : ℕ → ℕ → List Block → List Block → List Block
put_block start size new [] = new
put_block start size new (b ∷ bs) = if is_at start size b then new ++ bs else b ∷ put_block start size new bs

-- a request without an old block adds the block of its answer; one with an old block puts it in the place of that
abbrev pub blocks_after : List Block → Event → List Block
blocks_after bs (event.Realloc old old_size align new_size answer) =
    if old_size == 0 then bs ++ answered_block answer new_size else put_block old old_size (answered_block answer new_size) bs
blocks_after bs (event.Start func words memory) = bs
blocks_after bs (event.Ask index words memory) = bs
blocks_after bs (event.Resume words memory) = bs
blocks_after bs (event.Return words memory) = bs
blocks_after bs (event.Post func words) = bs
blocks_after bs (event.Dtor func rep) = bs
blocks_after bs (event.Trap asked len) = bs

-- the blocks that these events leave, in order
abbrev pub blocks_left : List Event → List Block
blocks_left events = fold blocks_after [] events

-- how many bytes blocks have
abbrev pub size_of_blocks : List Block → ℕ
size_of_blocks bs = sum_by (λ b. b.size) bs

abbrev pub block_bytes : List Event → ℕ
block_bytes events = size_of_blocks (blocks_left events)
