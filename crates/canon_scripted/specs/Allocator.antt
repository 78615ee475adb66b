-- An allocator that goes up: what it answers a call of `realloc`, by its five rules.
use Rattle.std.specs.Prelude.{ℕ, min, ◌+◌, ◌^◌, ◌%◌, ◌<◌, ◌≤◌, ◌≡◌, ◌++◌, ◌&&◌, ◌||◌, Bool, false, if◌then◌else◌, not, List, [], ◌∷◌, nat_eq, nat_le, nat_lt, Option, None, Some, Result, Ok, Err}
use Rattle.std.specs.List.{copy_within}
use Rattle.canon_model.specs.Layout.{align_to}
use Rattle.canon_model.specs.Memory.{Block}
use Rattle.canon_model.specs.Requests.{Call}
use Rattle.canon_memory.specs.Realloc.{block, old_block}
use Rattle.canon_memory.specs.Watch.{is_block}
use Rattle.canon_memory.specs.declared.error.GuestFault.{GuestFault}
use Rattle.canon_memory.specs.declared.error.GuestFault.TheVariants as fault

-- Its top, and the blocks that live.
pub record Allocator : Type 0 where
  pub top : ℕ
  pub live : List Block

-- ---- lists of live blocks

abbrev pub is_live : List Block → Block → Bool
is_live [] old = false
is_live (b ∷ bs) old = is_block b old || is_live bs old

-- a block, unless it is empty
abbrev pub listed : ℕ → ℕ → List Block
listed start size = if nat_eq size 0 then [] else block start size ∷ []

-- the block in another size; it lives no more where that is 0
abbrev pub with_block_resized : List Block → Block → ℕ → List Block
with_block_resized [] old size = []
with_block_resized (b ∷ bs) old size = if is_block b old then listed old.start size ++ bs else b ∷ with_block_resized bs old size

-- ---- the five rules, in a memory of so many bytes

-- an answer, and the allocator after it
pub record Placed : Type 0 where
  pub answer : ℕ
  pub after : Allocator

-- A block that passes the end of memory isn't answered, nor one at 2 ^ 32: a pointer has four bytes.
abbrev pub placed_inside : ℕ → ℕ → ℕ → Allocator → Option Placed
placed_inside len start size after =
    if nat_lt start (2 ^ 32) && nat_le (start + size) len then Some (record { answer = start; after = after }) else None

-- 1. A new block, at the first multiple of the alignment from the top on; the top is then its end.
abbrev pub new_placed : ℕ → Allocator → Call → Option Placed
new_placed len a c = let start = align_to a.top c.align in
    placed_inside len start c.new_size (record { top = start + c.new_size; live = a.live ++ listed start c.new_size })

-- 3. The block that ends at the top, in another size where it is; the top is then its end.
abbrev pub last_placed : ℕ → Allocator → Call → Option Placed
last_placed len a c =
    placed_inside len c.old c.new_size (record { top = c.old + c.new_size; live = with_block_resized a.live (old_block c) c.new_size })

-- 4. A block in a smaller size, where it is.
abbrev pub smaller_placed : ℕ → Allocator → Call → Option Placed
smaller_placed len a c = placed_inside len c.old c.new_size (record a { live = with_block_resized a.live (old_block c) c.new_size })

-- 5. A new block, and the old one lives no more.
abbrev pub moved_placed : ℕ → Allocator → Call → Option Placed
moved_placed len a c = new_placed len (record a { live = with_block_resized a.live (old_block c) 0 }) c

-- The five rules: which one answers a call. It traps where nothing is placed, and, by rule 2, where its old block
-- doesn't live. (In the memory of its earlier answers rule 4 never passes the end.)
abbrev pub allocate : ℕ → Allocator → Call → Option Placed
allocate len a c = let aligned = nat_eq (c.old % c.align) 0 in
    if nat_eq c.old_size 0 then new_placed len a c
    else if not (is_live a.live (old_block c)) then None
    else if nat_eq (c.old + c.old_size) a.top && aligned then last_placed len a c
    else if nat_le c.new_size c.old_size && aligned then smaller_placed len a c
    else moved_placed len a c

-- memory after an answer: the first bytes of the old block, up to the smaller size, stand in the new one
abbrev pub copied : List ℕ → Call → ℕ → List ℕ
copied memory c answer = copy_within memory c.old (c.old + min c.old_size c.new_size) answer

-- ---- what its calls do

-- The allocator does what the rules say: it traps where they give nothing. A call that doesn't answer leaves it.
abbrev pub DoesPlace : Option Placed → Allocator → Allocator → Result ℕ GuestFault → Type 0
DoesPlace rule before after (Ok answer) = rule ≡ Some (record { answer = answer; after = after })
DoesPlace rule before after (Err fault.Trap) = (rule ≡ None) × (after ≡ before)
DoesPlace rule before after (Err fault.OutOfMemory) = after ≡ before

-- Live blocks aren't empty, stand in a row without overlap from `from` on, and end at the top or before.
abbrev pub InRow : ℕ → List Block → ℕ → Type 0
InRow from [] top = from ≤ top
InRow from (b ∷ bs) top = (from ≤ b.start) × (0 < b.size) × InRow (b.start + b.size) bs top
