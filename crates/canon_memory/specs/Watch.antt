-- A guest that is watched: each answer of its `realloc` is tested against the law of `realloc`, over the blocks that it
-- gave and the places that it was told of since it last ran.
use Rattle.std.specs.Prelude.{ℕ, ◌+◌, ◌%◌, ◌<◌, ◌≤◌, ◌≡◌, ◌⊎◌, ◌↔◌, ◌++◌, ◌&&◌, min, not, Bool, IsTrue, true, Result, Ok, Err, if◌then◌else◌, List, [], ◌∷◌, length, nat_eq, slice_index, take}
use Rattle.std.proofs.Common.{refl, sym, ap, ◌∙◌}
use Rattle.std.specs.List.{All, filter}
use Rattle.canon_model.specs.Memory.{Block, InBlocks}
use Rattle.canon_model.specs.Requests.{Call}
use Rattle.canon_memory.specs.declared.event.Event.{Event}
use Rattle.canon_memory.specs.declared.event.Event.TheVariants as event
use Rattle.canon_memory.specs.Guest.{GuestIn, Mark, Seen}
use Rattle.canon_memory.specs.Realloc.{IsTidy, ReallocLaw, call, new_block, old_block}

-- ---- the blocks that live

abbrev pub is_block : Block → Block → Bool
is_block b c = nat_eq b.start c.start && nat_eq b.size c.size

-- a block, unless it is empty
abbrev pub unless_empty : Block → List Block
unless_empty b = if nat_eq b.size 0 then [] else b ∷ []

abbrev pub other_blocks : List Block → Block → List Block
other_blocks live old = filter (λ b. not (is_block b old)) live

-- after an answer: the block given up lives no more, and the new one lives unless it is empty
abbrev pub relisted : List Block → Call → ℕ → List Block
relisted live c answer = other_blocks live (old_block c) ++ unless_empty (new_block c answer)

-- Whatever the guest was given is its own once it runs: it may write it, free it and give it again. So no block lives
-- once it is let go, and from then on those live that it gives.
abbrev pub live_after : List Block → Event → List Block
live_after live (event.Start func words memory) = []
live_after live (event.Ask index words memory) = live
live_after live (event.Resume words memory) = []
live_after live (event.Return words memory) = live
live_after live (event.Realloc old old_size align new_size answer) = relisted live (call old old_size align new_size) answer
live_after live (event.Post func words) = []
live_after live (event.Dtor func rep) = []
live_after live (event.Trap asked len) = live

abbrev pub live_along : List Block → List Event → List Block
live_along live [] = live
live_along live (e ∷ es) = live_along (live_after live e) es

-- ---- the law, as it is tested

-- `count` bytes from one address on stand in another memory from another address on
abbrev pub BytesMoved : List ℕ → ℕ → List ℕ → ℕ → ℕ → Type 0
BytesMoved before at after to count = (k : ℕ) → k < count → slice_index after (to + k) ≡ slice_index before (at + k)

-- no address is in both blocks
abbrev pub BlocksApart : Block → Block → Type 0
BlocksApart b c = (i : ℕ) → InBlocks (b ∷ []) i → InBlocks (c ∷ []) i → ⊥

-- a block is the one that is given up, or is apart from the new one and keeps its bytes
abbrev pub IsSpared : List ℕ → List ℕ → Block → Block → Block → Type 0
IsSpared before after old new b = (b ≡ old) ⊎ (BlocksApart b new × BytesMoved before b.start after b.start b.size)

abbrev pub LawHolds : List Block → List ℕ → List ℕ → Call → ℕ → Type 0
LawHolds live before after c answer =
    (answer % c.align ≡ 0) × (answer + c.new_size ≤ length after)
    × BytesMoved before c.old after answer (min c.old_size c.new_size)
    × All (IsSpared before after (old_block c) (new_block c answer)) live

abbrev pub BlockEndsBy : ℕ → Block → Type 0
BlockEndsBy end b = b.start + b.size ≤ end

-- What is kept of memory before a call: the bytes up to an address, where the blocks that live and the one that is given up end or
-- before it. It is all of memory where every byte is watched.
abbrev pub IsShot : Bool → List Block → ℕ → List ℕ → List ℕ → Type 0
IsShot whole live old_end memory shot = (end : ℕ) × (shot ≡ take (min end (length memory)) memory) × (old_end ≤ end) × All (BlockEndsBy end) live × (IsTrue whole → length memory ≤ end)

-- A mark says exactly whether the law held. Where every byte is watched it says exactly whether no byte outside the block changed; else it
-- never says so.
pub record IsExactMark (whole : Bool) (live live_after : List Block) (before after : List ℕ) (c : Call) (answer : ℕ) (mark : Mark) : Type 0 where
  pub lawful : IsTrue mark.lawful ↔ ReallocLaw live live_after before after c answer
  pub tidy : IsTrue mark.tidy → IsTrue whole × IsTidy before after (new_block c answer)
  pub tells_tidy : IsTrue whole → IsTidy before after (new_block c answer) → IsTrue mark.tidy

-- ---- what contracts see

-- a guest with whether every byte is watched, the places that it was told to hold, the blocks that it gave and that live, the marks
-- of its answers, and how often want of memory was answered, by the guest or for want of room to watch it
pub record Watching (G : Type 0) : Type 0 where
  pub guest : G
  pub whole : Bool
  pub held : List Block
  pub live : List Block
  pub marks : List Mark
  pub shortages : ℕ

-- the guest of one that is watched, in the same memory
abbrev pub watched_guest : {G : Type 0} → GuestIn (Watching G) → GuestIn G
watched_guest w = record { guest = w.guest.guest; len = w.len; wide = w.wide }

-- It moves as its guest does, the live blocks follow the events, as much is watched as before, and no want of memory was answered.
pub record WatchedMoves {G : Type 0} (Moves : GuestIn G → List Event → GuestIn G → Type 0) (w : GuestIn (Watching G)) (events : List Event) (x : GuestIn (Watching G)) : Type 0 where
  pub moves : Moves (watched_guest w) events (watched_guest x)
  pub live : x.guest.live ≡ live_along w.guest.live events
  pub whole : x.guest.whole ≡ w.guest.whole
  pub shortages : x.guest.shortages ≡ w.guest.shortages

-- one list of events after another
live_along-append : (live : List Block) (xs ys : List Event) → live_along live (xs ++ ys) ≡ live_along (live_along live xs) ys
live_along-append live [] ys = refl
live_along-append live (x ∷ xs) ys = live_along-append (live_after live x) xs ys

pub along_both : (u v w : List Block) (xs ys : List Event) → v ≡ live_along u xs → w ≡ live_along v ys → w ≡ live_along u (xs ++ ys)
along_both u v w xs ys f g = g ∙ ap (λ l. live_along l ys) f ∙ sym (live_along-append u xs ys)

-- what lives: the places held, and the blocks given
abbrev pub all_live : {G : Type 0} → Watching G → List Block
all_live w = w.held ++ w.live

-- the guest tells its journal and its traps, and the watch the rest
abbrev pub watched_seen : {G : Type 0} → (G → Seen) → Watching G → Seen
watched_seen seen w = record (seen w.guest) { marks = w.marks; live = all_live w; holds = true; shortages = w.shortages }

-- an answer was marked, exactly
abbrev pub Marks : {G : Type 0} → Watching G → Watching G → List ℕ → List ℕ → Call → ℕ → Type 0
Marks w x before after c answer = (mark : Mark) × (x.marks ≡ w.marks ++ mark ∷ []) × IsExactMark w.whole (all_live w) (all_live x) before after c answer mark

-- A place is listed beside those that were; or it isn't, and want of memory is counted. Nothing else of the watch changes.
abbrev pub Lists : {G E : Type 0} → Watching G → Watching G → Block → Result (Unit {0}) E → Type 0
Lists w x place (Ok done) = x ≡ record w { guest = x.guest; held = w.held ++ place ∷ [] }
Lists w x place (Err e) = x ≡ record w { guest = x.guest; shortages = x.shortages }
