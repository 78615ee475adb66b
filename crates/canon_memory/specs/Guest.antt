-- What contracts see of a guest.
use Rattle.std.specs.Prelude.{ℕ, ◌≤◌, ◌≡◌, ◌++◌, Bool, IsFalse, IsTrue, List, [], ◌∷◌, length, Option, Result, Ok, Err}
use Rattle.canon_model.specs.Memory.{Block, Memory, Within}
use Rattle.canon_model.specs.Requests.{Call}
use Rattle.canon_memory.specs.declared.error.GuestFault.{GuestFault}
use Rattle.canon_memory.specs.declared.error.GuestFault.TheVariants as fault
use Rattle.canon_memory.specs.declared.event.Event.{Event}
use Rattle.canon_memory.specs.Counts.{Rose}
use Rattle.canon_memory.specs.Journal.{AddsEvents, answer_event, asked_trap}
use Rattle.canon_memory.specs.Realloc.{IsTidy, ReallocLaw, new_block}

-- Of an answer of `realloc`: whether it kept the law, and whether no byte outside its block changed.
pub record Mark : Type 0 where
  pub lawful : Bool
  pub tidy : Bool

-- The journal where the guest tells it, a mark for each answer of `realloc` in its life, the blocks that live, whether a
-- place that it is told to hold lives too, and how often it trapped and answered want of memory.
pub record Seen : Type 0 where
  pub journal : Option (List Event)
  pub marks : List Mark
  pub live : List Block
  pub holds : Bool
  pub traps : ℕ
  pub shortages : ℕ

-- a guest and its memory at one time
pub record Moment : Type 0 where
  pub guest : Seen
  pub bytes : List ℕ

abbrev pub moment : Seen → List ℕ → Moment
moment guest bytes = record { guest = guest; bytes = bytes }

-- a guest, whose memory has so many bytes, and pointers of 8 bytes where it is wide
pub record GuestIn (G : Type 0) : Type 0 where
  pub guest : G
  pub len : ℕ
  pub wide : Bool

abbrev pub guest_in : {G : Type 0} → G → Memory → GuestIn G
guest_in guest memory = record { guest = guest; len = length memory.bytes; wide = memory.wide }

-- A call goes from one to the other: memory isn't shorter, counts never fall, and it adds these marks and, to a told
-- journal, these events.
pub record Goes (before after : Moment) (new_marks : List Mark) (new_events : List Event) : Type 0 where
  pub no_shorter : length before.bytes ≤ length after.bytes
  pub traps_later : before.guest.traps ≤ after.guest.traps
  pub shortages_later : before.guest.shortages ≤ after.guest.shortages
  pub marks : after.guest.marks ≡ before.guest.marks ++ new_marks
  pub events : AddsEvents before.guest.journal after.guest.journal new_events

-- each fault is answered only where its count rose
abbrev pub HasCause : {T : Type 0} → Seen → Seen → Result T GuestFault → Type 0
HasCause before after (Ok x) = Unit {0}
HasCause before after (Err fault.Trap) = Rose before.traps after.traps
HasCause before after (Err fault.OutOfMemory) = Rose before.shortages after.shortages

-- a fact for every answer but want of memory
abbrev pub OnAnswer : {T : Type 0} → Result T GuestFault → Type 0 → Type 0
OnAnswer (Ok x) P = P
OnAnswer (Err fault.Trap) P = P
OnAnswer (Err fault.OutOfMemory) P = Unit {0}

-- ---- what `realloc` does

-- an answer, with its mark
pub record Answered (before after : Moment) (c : Call) (answer : ℕ) (mark : Mark) : Type 0 where
  pub goes : Goes before after (mark ∷ []) (answer_event c answer ∷ [])
  pub lawful : IsTrue mark.lawful → ReallocLaw before.guest.live after.guest.live before.bytes after.bytes c answer
  pub tidy : IsTrue mark.tidy → IsTidy before.bytes after.bytes (new_block c answer)

pub record Trapped (before after : Moment) (c : Call) : Type 0 where
  pub goes : Goes before after [] (asked_trap c (length before.bytes) ∷ [])
  pub rose : Rose before.guest.traps after.guest.traps

pub record WasShort (before after : Moment) : Type 0 where
  pub goes : Goes before after [] []
  pub rose : Rose before.guest.shortages after.guest.shortages

abbrev pub Reallocates : Moment → Moment → Call → Result ℕ GuestFault → Type 0
Reallocates before after c (Ok answer) = (mark : Mark) × Answered before after c answer mark
Reallocates before after c (Err fault.Trap) = Trapped before after c
Reallocates before after c (Err fault.OutOfMemory) = WasShort before after

-- ---- what `hold` does

-- Whatever lived lives on, the place lives too if it holds places, and no other byte. Nothing else of it changed, and nothing at all if it
-- holds none.
pub record IsHeld (before after : Seen) (place : Block) : Type 0 where
  pub still : IsFalse before.holds → after ≡ before
  pub same : after ≡ record before { live = after.live }
  pub grows : Within before.live after.live
  pub only : Within after.live (place ∷ before.live)
  pub lives : IsTrue before.holds → Within (place ∷ []) after.live

-- It holds places, and there was no memory to list this one.
pub record IsUnheld (before after : Seen) : Type 0 where
  pub holds : IsTrue before.holds
  pub same : after ≡ record before { shortages = after.shortages }
  pub later : before.shortages ≤ after.shortages
  pub rose : Rose before.shortages after.shortages

abbrev pub HoldsPlace : {E : Type 0} → Seen → Seen → Block → Result (Unit {0}) E → Type 0
HoldsPlace before after place (Ok done) = IsHeld before after place
HoldsPlace before after place (Err e) = IsUnheld before after

-- in any memory it may go from the one to the other by no event
abbrev pub MovesByNone : {G : Type 0} → (GuestIn G → List Event → GuestIn G → Type 0) → G → G → Type 0
MovesByNone moves g h = (memory : Memory) → moves (guest_in g memory) [] (guest_in h memory)

-- ---- a guest that tells its journal

-- a guest with its journal, and how often want of memory was answered, by the guest or for want of room in the journal
pub record Recorded (G : Type 0) : Type 0 where
  pub guest : G
  pub events : List Event
  pub shortages : ℕ

-- the guest of one that tells its journal, in the same memory
abbrev pub of_guest : {G : Type 0} → GuestIn (Recorded G) → GuestIn G
of_guest j = record { guest = j.guest.guest; len = j.len; wide = j.wide }

-- It moves as its guest does, and no want of memory was answered.
pub record JournaledMoves {G : Type 0} (Moves : GuestIn G → List Event → GuestIn G → Type 0) (j : GuestIn (Recorded G)) (events : List Event) (k : GuestIn (Recorded G)) : Type 0 where
  pub moves : Moves (of_guest j) events (of_guest k)
  pub shortages : k.guest.shortages ≡ j.guest.shortages
