-- The events of a run of a guest.
use Rattle.std.specs.Prelude.{Bool, List, None, Option, Some, [], length, ℕ, ⊤, ◌++◌, ◌+◌, ◌∷◌, ◌≡◌, ◌≤◌, ◌⊎◌}
use Rattle.canon_model.specs.Memory.{Block}
use Rattle.canon_model.specs.Requests.{Call}
use Rattle.canon_memory.specs.declared.event.Event.{Event}
use Rattle.canon_memory.specs.declared.event.Event.TheVariants as event
use Rattle.canon_memory.specs.Guest.{Seen}
use Rattle.canon_memory.specs.Realloc.{call}
use Rattle.canon_lowering.specs.Lowering.{Answer, Trap, events_of}

-- ---- properties of events

-- each event has this property
abbrev pub Each : (Event → Type 0) → List Event → Type 0
Each P [] = ⊤
Each P (e ∷ events) = P e × Each P events

-- the last event has it
abbrev pub EndsIn : (Event → Type 0) → List Event → Type 0
EndsIn P [] = ⊥
EndsIn P (e ∷ []) = P e
EndsIn P (e ∷ f ∷ events) = EndsIn P (f ∷ events)

-- where the event is a start: of its words and its memory
abbrev pub OnStart : (List ℕ → List ℕ → Type 0) → Event → Type 0
OnStart P (event.Start func words memory) = P words memory
OnStart P _ = ⊤

-- where it is a return: of these
abbrev pub OnReturn : (List ℕ → List ℕ → Type 0) → Event → Type 0
OnReturn P (event.Return words memory) = P words memory
OnReturn P _ = ⊤

-- it is a return of such words and such a memory
abbrev pub IsReturn : (List ℕ → List ℕ → Type 0) → Event → Type 0
IsReturn P (event.Return words memory) = P words memory
IsReturn P _ = ⊥

-- one of the events is a return of such words and such a memory
abbrev pub SomeReturn : (List ℕ → List ℕ → Type 0) → List Event → Type 0
SomeReturn P [] = ⊥
SomeReturn P (event.Return words memory ∷ events) = P words memory ⊎ SomeReturn P events
SomeReturn P (_ ∷ events) = SomeReturn P events

-- it is an answer of `realloc`, to such a request, at such an address
abbrev pub IsReallocAnswer : (Call → ℕ → Type 0) → Event → Type 0
IsReallocAnswer P (event.Realloc old old_size align new_size answer) = P (call old old_size align new_size) answer
IsReallocAnswer P _ = ⊥

abbrev pub IsRealloc : Event → Type 0
IsRealloc (event.Realloc old old_size align new_size answer) = ⊤
IsRealloc _ = ⊥

abbrev pub IsTrap : Event → Type 0
IsTrap (event.Trap asked len) = ⊤
IsTrap _ = ⊥

-- they begin with an ask for an import: of its number, its words, the memory that the guest left, and what came after it
abbrev pub BeginsInAsk : (ℕ → List ℕ → List ℕ → List Event → Type 0) → List Event → Type 0
BeginsInAsk P (event.Ask index words memory ∷ more) = P index words memory more
BeginsInAsk P _ = ⊥

-- where they begin with one: of the same
abbrev pub OnAsk : (ℕ → List ℕ → List ℕ → List Event → Type 0) → List Event → Type 0
OnAsk P (event.Ask index words memory ∷ more) = P index words memory more
OnAsk P _ = ⊤

-- how often the guest asked for an import
abbrev pub asks_in : List Event → ℕ
asks_in [] = 0
asks_in (event.Ask index words memory ∷ events) = 1 + asks_in events
asks_in (e ∷ events) = asks_in events

abbrev pub IsNoStart : Event → Type 0
IsNoStart (event.Start func words memory) = ⊥
IsNoStart _ = ⊤

abbrev pub IsNoReturn : Event → Type 0
IsNoReturn (event.Return words memory) = ⊥
IsNoReturn _ = ⊤

abbrev pub IsNoResume : Event → Type 0
IsNoResume (event.Resume words memory) = ⊥
IsNoResume _ = ⊤

abbrev pub IsNoPost : Event → Type 0
IsNoPost (event.Post func words) = ⊥
IsNoPost _ = ⊤

-- it is no request for a block, neither one that was answered nor one that trapped
abbrev pub IsNoRequest : Event → Type 0
IsNoRequest (event.Realloc old old_size align new_size answer) = ⊥
IsNoRequest (event.Trap (Some asked) len) = ⊥
IsNoRequest _ = ⊤

-- ---- the length of memory

-- From a memory of `len` bytes to one of `last`: each memory among the events is at least as long as the one before it, and
-- so is the one in which a call trapped.
abbrev pub Grows : ℕ → List Event → ℕ → Type 0
Grows len [] last = len ≤ last
Grows len (event.Start func words memory ∷ events) last = (len ≤ length memory) × Grows (length memory) events last
Grows len (event.Ask index words memory ∷ events) last = (len ≤ length memory) × Grows (length memory) events last
Grows len (event.Resume words memory ∷ events) last = (len ≤ length memory) × Grows (length memory) events last
Grows len (event.Return words memory ∷ events) last = (len ≤ length memory) × Grows (length memory) events last
Grows len (event.Trap asked at ∷ events) last = (len ≤ at) × Grows len events last
Grows len (_ ∷ events) last = Grows len events last

-- ---- one run

-- the blocks that live, and whether a place that the guest is told to hold lives too
pub record Living : Type 0 where
  pub blocks : List Block
  pub holds : Bool

abbrev pub living : Seen → Living
living s = record { blocks = s.live; holds = s.holds }

-- an import that was asked for, with what lived then, how the blocks were answered that the host asked for meanwhile, and how
-- the guest went on
pub record AskTurn : Type 0 where
  pub index : ℕ
  pub words : List ℕ
  pub live : Living
  pub memory : List ℕ
  pub answers : List Answer
  pub resumed_words : List ℕ
  pub resumed_memory : List ℕ

abbrev pub events_in : List AskTurn → List Event
events_in [] = []
events_in (t ∷ turns) = event.Ask t.index t.words t.memory ∷ events_of t.answers None ++ event.Resume t.resumed_words t.resumed_memory ∷ events_in turns

abbrev pub answers_in : List AskTurn → List Answer
answers_in [] = []
answers_in (t ∷ turns) = t.answers ++ answers_in turns

-- ---- what lived at each ask

-- a leg of a guest's way: the events up to an ask, from the ask before it on, and what lived as it asked
pub record Leg : Type 0 where
  pub events : List Event
  pub live : Living

-- From one state by the events of each leg to a next, in which that lives which did at the leg's end; and from the last by the events that
-- are left to such an end.
abbrev pub ByLegs : {S : Type 0} → (S → List Event → S → Type 0) → (S → Living) → (S → List Event → Type 0) → S → List Leg → List Event → Type 0
ByLegs moves live Ends s [] rest = Ends s rest
ByLegs {S} moves live Ends s (leg ∷ legs) rest = (next : S) × moves s leg.events next × (live next ≡ leg.live) × ByLegs moves live Ends next legs rest

-- what came after an ask: blocks were asked for, and the guest was resumed
abbrev pub served_in : AskTurn → List Event
served_in t = events_of t.answers None ++ event.Resume t.resumed_words t.resumed_memory ∷ []

-- the leg to the ask of a turn, by these events before it
abbrev pub leg_of : List Event → AskTurn → Leg
leg_of front t = record { events = front ++ event.Ask t.index t.words t.memory ∷ []; live = t.live }

-- the legs to the asks of these turns
abbrev pub legs_in : List Event → List AskTurn → List Leg
legs_in front [] = []
legs_in front (t ∷ turns) = leg_of front t ∷ legs_in (served_in t) turns

-- what came after the last of these asks
abbrev pub since_last : List Event → List AskTurn → List Event
since_last front [] = front
since_last front (t ∷ turns) = since_last (served_in t) turns

-- The guest made its way by these events, by the turns and by what came after them: in legs to the asks of the turns and to one more ask
-- after them, and by the events that are left.
abbrev pub AsksFrom : (List Leg → List Event → Type 0) → List Event → List AskTurn → Living → List Event → Type 0
AsksFrom Lives front turns late_live (event.Ask index words memory ∷ more) =
    Lives (legs_in front turns ++ record { events = since_last front turns ++ event.Ask index words memory ∷ []; live = late_live } ∷ []) more
AsksFrom Lives front turns late_live tail = Lives (legs_in front turns) (since_last front turns ++ tail)

-- the same by all events, which end in those of the turns and what came after them
abbrev pub AsksLive : (List Leg → List Event → Type 0) → List AskTurn → Living → List Event → List Event → Type 0
AsksLive Lives turns late_live tail events = (front : List Event) × (events ≡ front ++ (events_in turns ++ tail)) × AsksFrom Lives front turns late_live tail

-- what came after the turns: where it is one more ask, which isn't resumed, blocks were asked for with these answers, and else none
abbrev pub EndsAsking : List Answer → Option Trap → List Event → Type 0
EndsAsking answers trap (event.Ask index words memory ∷ more) = more ≡ events_of answers trap
EndsAsking answers trap tail = Each IsNoRequest tail × (answers ≡ []) × (trap ≡ None)

-- From the start on: the guest asked so often and was resumed, and of what came after these turns none is resumed.
pub record StartsCall (func : ℕ) (turns : List AskTurn) (late : List Answer) (late_trap : Option Trap) (tail events : List Event) : Type 0 where
  pub words : List ℕ
  pub memory : List ℕ
  pub is : events ≡ event.Start func words memory ∷ events_in turns ++ tail
  pub no_resume : Each IsNoResume tail
  pub asking : EndsAsking late late_trap tail

-- the same of a guest that may not have been started
abbrev pub MayStart : ℕ → List AskTurn → List Answer → Option Trap → List Event → List Event → Type 0
MayStart func turns late late_trap tail events =
    ((events ≡ []) × (turns ≡ []) × (late ≡ []) × (late_trap ≡ None) × (tail ≡ [])) ⊎ StartsCall func turns late late_trap tail events

-- post-return with the words that were returned, where there is one
abbrev pub posts : Option ℕ → List ℕ → List Event
posts None returned = []
posts (Some func) returned = event.Post func returned ∷ []

-- One run of a core function: blocks were asked for; it was started with these words in this memory; it asked for imports; it
-- returned these words and left this memory; and then post-return.
pub record IsRun (func : ℕ) (post : Option ℕ) (words memory returned after : List ℕ) (events : List Event) : Type 0 where
  pub reallocs : List Event
  pub only_reallocs : Each IsRealloc reallocs
  pub turns : List AskTurn
  pub is : events ≡ reallocs ++ event.Start func words memory ∷ events_in turns ++ event.Return returned after ∷ posts post returned

abbrev pub IsOneRun : ℕ → Option ℕ → List Event → Type 0
IsOneRun func post events = (words memory returned after : List ℕ) × IsRun func post words memory returned after events

-- ---- a prefix of one run

-- the length of the last memory among these events, or of memory before them
abbrev pub last_len : ℕ → List Event → ℕ
last_len len [] = len
last_len len (event.Start func words memory ∷ events) = last_len (length memory) events
last_len len (event.Ask index words memory ∷ events) = last_len (length memory) events
last_len len (event.Resume words memory ∷ events) = last_len (length memory) events
last_len len (event.Return words memory ∷ events) = last_len (length memory) events
last_len len (_ ∷ events) = last_len len events

-- nothing, or a trap in a memory of at least this length
abbrev pub MayTrap : ℕ → List Event → Type 0
MayTrap len [] = ⊤
MayTrap len (event.Trap asked at ∷ []) = len ≤ at
MayTrap len _ = ⊥

-- A prefix of one run, perhaps followed by a trap; `len` is the length of memory before it.
pub record IsPrefixOfRun (func : ℕ) (post : Option ℕ) (len : ℕ) (events : List Event) : Type 0 where
  pub run : List Event
  pub one_run : IsOneRun func post run
  pub prefix : List Event
  pub rest : List Event
  pub trap : List Event
  pub begins : run ≡ prefix ++ rest
  pub events_are : events ≡ prefix ++ trap
  pub may_trap : MayTrap (last_len len prefix) trap
