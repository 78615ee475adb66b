-- What a guest that replays does, call by call.
use Rattle.std.specs.Prelude.{List, None, Option, Result, Some, Ok, Err, [], flat_map, length, ℕ, ⊤, ◌++◌, ◌+◌, ◌≡◌, ◌∷◌, ◌⊎◌, ◌≢◌}
use Rattle.std.proofs.Common.{append_assoc, ap, refl, subst₂, sym, ◌∙◌}
use Rattle.canon_model.specs.Flat.{AreWords}
use Rattle.canon_model.specs.Requests.{Call}
use Rattle.canon_memory.specs.declared.error.GuestFault.{GuestFault}
use Rattle.canon_memory.specs.declared.error.GuestFault.TheVariants as fault
use Rattle.canon_memory.specs.declared.event.Event.{Event}
use Rattle.canon_memory.specs.declared.event.Event.TheVariants as event
use Rattle.canon_memory.specs.declared.guest.Step.{Step}
use Rattle.canon_memory.specs.Guest.{GuestIn}
use Rattle.canon_memory.specs.Journal.{answer_event, asked_trap, step_event, trap_event}
use Rattle.canon_memory.specs.Watch.{relisted}
use Rattle.canon_replay_guest.specs.Lawful.{IsLawfulAnswer}
use Rattle.canon_replay_guest.specs.Replaying.{CanGrow, IsOpened, Replaying, event_after, next_event, stopped_for, trapped_again, wanted_length}
use Rattle.canon_replay_guest.specs.declared.stop.Stop.{Stop}
use Rattle.canon_replay_guest.specs.declared.stop.Stop.TheVariants as stop

-- ---- what it is asked

pub data GuestRequest : Type 0 where
  starts : (func : ℕ) (words : List ℕ) → GuestRequest
  resumes : (words : List ℕ) → GuestRequest
  reallocates : (c : Call) → GuestRequest
  posts : (func : ℕ) (words : List ℕ) → GuestRequest
  destroys : (func rep : ℕ) → GuestRequest

-- A recorded event tells a request, in whatever memory it was made. No destructor is recorded.
abbrev pub TellsRequest : Event → GuestRequest → Type 0
TellsRequest (event.Start func words memory) (starts f ws) = (func ≡ f) × (words ≡ ws)
TellsRequest (event.Resume words memory) (resumes ws) = words ≡ ws
TellsRequest (event.Realloc old old_size align new_size answer) (reallocates c) = (old ≡ c.old) × (old_size ≡ c.old_size) × (align ≡ c.align) × (new_size ≡ c.new_size)
TellsRequest (event.Post func words) (posts f ws) = (func ≡ f) × (words ≡ ws)
TellsRequest _ _ = ⊥

-- it is the recorded one
abbrev pub IsNext : Option Event → GuestRequest → Type 0
IsNext None q = ⊥
IsNext (Some e) q = TellsRequest e q

-- each word that it is asked with has 64 bits
abbrev pub HasWords : GuestRequest → Type 0
HasWords (starts func words) = AreWords words
HasWords (resumes words) = AreWords words
HasWords (posts func words) = AreWords words
HasWords _ = ⊤

-- A request, with words of 64 bits, isn't the recorded one; or none is recorded.
abbrev pub IsOtherRequest : Option Event → GuestRequest → Type 0
IsOtherRequest None q = ⊤
IsOtherRequest (Some e) q = ¬ (TellsRequest e q) × HasWords q

-- memory is grown before it, where it is the first of a call
abbrev pub GrowsMemory : GuestRequest → Type 0
GrowsMemory (starts func words) = ⊤
GrowsMemory (reallocates c) = ⊤
GrowsMemory _ = ⊥

abbrev pub LetsGo : GuestRequest → Type 0
LetsGo (starts func words) = ⊤
LetsGo (resumes words) = ⊤
LetsGo _ = ⊥

abbrev pub EndsItself : GuestRequest → Type 0
EndsItself (posts func words) = ⊤
EndsItself (destroys func rep) = ⊤
EndsItself _ = ⊥

-- ---- what it did

-- A call of it, with memory before it: it was let go and made this step, which left memory so; it gave this answer; it did what it ends itself;
-- or it trapped. Where memory's bytes don't count it is its length.
pub data RequestOutcome : Type 0 where
  stepped : (q : GuestRequest) (before after : List ℕ) (step : Step) → RequestOutcome
  answered : (c : Call) (before after : ℕ) (answer : ℕ) → RequestOutcome
  ended : (q : GuestRequest) (before : List ℕ) → RequestOutcome
  trapped : (q : GuestRequest) (before : List ℕ) (after : ℕ) → RequestOutcome

-- the event of a request that isn't `realloc`
abbrev pub request_told : GuestRequest → List ℕ → List Event
request_told (starts func words) memory = event.Start func words memory ∷ []
request_told (resumes words) memory = event.Resume words memory ∷ []
request_told (reallocates c) memory = []
request_told (posts func words) memory = event.Post func words ∷ []
request_told (destroys func rep) memory = event.Dtor func rep ∷ []

abbrev pub trap_told : GuestRequest → List ℕ → List Event
trap_told (reallocates c) memory = asked_trap c (length memory) ∷ []
trap_told q memory = request_told q memory ++ trap_event (length memory) ∷ []

-- the events that tell a call
abbrev pub outcome_events : RequestOutcome → List Event
outcome_events (stepped q before after step) = request_told q before ++ step_event step after ∷ []
outcome_events (answered c before after answer) = answer_event c answer ∷ []
outcome_events (ended q before) = request_told q before
outcome_events (trapped q before after) = trap_told q before

-- the length of memory before it, and after it
abbrev pub from_length : RequestOutcome → ℕ
from_length (stepped q before after step) = length before
from_length (answered c before after answer) = before
from_length (ended q before) = length before
from_length (trapped q before after) = length before

abbrev pub to_length : RequestOutcome → ℕ
to_length (stepped q before after step) = length after
to_length (answered c before after answer) = after
to_length (ended q before) = length before
to_length (trapped q before after) = after

-- ---- what it does, of these two moments

-- A request opens the next call where this one is over. A start and `realloc` then find memory grown to the length of the call's start.
abbrev pub BeginsRequest : GuestRequest → Replaying → ℕ → Replaying → ℕ → Type 0
BeginsRequest (starts func words) g len mid grown = IsOpened g mid × (grown ≡ wanted_length mid len) × CanGrow len grown
BeginsRequest (reallocates c) g len mid grown = IsOpened g mid × (grown ≡ wanted_length mid len) × CanGrow len grown
BeginsRequest q g len mid grown = IsOpened g mid × (grown ≡ len)

-- the recorded answer to a request
abbrev pub IsRecordedAnswer : Option Event → Call → ℕ → Type 0
IsRecordedAnswer e c answer = e ≡ Some (answer_event c answer)

-- what a recorded step leaves, which memory of so many bytes can become
abbrev pub IsStep : Option Event → ℕ → Step → List ℕ → Type 0
IsStep e len step after = (e ≡ Some (step_event step after)) × CanGrow len (length after)

-- of an answer: that step with its memory in place; a trap where there is none
abbrev pub TakesStep : Option Event → List ℕ → List ℕ → Result Step GuestFault → Type 0
TakesStep e before after (Ok step) = IsStep e (length before) step after
TakesStep e before after (Err fault.Trap) = (after ≡ before) × ((step : Step) (left : List ℕ) → ¬ (IsStep e (length before) step left))
TakesStep e before after (Err fault.OutOfMemory) = ⊤

-- why it trapped, in a memory of so many bytes
abbrev pub IsReason : Stop → Replaying → ℕ → GuestRequest → Type 0
IsReason stop.Differs g len q = IsOtherRequest (next_event g) q
IsReason stop.Unlawful g len q = (c : Call) × (answer : ℕ) × (q ≡ reallocates c) × IsRecordedAnswer (next_event g) c answer × ¬ (IsLawfulAnswer g.live len c answer)
IsReason stop.Unfit g len q = IsNext (next_event g) q × LetsGo q × ((step : Step) (after : List ℕ) → ¬ (IsStep (event_after g) len step after))

-- memory couldn't be given the length of the start
abbrev pub CannotBegin : GuestRequest → Replaying → ℕ → Replaying → Type 0
CannotBegin q g len mid = GrowsMemory q × IsOpened g mid × ¬ (CanGrow len (wanted_length mid len))

-- It trapped for the first time, for a reason; and once it did, it does so at each call.
abbrev pub TrapsFirst : Replaying → GuestRequest → ℕ → ℕ → Replaying → Type 0
TrapsFirst g q before after h = (g.stop ≡ None) × ((mid : Replaying)
    × ((CannotBegin q g before mid × (after ≡ before) × (h ≡ stopped_for mid stop.Unfit))
    ⊎ ((why : Stop) × BeginsRequest q g before mid after × IsReason why mid after q × (h ≡ stopped_for mid why))))

abbrev pub TrapsAgain : Replaying → ℕ → ℕ → Replaying → Type 0
TrapsAgain g before after h = (g.stop ≢ None) × (after ≡ before) × (h ≡ trapped_again g)

abbrev pub Replays : Replaying → RequestOutcome → Replaying → Type 0
Replays g (stepped q before after step) h = (g.stop ≡ None) × LetsGo q × ((mid : Replaying) × (grown : ℕ) × BeginsRequest q g (length before) mid grown
    × IsNext (next_event mid) q × IsStep (event_after mid) grown step after × (h ≡ record mid { at = mid.at + 2; live = [] }))
Replays g (answered c before after answer) h = (g.stop ≡ None) × ((mid : Replaying) × BeginsRequest (reallocates c) g before mid after
    × IsRecordedAnswer (next_event mid) c answer × IsLawfulAnswer mid.live after c answer × (h ≡ record mid { at = mid.at + 1; live = relisted mid.live c answer }))
Replays g (ended q before) h = (g.stop ≡ None) × EndsItself q × ((mid : Replaying) × IsOpened g mid × IsNext (next_event mid) q × (h ≡ record mid { at = mid.at + 1; live = [] }))
Replays g (trapped q before after) h = TrapsFirst g q (length before) after h ⊎ TrapsAgain g (length before) after h

-- ---- calls in a row

-- from one state and length of memory to others, by these calls
abbrev pub Chain : Replaying → ℕ → List RequestOutcome → Replaying → ℕ → Type 0
Chain g len [] h last = (h ≡ g) × (last ≡ len)
Chain g len (x ∷ calls) h last = (mid : Replaying) × (from_length x ≡ len) × Replays g x mid × Chain mid (to_length x) calls h last

pub record ReplayMoves (g : GuestIn Replaying) (events : List Event) (h : GuestIn Replaying) : Type 0 where
  pub calls : List RequestOutcome
  pub told_by : events ≡ flat_map outcome_events calls
  pub chain : Chain g.guest g.len calls h.guest h.len

pub replay_moves_nothing : (g : GuestIn Replaying) → ReplayMoves g [] g
replay_moves_nothing g = record { calls = []; told_by = refl; chain = (refl, refl) }

told_then : (xs ys : List RequestOutcome) → flat_map outcome_events (xs ++ ys) ≡ flat_map outcome_events xs ++ flat_map outcome_events ys
told_then [] ys = refl
told_then (x ∷ xs) ys = ap (λ (es : List Event). outcome_events x ++ es) (told_then xs ys) ∙ sym (append_assoc (outcome_events x) (flat_map outcome_events xs) (flat_map outcome_events ys))

chain_then : (g mid h : Replaying) (len between last : ℕ) (xs ys : List RequestOutcome) → Chain g len xs mid between → Chain mid between ys h last → Chain g len (xs ++ ys) h last
chain_then g mid h len between last [] ys (e, f) d = subst₂ (λ (k : Replaying) (n : ℕ). Chain k n ys h last) e f d
chain_then g mid h len between last (x ∷ xs) ys (next, b, does, rest) d = (next, b, does, chain_then next mid h (to_length x) between last xs ys rest d)

pub replay_moves_then : (g h k : GuestIn Replaying) (xs ys : List Event) → ReplayMoves g xs h → ReplayMoves h ys k → ReplayMoves g (xs ++ ys) k
replay_moves_then g h k xs ys f e = record {
  calls = f.calls ++ e.calls;
  told_by = ap (λ (es : List Event). es ++ ys) f.told_by ∙ ap (λ (es : List Event). flat_map outcome_events f.calls ++ es) e.told_by ∙ sym (told_then f.calls e.calls);
  chain = chain_then g.guest h.guest k.guest g.len h.len k.len f.calls e.calls f.chain e.chain;
}
