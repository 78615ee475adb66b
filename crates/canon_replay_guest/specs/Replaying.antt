-- What a guest that replays has before it, and where it is.
use Rattle.std.specs.Prelude.{List, None, Option, Some, [], false, flat_map, length, nat_eq, if◌then◌else◌, replicate, slice_get, take, true, ⊤, ℕ, ◌++◌, ◌+◌, ◌-◌, ◌<◌, ◌^◌, ◌∷◌, ◌≡◌, ◌≤◌, ◌⊎◌}
use Rattle.std.specs.List.{copy_within}
use Rattle.canon_model.specs.Memory.{Block}
use Rattle.canon_model.specs.Requests.{Call}
use Rattle.canon_memory.specs.declared.event.Event.{Event}
use Rattle.canon_memory.specs.declared.event.Event.TheVariants as event
use Rattle.canon_memory.specs.Guest.{Mark, Seen}
use Rattle.canon_scripted.specs.Scripted.{raised_count}
use Rattle.canon_replay_guest.specs.declared.stop.Stop.{Stop}

-- The recorded events of each call; at which call it is, and how many of its events were passed; why it trapped first; the blocks that live;
-- and its counts.
pub record Replaying : Type 0 where
  pub recorded : List (List Event)
  pub call : ℕ
  pub at : ℕ
  pub stop : Option Stop
  pub live : List Block
  pub traps : ℕ
  pub shortages : ℕ

abbrev pub or_none : Option (List Event) → List Event
or_none None = []
or_none (Some events) = events

-- the recorded events of a call
abbrev pub call_events : List (List Event) → ℕ → List Event
call_events recorded k = or_none (slice_get recorded k)

-- of the call that it is at
abbrev pub events_now : Replaying → List Event
events_now g = call_events g.recorded g.call

-- the recorded event that comes next, and the one after it
abbrev pub next_event : Replaying → Option Event
next_event g = slice_get (events_now g) g.at

abbrev pub event_after : Replaying → Option Event
event_after g = slice_get (events_now g) (g.at + 1)

-- the recorded events of so many calls
abbrev pub events_of_calls : ℕ → List (List Event) → List Event
events_of_calls k recorded = flat_map (λ (events : List Event). events) (take k recorded)

-- the recorded events that it passed
abbrev pub passed_events : Replaying → List Event
passed_events g = events_of_calls g.call g.recorded ++ take g.at (events_now g)

-- each answer of `realloc` that it gave was lawful, and it changed no byte outside the block
abbrev pub marks_of_event : Event → List Mark
marks_of_event (event.Realloc old old_size align new_size answer) = record { lawful = true; tidy = true } ∷ []
marks_of_event _ = []

abbrev pub replay_seen : Replaying → Seen
replay_seen g = record { journal = None; marks = flat_map marks_of_event (passed_events g); live = g.live; holds = false; traps = g.traps; shortages = g.shortages }

-- ---- where a call begins

-- the events of this call are passed, and there is another call
abbrev pub IsCallOver : Replaying → Type 0
IsCallOver g = (length (events_now g) ≤ g.at) × (g.call < length g.recorded)

-- at the next call, where this one is over
abbrev pub IsOpened : Replaying → Replaying → Type 0
IsOpened g h = (IsCallOver g × (h ≡ record g { call = g.call + 1; at = 0 })) ⊎ (¬ (IsCallOver g) × (h ≡ g))

-- the length of the memory in which a call is started, by its recorded events
abbrev pub start_length : List Event → ℕ → ℕ
start_length [] len = len
start_length (event.Start func words memory ∷ events) len = length memory
start_length (e ∷ events) len = start_length events len

-- The length that memory is given before the next event: before the first one of a call the length in which it is started.
abbrev pub wanted_length : Replaying → ℕ → ℕ
wanted_length g len = if nat_eq g.at 0 then start_length (events_now g) len else len

-- memory of the first length can become one of the second
abbrev pub CanGrow : ℕ → ℕ → Type 0
CanGrow len wanted = (len ≤ wanted) × (wanted ≤ 2 ^ 32)

-- zeros are added up to a length
abbrev pub grown_to : List ℕ → ℕ → List ℕ
grown_to bytes len = bytes ++ replicate (len - length bytes) 0

-- so many bytes at one address, copied to another
abbrev pub moved : List ℕ → ℕ → ℕ → ℕ → List ℕ
moved bytes from to count = copy_within bytes from (from + count) to

-- ---- its counts

-- a trap for this reason, unless it trapped before
abbrev pub stopped_for : Replaying → Stop → Replaying
stopped_for g why = record g { stop = Some why; traps = raised_count g.traps }

abbrev pub trapped_again : Replaying → Replaying
trapped_again g = record g { traps = raised_count g.traps }
