-- How events are told: each as eight numbers of 8 bytes, the lowest byte first, its words, and the bytes of the memory that it tells.
use Rattle.std.specs.Prelude.{List, None, Some, [], length, ℕ, ◌++◌, ◌∷◌}
use Rattle.canon_memory.specs.declared.event.Event.{Event}
use Rattle.canon_memory.specs.declared.event.Event.TheVariants as event
use Rattle.canon_relay.specs.Wire.{numbers_bytes}

-- What it is, and five operands. What a guest was asked has the number of its demand.
abbrev pub event_head : Event → List ℕ
event_head (event.Start func words memory) = 0 ∷ func ∷ 0 ∷ 0 ∷ 0 ∷ 0 ∷ []
event_head (event.Resume words memory) = 1 ∷ 0 ∷ 0 ∷ 0 ∷ 0 ∷ 0 ∷ []
event_head (event.Realloc old old_size align new_size answer) = 2 ∷ old ∷ old_size ∷ align ∷ new_size ∷ answer ∷ []
event_head (event.Post func words) = 3 ∷ func ∷ 0 ∷ 0 ∷ 0 ∷ 0 ∷ []
event_head (event.Dtor func rep) = 4 ∷ func ∷ rep ∷ 0 ∷ 0 ∷ 0 ∷ []
event_head (event.Return words memory) = 6 ∷ 0 ∷ 0 ∷ 0 ∷ 0 ∷ 0 ∷ []
event_head (event.Ask index words memory) = 7 ∷ index ∷ 0 ∷ 0 ∷ 0 ∷ 0 ∷ []
event_head (event.Trap None len) = 8 ∷ 0 ∷ 0 ∷ 0 ∷ 0 ∷ len ∷ []
event_head (event.Trap (Some (old, old_size, align, new_size)) len) = 9 ∷ old ∷ old_size ∷ align ∷ new_size ∷ len ∷ []

-- the words with which it was started, resumed or ran after its return, which it returned, or with which it asks
abbrev pub event_words : Event → List ℕ
event_words (event.Start func words memory) = words
event_words (event.Ask index words memory) = words
event_words (event.Resume words memory) = words
event_words (event.Return words memory) = words
event_words (event.Post func words) = words
event_words _ = []

abbrev pub event_memory : Event → List ℕ
event_memory (event.Start func words memory) = memory
event_memory (event.Ask index words memory) = memory
event_memory (event.Resume words memory) = memory
event_memory (event.Return words memory) = memory
event_memory _ = []

-- with how many words there are, and how many bytes of memory
abbrev pub event_numbers : Event → List ℕ
event_numbers e = event_head e ++ length (event_words e) ∷ length (event_memory e) ∷ []

abbrev pub event_bytes : Event → List ℕ
event_bytes e = numbers_bytes (event_numbers e) ++ numbers_bytes (event_words e) ++ event_memory e

abbrev pub events_bytes : List Event → List ℕ
events_bytes [] = []
events_bytes (e ∷ es) = event_bytes e ++ events_bytes es
