-- The bytes that the events of a guest are written as.
use Rattle.std.specs.Prelude.{List, suc, zero, ℕ, ⊤, ◌<◌, ◌≡◌}
use Rattle.canon_memory.specs.declared.event.Event.{Event}
use Rattle.canon_memory.specs.declared.event.Event.TheVariants as event
use Rattle.canon_recording_parts.specs.Format.{Format, also, any_number, as_, counted_row, none, number, sized_field, then_}

-- words by their number
abbrev pub word_list : Format (List ℕ)
word_list = counted_row 4 (any_number 8)

-- so many bytes, which stand for themselves: one field
abbrev pub raw : ℕ → Format (List ℕ)
raw n = sized_field (λ xs bs. bs ≡ xs) n

-- bytes by their number
abbrev pub byte_list : Format (List ℕ)
byte_list = then_ 8 (λ n. ⊤) raw

abbrev pub words_and_memory : Format (List ℕ × List ℕ)
words_and_memory = also word_list byte_list

abbrev pub start_event : ℕ × (List ℕ × List ℕ) → Event
start_event x = event.Start x.0 x.1.0 x.1.1

abbrev pub ask_event : ℕ × (List ℕ × List ℕ) → Event
ask_event x = event.Ask x.0 x.1.0 x.1.1

abbrev pub resume_event : List ℕ × List ℕ → Event
resume_event x = event.Resume x.0 x.1

abbrev pub return_event : List ℕ × List ℕ → Event
return_event x = event.Return x.0 x.1

abbrev pub realloc_event : (ℕ × ℕ) × (ℕ × (ℕ × ℕ)) → Event
realloc_event x = event.Realloc x.0.0 x.0.1 x.1.0 x.1.1.0 x.1.1.1

abbrev pub post_event : ℕ × List ℕ → Event
post_event x = event.Post x.0 x.1

abbrev pub two_numbers : Format (ℕ × ℕ)
two_numbers = also (any_number 8) (any_number 8)

-- the old address and the old size; the alignment, and the new size and the answer
abbrev pub request : Format ((ℕ × ℕ) × (ℕ × (ℕ × ℕ)))
request = also two_numbers (also (any_number 4) two_numbers)

-- What stands behind a tag, of a guest that may ask for imports of numbers below `imports`.
abbrev pub tagged : ℕ → ℕ → Format Event
tagged imports zero = as_ start_event (also (any_number 4) words_and_memory)
tagged imports (suc zero) = as_ ask_event (also (number 4 (λ n. n < imports)) words_and_memory)
tagged imports (suc (suc zero)) = as_ resume_event words_and_memory
tagged imports (suc (suc (suc zero))) = as_ return_event words_and_memory
tagged imports (suc (suc (suc (suc zero)))) = as_ realloc_event request
tagged imports (suc (suc (suc (suc (suc zero))))) = as_ post_event (also (any_number 4) word_list)
tagged imports _ = none

-- a tag in one byte, and what stands behind it
abbrev pub an_event : ℕ → Format Event
an_event imports = then_ 1 (λ n. n < 6) (tagged imports)

-- the tag of an event; a destructor and a trap have none
abbrev pub tag_of : Event → ℕ
tag_of (event.Start func ws memory) = 0
tag_of (event.Ask index ws memory) = 1
tag_of (event.Resume ws memory) = 2
tag_of (event.Return ws memory) = 3
tag_of (event.Realloc old old_size align new_size answer) = 4
tag_of (event.Post func ws) = 5
tag_of _ = 6

-- the event has a tag, and where it is an ask, the import has a number below `imports`
abbrev pub IsWritten : ℕ → Event → Type 0
IsWritten imports (event.Ask index ws memory) = index < imports
IsWritten imports (event.Dtor func rep) = ⊥
IsWritten imports (event.Trap asked len) = ⊥
IsWritten imports _ = ⊤
