-- No events' bytes begin those of others, and reading them stops at one place.
use Rattle.std.proofs.Common.{List, [], arith, ap, suc, sym, zero, ℕ, ◌<◌, ◌∙◌, ◌≡◌}
use Rattle.std.specs.Prelude.{⊤}
use Rattle.canon_memory.specs.declared.event.Event.{Event}
use Rattle.canon_memory.specs.declared.event.Event.TheVariants as event
use Rattle.canon_recording_parts.proofs.Formats.{also_sound, as_sound, counted_sound, none_sound, number_sound, sized_sound, then_sound}
use Rattle.canon_recording_parts.specs.Format.{IsFormat, also, any_number, counted_row, number}
use Rattle.canon_recording_parts.specs.Events.{IsWritten, an_event, ask_event, byte_list, post_event, realloc_event, request, resume_event, return_event, start_event, tag_of, tagged, two_numbers, word_list, words_and_memory}

pub any_sound : (k : ℕ) → IsFormat (any_number k)
any_sound k = number_sound k (λ n. ⊤)

pub words_sound : IsFormat word_list
words_sound = counted_sound (any_number 8) 4 (any_sound 8)

pub bytes_sound : IsFormat byte_list
bytes_sound = sized_sound (λ (xs bs : List ℕ). bs ≡ xs) (λ a xs ys h k. h ∙ sym k) 8

pub both_sound : IsFormat words_and_memory
both_sound = also_sound word_list byte_list words_sound bytes_sound

-- ---- an event tells what it was made of

abbrev numbered_in : Event → ℕ × (List ℕ × List ℕ)
numbered_in (event.Start func ws memory) = (func, (ws, memory))
numbered_in (event.Ask index ws memory) = (index, (ws, memory))
numbered_in (event.Resume ws memory) = (0, (ws, memory))
numbered_in (event.Return ws memory) = (0, (ws, memory))
numbered_in (event.Post func ws) = (func, (ws, ws))
numbered_in _ = (0, ([], []))

abbrev request_in : Event → (ℕ × ℕ) × (ℕ × (ℕ × ℕ))
request_in (event.Realloc old old_size align new_size answer) = ((old, old_size), (align, (new_size, answer)))
request_in _ = ((0, 0), (0, (0, 0)))

pub start_one : (x y : ℕ × (List ℕ × List ℕ)) → start_event x ≡ start_event y → x ≡ y
start_one x y e = ap numbered_in e

pub ask_one : (x y : ℕ × (List ℕ × List ℕ)) → ask_event x ≡ ask_event y → x ≡ y
ask_one x y e = ap numbered_in e

pub resume_one : (x y : List ℕ × List ℕ) → resume_event x ≡ resume_event y → x ≡ y
resume_one x y e = ap (λ (v : Event). (numbered_in v).1) e

pub return_one : (x y : List ℕ × List ℕ) → return_event x ≡ return_event y → x ≡ y
return_one x y e = ap (λ (v : Event). (numbered_in v).1) e

pub realloc_one : (x y : (ℕ × ℕ) × (ℕ × (ℕ × ℕ))) → realloc_event x ≡ realloc_event y → x ≡ y
realloc_one x y e = ap request_in e

pub post_one : (x y : ℕ × List ℕ) → post_event x ≡ post_event y → x ≡ y
post_one x y e = ap (λ (v : Event). ((numbered_in v).0, (numbered_in v).1.0)) e

pub pair_sound : IsFormat two_numbers
pair_sound = also_sound (any_number 8) (any_number 8) (any_sound 8) (any_sound 8)

pub request_sound : IsFormat request
request_sound = also_sound two_numbers (also (any_number 4) two_numbers) pair_sound (also_sound (any_number 4) two_numbers (any_sound 4) pair_sound)

module _ (imports : ℕ) where
  tagged_sound : (n : ℕ) → IsFormat (tagged imports n)
  tagged_sound zero = as_sound start_event (also (any_number 4) words_and_memory) (also_sound (any_number 4) words_and_memory (any_sound 4) both_sound) start_one
  tagged_sound (suc zero) = as_sound ask_event (also (number 4 (λ n. n < imports)) words_and_memory) (also_sound (number 4 (λ n. n < imports)) words_and_memory (number_sound 4 (λ n. n < imports)) both_sound) ask_one
  tagged_sound (suc (suc zero)) = as_sound resume_event words_and_memory both_sound resume_one
  tagged_sound (suc (suc (suc zero))) = as_sound return_event words_and_memory both_sound return_one
  tagged_sound (suc (suc (suc (suc zero)))) = as_sound realloc_event request request_sound realloc_one
  tagged_sound (suc (suc (suc (suc (suc zero))))) = as_sound post_event (also (any_number 4) word_list) (also_sound (any_number 4) word_list (any_sound 4) words_sound) post_one
  tagged_sound (suc (suc (suc (suc (suc (suc n)))))) = none_sound

  pub recording_tag_is : (n : ℕ) (e : Event) (xs : List ℕ) → (tagged imports n).writes e xs → tag_of e ≡ n
  recording_tag_is zero e xs (x, is, h) = ap tag_of is
  recording_tag_is (suc zero) e xs (x, is, h) = ap tag_of is
  recording_tag_is (suc (suc zero)) e xs (x, is, h) = ap tag_of is
  recording_tag_is (suc (suc (suc zero))) e xs (x, is, h) = ap tag_of is
  recording_tag_is (suc (suc (suc (suc zero)))) e xs (x, is, h) = ap tag_of is
  recording_tag_is (suc (suc (suc (suc (suc zero))))) e xs (x, is, h) = ap tag_of is
  recording_tag_is (suc (suc (suc (suc (suc (suc n)))))) e xs h = absurd h

  pub event_sound : IsFormat (an_event imports)
  event_sound = then_sound 1 (λ n. n < 6) (tagged imports) (λ n h. tagged_sound n) (λ n m e xs ys h k. sym (recording_tag_is n e xs h) ∙ recording_tag_is m e ys k)

  pub events_sound : (k : ℕ) → IsFormat (counted_row k (an_event imports))
  events_sound k = counted_sound (an_event imports) k event_sound

pub tag_small : (imports : ℕ) (e : Event) → IsWritten imports e → tag_of e < 6
tag_small imports (event.Start func ws memory) h = omega arith
tag_small imports (event.Ask index ws memory) h = omega arith
tag_small imports (event.Resume ws memory) h = omega arith
tag_small imports (event.Return ws memory) h = omega arith
tag_small imports (event.Realloc old old_size align new_size answer) h = omega arith
tag_small imports (event.Post func ws) h = omega arith
tag_small imports (event.Dtor func rep) h = absurd h
tag_small imports (event.Trap asked len) h = absurd h
