-- An event behind its tag, by its parts.
use Rattle.std.proofs.Common.{List, Result, ap₂, subst, sym, ℕ, ◌<◌, ◌≡◌}
use Rattle.canon_memory.specs.declared.event.Event.{Event}
use Rattle.canon_memory.specs.declared.event.Event.TheVariants as event
use Rattle.canon_recording_parts.proofs.Laws.{ask_one, post_one, realloc_one, resume_one, return_one, start_one}
use Rattle.canon_recording_parts.proofs.Writing.{named_written, number_known}
use Rattle.canon_recording_parts.specs.Format.{also, any_number, number}
use Rattle.canon_recording_parts.specs.Events.{ask_event, post_event, realloc_event, request, resume_event, return_event, start_event, tag_of, tagged, word_list, words_and_memory}
use Rattle.canon_recording_parts.specs.Written.{WritesFormat}
use Rattle.canon_recording_parts.specs.declared.error.ReplayError.{ReplayError}

module _ (imports : ℕ) (e : Event) where
  -- the event is the one whose tag and parts were written
  is_event : (f : Event) (old new : List ℕ) (result : Result (Unit {0}) ReplayError) → e ≡ f → WritesFormat (tagged imports (tag_of f)) f old new result → WritesFormat (tagged imports (tag_of e)) e old new result
  is_event f old new result is h = subst (λ i. WritesFormat (tagged imports (tag_of i)) i old new result) (sym is) h

  pub start_written : (func : ℕ) (ws memory vs m old new : List ℕ) (result : Result (Unit {0}) ReplayError) → e ≡ event.Start func ws memory → vs ≡ ws → m ≡ memory
      → WritesFormat (also (any_number 4) words_and_memory) (func, (vs, m)) old new result → WritesFormat (tagged imports (tag_of e)) e old new result
  start_written func ws memory vs m old new result is ve me h = is_event (event.Start func ws memory) old new result is
      (named_written start_event (also (any_number 4) words_and_memory) start_one (func, (ws, memory)) old new result
      (subst (λ x. WritesFormat (also (any_number 4) words_and_memory) (func, x) old new result) (ap₂ (λ a b. (a, b)) ve me) h))

  pub ask_written : (index : ℕ) (ws memory vs m old new : List ℕ) (result : Result (Unit {0}) ReplayError) → e ≡ event.Ask index ws memory → vs ≡ ws → m ≡ memory → index < imports
      → WritesFormat (also (any_number 4) words_and_memory) (index, (vs, m)) old new result → WritesFormat (tagged imports (tag_of e)) e old new result
  ask_written index ws memory vs m old new result is ve me known h = is_event (event.Ask index ws memory) old new result is
      (named_written ask_event (also (number 4 (λ n. n < imports)) words_and_memory) ask_one (index, (ws, memory)) old new result
      (number_known 4 (λ n. n < imports) words_and_memory index (ws, memory) old new result known
      (subst (λ x. WritesFormat (also (any_number 4) words_and_memory) (index, x) old new result) (ap₂ (λ a b. (a, b)) ve me) h)))

  pub resume_written : (ws memory vs m old new : List ℕ) (result : Result (Unit {0}) ReplayError) → e ≡ event.Resume ws memory → vs ≡ ws → m ≡ memory
      → WritesFormat words_and_memory (vs, m) old new result → WritesFormat (tagged imports (tag_of e)) e old new result
  resume_written ws memory vs m old new result is ve me h = is_event (event.Resume ws memory) old new result is
      (named_written resume_event words_and_memory resume_one (ws, memory) old new result (subst (λ x. WritesFormat words_and_memory x old new result) (ap₂ (λ a b. (a, b)) ve me) h))

  pub return_written : (ws memory vs m old new : List ℕ) (result : Result (Unit {0}) ReplayError) → e ≡ event.Return ws memory → vs ≡ ws → m ≡ memory
      → WritesFormat words_and_memory (vs, m) old new result → WritesFormat (tagged imports (tag_of e)) e old new result
  return_written ws memory vs m old new result is ve me h = is_event (event.Return ws memory) old new result is
      (named_written return_event words_and_memory return_one (ws, memory) old new result (subst (λ x. WritesFormat words_and_memory x old new result) (ap₂ (λ a b. (a, b)) ve me) h))

  pub realloc_written : (o os align ns answer : ℕ) (old new : List ℕ) (result : Result (Unit {0}) ReplayError) → e ≡ event.Realloc o os align ns answer
      → WritesFormat request ((o, os), (align, (ns, answer))) old new result → WritesFormat (tagged imports (tag_of e)) e old new result
  realloc_written o os align ns answer old new result is h = is_event (event.Realloc o os align ns answer) old new result is (named_written realloc_event request realloc_one ((o, os), (align, (ns, answer))) old new result h)

  pub post_written : (func : ℕ) (ws vs old new : List ℕ) (result : Result (Unit {0}) ReplayError) → e ≡ event.Post func ws → vs ≡ ws
      → WritesFormat (also (any_number 4) word_list) (func, vs) old new result → WritesFormat (tagged imports (tag_of e)) e old new result
  post_written func ws vs old new result is ve h = is_event (event.Post func ws) old new result is
      (named_written post_event (also (any_number 4) word_list) post_one (func, ws) old new result (subst (λ x. WritesFormat (also (any_number 4) word_list) (func, x) old new result) ve h))
