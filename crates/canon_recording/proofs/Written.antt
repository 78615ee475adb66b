-- No recording's bytes begin another's, reading them stops at one place, and a recording is written in one way.
use Rattle.std.proofs.Common.{List, ap, false, sym, ℕ, ◌<◌, ◌∙◌, ◌≡◌}
use Rattle.canon_memory.specs.declared.event.Event.{Event}
use Rattle.canon_val.specs.declared.val.Val.{Val}
use Rattle.canon_recording_parts.proofs.Formats.{also_sound, as_sound, counted_sound, exactly_sound, then_sound}
use Rattle.canon_recording_parts.proofs.Laws.{event_sound}
use Rattle.canon_recording_parts.specs.Events.{an_event}
use Rattle.canon_recording_parts.specs.Format.{IsFormat, also, as_, counted_row, exactly}
use Rattle.canon_recording.proofs.Values.{recorded_values_sound}
use Rattle.canon_recording.specs.Recordings.{Functions, RecordedCall, ServedAsk, a_call, an_ask, letters, passed_values, recorded_call_of, recording_format, served_ask_of, values, what_was_done}

pub calls_one : (x y : Unit {0} × List RecordedCall) → x.1 ≡ y.1 → x ≡ y
calls_one x y e = ap (λ (l : List RecordedCall). (tt, l)) e

module _ (exports imports : Functions) where
  pub passed_sound : (fs : Functions) (n : ℕ) → IsFormat (passed_values false fs n)
  passed_sound fs n = also_sound (values false (fs.params n)) (values false (fs.results n)) (recorded_values_sound (fs.params n)) (recorded_values_sound (fs.results n))

  pub recorded_ask_one : (n : ℕ) (x y : List Val × List Val) → served_ask_of false n x ≡ served_ask_of false n y → x ≡ y
  recorded_ask_one n x y e = ap (λ (s : ServedAsk). (s.params, s.results)) e

  pub call_one : (n : ℕ) (x y : (List Val × List Val) × (List Event × List ServedAsk)) → recorded_call_of false n x ≡ recorded_call_of false n y → x ≡ y
  call_one n x y e = ap (λ (c : RecordedCall). ((c.params, c.results), (c.events, c.served))) e

  pub ask_number : (n : ℕ) (s : ServedAsk) (xs : List ℕ) → (as_ (served_ask_of false n) (passed_values false imports n)).writes s xs → s.import ≡ n
  ask_number n s xs (x, e, h) = ap (λ (s : ServedAsk). s.import) e

  pub call_number : (n : ℕ) (c : RecordedCall) (xs : List ℕ) → (as_ (recorded_call_of false n) (also (passed_values false exports n) (what_was_done false exports imports))).writes c xs → c.export ≡ n
  call_number n c xs (x, e, h) = ap (λ (c : RecordedCall). c.export) e

  pub an_ask_sound : IsFormat (an_ask false exports imports)
  an_ask_sound = then_sound 4 (λ n. n < imports.count) (λ n. as_ (served_ask_of false n) (passed_values false imports n))
      (λ n h. as_sound (served_ask_of false n) (passed_values false imports n) (passed_sound imports n) (recorded_ask_one n))
      (λ n m s xs ys h k. sym (ask_number n s xs h) ∙ ask_number m s ys k)

  pub recorded_events_sound : IsFormat (counted_row 4 (an_event imports.count))
  recorded_events_sound = counted_sound (an_event imports.count) 4 (event_sound imports.count)

  pub done_sound : IsFormat (what_was_done false exports imports)
  done_sound = also_sound (counted_row 4 (an_event imports.count)) (counted_row 4 (an_ask false exports imports)) recorded_events_sound (counted_sound (an_ask false exports imports) 4 an_ask_sound)

  pub call_body_sound : (n : ℕ) → IsFormat (also (passed_values false exports n) (what_was_done false exports imports))
  call_body_sound n = also_sound (passed_values false exports n) (what_was_done false exports imports) (passed_sound exports n) done_sound

  pub call_sound : IsFormat (a_call false exports imports)
  call_sound = then_sound 4 (λ n. n < exports.count) (λ n. as_ (recorded_call_of false n) (also (passed_values false exports n) (what_was_done false exports imports)))
      (λ n h. as_sound (recorded_call_of false n) (also (passed_values false exports n) (what_was_done false exports imports)) (call_body_sound n) (call_one n))
      (λ n m c xs ys h k. sym (call_number n c xs h) ∙ call_number m c ys k)

  pub recording_sound : IsFormat (recording_format false exports imports)
  recording_sound = as_sound (λ (x : Unit {0} × List RecordedCall). x.1) (also (exactly letters) (counted_row 4 (a_call false exports imports)))
      (also_sound (exactly letters) (counted_row 4 (a_call false exports imports)) (exactly_sound letters) (counted_sound (a_call false exports imports) 4 call_sound)) calls_one
