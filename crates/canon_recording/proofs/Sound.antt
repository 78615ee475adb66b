-- No recording's bytes begin another's, and reading stops at one place: of recordings as they are written, and as they are read.
use Rattle.std.proofs.Common.{Bool, List, ap, false, sym, true, ℕ, ◌<◌, ◌∙◌, ◌≡◌}
use Rattle.canon_model.specs.Shape.{Members, Shape, member, no_members}
use Rattle.canon_memory.specs.declared.event.Event.{Event}
use Rattle.canon_val.specs.declared.val.Val.{Val}
use Rattle.canon_value_parts.proofs.LiftedValues.{unlifted}
use Rattle.canon_recording_parts.proofs.Formats.{also_sound, as_sound, before_sound, counted_sound, exactly_sound, nothing_sound, sized_sound, then_sound}
use Rattle.canon_recording_parts.proofs.Laws.{event_sound}
use Rattle.canon_recording_parts.specs.Events.{an_event}
use Rattle.canon_recording_parts.specs.Format.{IsFormat, also, as_, counted_row, exactly}
use Rattle.canon_recording.proofs.Written.{calls_one}
use Rattle.canon_recording.proofs.Values.{spelled_once}
use Rattle.canon_recording.specs.Laws.{RecordingsAreApart}
use Rattle.canon_recording.specs.Recordings.{Functions, RecordedCall, ServedAsk, SpellsValue, a_call, an_ask, exports_of, imports_of, letters, passed_values, recorded_call_of, recording_format, served_ask_of, value, values, what_was_done}

spelled_one : (lifted : Bool) (s : Shape) (v : Val) (xs ys : List ℕ) → SpellsValue lifted s v xs → SpellsValue lifted s v ys → xs ≡ ys
spelled_one false s v xs ys h g = spelled_once s v xs ys h g
spelled_one true s v xs ys (t, h, is) (u, g, is2) = spelled_once s v xs ys (t, unlifted s v t h, is) (u, unlifted s v u g, is2)

module _ (lifted : Bool) where
  value_sound : (s : Shape) → IsFormat (value lifted s)
  value_sound s = sized_sound (SpellsValue lifted s) (spelled_one lifted s) 8

  values_sound : (ms : Members) → IsFormat (values lifted ms)
  values_sound no_members = nothing_sound
  values_sound (member name s ms) = before_sound (value lifted s) (values lifted ms) (value_sound s) (values_sound ms)

  pub passed_sound : (fs : Functions) (n : ℕ) → IsFormat (passed_values lifted fs n)
  passed_sound fs n = also_sound (values lifted (fs.params n)) (values lifted (fs.results n)) (values_sound (fs.params n)) (values_sound (fs.results n))

  ask_one : (n : ℕ) (x y : List Val × List Val) → served_ask_of lifted n x ≡ served_ask_of lifted n y → x ≡ y
  ask_one n x y e = ap (λ (s : ServedAsk). (s.params, s.results)) e

  call_one : (n : ℕ) (x y : (List Val × List Val) × (List Event × List ServedAsk)) → recorded_call_of lifted n x ≡ recorded_call_of lifted n y → x ≡ y
  call_one n x y e = ap (λ (c : RecordedCall). ((c.params, c.results), (c.events, c.served))) e

  module _ (exports imports : Functions) where
    ask_number : (n : ℕ) (s : ServedAsk) (xs : List ℕ) → (as_ (served_ask_of lifted n) (passed_values lifted imports n)).writes s xs → s.import ≡ n
    ask_number n s xs (x, e, h) = ap (λ (s : ServedAsk). s.import) e

    call_number : (n : ℕ) (c : RecordedCall) (xs : List ℕ) → (as_ (recorded_call_of lifted n) (also (passed_values lifted exports n) (what_was_done lifted exports imports))).writes c xs → c.export ≡ n
    call_number n c xs (x, e, h) = ap (λ (c : RecordedCall). c.export) e

    an_ask_sound : IsFormat (an_ask lifted exports imports)
    an_ask_sound = then_sound 4 (λ n. n < imports.count) (λ n. as_ (served_ask_of lifted n) (passed_values lifted imports n)) (λ n h. as_sound (served_ask_of lifted n) (passed_values lifted imports n) (passed_sound imports n) (ask_one n))
        (λ n m s xs ys h k. sym (ask_number n s xs h) ∙ ask_number m s ys k)

    done_sound : IsFormat (what_was_done lifted exports imports)
    done_sound = also_sound (counted_row 4 (an_event imports.count)) (counted_row 4 (an_ask lifted exports imports)) (counted_sound (an_event imports.count) 4 (event_sound imports.count))
        (counted_sound (an_ask lifted exports imports) 4 an_ask_sound)

    call_body_sound : (n : ℕ) → IsFormat (also (passed_values lifted exports n) (what_was_done lifted exports imports))
    call_body_sound n = also_sound (passed_values lifted exports n) (what_was_done lifted exports imports) (passed_sound exports n) done_sound

    pub call_sound : IsFormat (a_call lifted exports imports)
    call_sound = then_sound 4 (λ n. n < exports.count) (λ n. as_ (recorded_call_of lifted n) (also (passed_values lifted exports n) (what_was_done lifted exports imports)))
        (λ n h. as_sound (recorded_call_of lifted n) (also (passed_values lifted exports n) (what_was_done lifted exports imports)) (call_body_sound n) (call_one n))
        (λ n m c xs ys h k. sym (call_number n c xs h) ∙ call_number m c ys k)

    pub format_sound : IsFormat (recording_format lifted exports imports)
    format_sound = as_sound (λ (x : Unit {0} × List RecordedCall). x.1) (also (exactly letters) (counted_row 4 (a_call lifted exports imports)))
        (also_sound (exactly letters) (counted_row 4 (a_call lifted exports imports)) (exactly_sound letters) (counted_sound (a_call lifted exports imports) 4 call_sound)) calls_one

pub recordings_are_apart : RecordingsAreApart
recordings_are_apart c = (format_sound false (exports_of c) (imports_of c), format_sound true (exports_of c) (imports_of c))
