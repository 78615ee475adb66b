-- What was written is read as the same calls.
use Rattle.std.proofs.Common.{List, [], false, refl, true, ℕ, ◌<◌, ◌∷◌, ◌≡◌}
use Rattle.std.specs.Prelude.{⊤}
use Rattle.canon_image_parts.proofs.Returning.{images_come_back}
use Rattle.canon_memory.specs.declared.event.Event.{Event}
use Rattle.canon_model.specs.Shape.{Members, Shape, member, no_members}
use Rattle.canon_val.specs.Value.{AreSame, EachSame, IsSame}
use Rattle.canon_val.specs.declared.val.Val.{Val}
use Rattle.canon_recording_parts.proofs.Agreeing.{Agree, also_agree, as_agree, before_agree, empty_agree, events_tell, exactly_agree, row_agree, sized_agree, then_agree}
use Rattle.canon_recording_parts.specs.Events.{an_event}
use Rattle.canon_recording_parts.specs.Format.{also, as_, counted_row, exactly}
use Rattle.canon_recording.specs.Laws.{IsSameAsk, IsSameCall, RecordingsComeBack}
use Rattle.canon_recording.specs.Recordings.{Functions, RecordedCall, ServedAsk, SpellsValue, a_call, an_ask, exports_of, imports_of, letters, passed_values, recorded_call_of, recording_format, served_ask_of, value, values, what_was_done}

spelled_back : (s : Shape) (v w : Val) (bs : List ℕ) → SpellsValue false s v bs → SpellsValue true s w bs → IsSame s v w
spelled_back s v w bs (t, h, is) (u, g, is2) = images_come_back.value s v w t u bs h is is2 g

value_back : (s : Shape) → Agree (value false s) (value true s) (IsSame s)
value_back s = sized_agree (SpellsValue false s) (SpellsValue true s) (IsSame s) (spelled_back s) 8

values_back : (ms : Members) → Agree (values false ms) (values true ms) (AreSame ms)
values_back no_members = empty_agree (AreSame no_members) (refl, refl)
values_back (member name s ms) = before_agree (value false s) (values false ms) (value true s) (values true ms) (IsSame s) (AreSame ms) (AreSame (member name s ms))
    (λ v w vs ws h k. (v, w, vs, ws, refl, refl, h, k)) (value_back s) (values_back ms)

-- parameters and results
abbrev ArePassedSame : Functions → ℕ → List Val × List Val → List Val × List Val → Type 0
ArePassedSame fs n x y = AreSame (fs.params n) x.0 y.0 × AreSame (fs.results n) x.1 y.1

passed_back : (fs : Functions) (n : ℕ) → Agree (passed_values false fs n) (passed_values true fs n) (ArePassedSame fs n)
passed_back fs n = also_agree (values false (fs.params n)) (values false (fs.results n)) (values true (fs.params n)) (values true (fs.results n))
    (AreSame (fs.params n)) (AreSame (fs.results n)) (values_back (fs.params n)) (values_back (fs.results n))

one_more : {A : Type 0} (Same : A → A → Type 0) (a b : A) (us vs : List A) → Same a b → EachSame Same us vs → EachSame Same (a ∷ us) (b ∷ vs)
one_more Same a b us vs h k = (b, vs, refl, h, k)

module _ (exports imports : Functions) where
  ask_back : Agree (an_ask false exports imports) (an_ask true exports imports) (IsSameAsk imports)
  ask_back = then_agree 4 (λ n. n < imports.count) (λ n. as_ (served_ask_of false n) (passed_values false imports n)) (λ n. as_ (served_ask_of true n) (passed_values true imports n))
      (IsSameAsk imports) (λ n. as_agree (served_ask_of false n) (served_ask_of true n) (passed_values false imports n) (passed_values true imports n) (ArePassedSame imports n) (IsSameAsk imports)
      (λ x y h. record { import = refl; params = h.0; results = h.1 }) (passed_back imports n))

  abbrev IsDoneSame : List Event × List ServedAsk → List Event × List ServedAsk → Type 0
  IsDoneSame x y = (x.0 ≡ y.0) × EachSame (IsSameAsk imports) x.1 y.1

  done_back : Agree (what_was_done false exports imports) (what_was_done true exports imports) IsDoneSame
  done_back = also_agree (counted_row 4 (an_event imports.count)) (counted_row 4 (an_ask false exports imports)) (counted_row 4 (an_event imports.count)) (counted_row 4 (an_ask true exports imports))
      (λ x y. x ≡ y) (EachSame (IsSameAsk imports)) (events_tell imports.count 4)
      (row_agree (an_ask false exports imports) (an_ask true exports imports) (IsSameAsk imports) (EachSame (IsSameAsk imports)) refl (one_more (IsSameAsk imports)) ask_back 4)

  abbrev IsCallSame : ℕ → (List Val × List Val) × (List Event × List ServedAsk) → (List Val × List Val) × (List Event × List ServedAsk) → Type 0
  IsCallSame n x y = ArePassedSame exports n x.0 y.0 × IsDoneSame x.1 y.1

  call_back : Agree (a_call false exports imports) (a_call true exports imports) (IsSameCall exports imports)
  call_back = then_agree 4 (λ n. n < exports.count) (λ n. as_ (recorded_call_of false n) (also (passed_values false exports n) (what_was_done false exports imports)))
      (λ n. as_ (recorded_call_of true n) (also (passed_values true exports n) (what_was_done true exports imports))) (IsSameCall exports imports)
      (λ n. as_agree (recorded_call_of false n) (recorded_call_of true n) (also (passed_values false exports n) (what_was_done false exports imports))
      (also (passed_values true exports n) (what_was_done true exports imports)) (IsCallSame n) (IsSameCall exports imports)
      (λ x y h. record { export = refl; params = h.0.0; results = h.0.1; events = h.1.0; served = h.1.1 })
      (also_agree (passed_values false exports n) (what_was_done false exports imports) (passed_values true exports n) (what_was_done true exports imports)
      (ArePassedSame exports n) IsDoneSame (passed_back exports n) done_back))

  format_back : Agree (recording_format false exports imports) (recording_format true exports imports) (EachSame (IsSameCall exports imports))
  format_back = as_agree (λ (x : Unit {0} × List RecordedCall). x.1) (λ (x : Unit {0} × List RecordedCall). x.1)
      (also (exactly letters) (counted_row 4 (a_call false exports imports))) (also (exactly letters) (counted_row 4 (a_call true exports imports)))
      (λ x y. ⊤ × EachSame (IsSameCall exports imports) x.1 y.1) (EachSame (IsSameCall exports imports)) (λ x y h. h.1)
      (also_agree (exactly letters) (counted_row 4 (a_call false exports imports)) (exactly letters) (counted_row 4 (a_call true exports imports)) (λ u v. ⊤) (EachSame (IsSameCall exports imports))
      (exactly_agree letters) (row_agree (a_call false exports imports) (a_call true exports imports) (IsSameCall exports imports) (EachSame (IsSameCall exports imports)) refl
      (one_more (IsSameCall exports imports)) call_back 4))

pub recordings_come_back : RecordingsComeBack
recordings_come_back c calls read bs h k = (format_back (exports_of c) (imports_of c) calls read bs bs [] [] h k refl).2
