-- The parts of a recording, call by call.
use Rattle.std.proofs.Common.{List, [], ap, arith, length, map, refl, sym, ◌++◌, ◌∙◌, ◌∷◌, ◌≡◌}
use Rattle.std.proofs.lemmas.Grind.{flat_map-append}
use Rattle.std.proofs.lemmas.List.{append-nil, map-append}
use Rattle.canon_recording.specs.Recordings.{RecordedCall, recorded_call, recorded_calls, served_ask, served_asks}
use Rattle.canon_recording.specs.declared.recording.Recorded.{Recorded}
use Rattle.canon_replay.specs.Calls.{asks_of_calls, events_of_call, told_again, told_call}
use Rattle.canon_replay.specs.declared.again.Again.{Again}
use Rattle.canon_replay.specs.declared.again.Parts.{Parts}

pub no_items_left : {X : Type 0} (xs : List X) → length xs ≡ 0 → xs ≡ []
no_items_left [] e = refl
no_items_left (x ∷ xs) e = absurd (omega (arith, e))

-- these are the parts of these calls
pub record ArePartsOf (calls : List Recorded) (p : Parts) : Type 0 where
  pub events : p.events.items ≡ map events_of_call (recorded_calls calls)
  pub asks : served_asks p.asks.items ≡ asks_of_calls (recorded_calls calls)
  pub again : map told_again p.calls.items ≡ map told_call (recorded_calls calls)

-- and with one call more
pub one_part : (calls : List Recorded) (call : Recorded) (p q : Parts) (a : Again) → ArePartsOf calls p → q.events.items ≡ p.events.items ++ call.events ∷ [] → q.asks.items ≡ p.asks.items ++ call.served.items
    → q.calls.items ≡ p.calls.items ++ a ∷ [] → told_again a ≡ told_call (recorded_call call) → ArePartsOf (calls ++ call ∷ []) q
one_part calls call p q a are e f h t = record {
  events = e ∙ ap (λ l. l ++ call.events ∷ []) are.events ∙ sym (ap (map events_of_call) more ∙ map-append events_of_call (recorded_calls calls) (recorded_call call ∷ []));
  asks = ap served_asks f ∙ map-append served_ask p.asks.items call.served.items ∙ ap (λ l. l ++ served_asks call.served.items) are.asks
      ∙ sym (ap asks_of_calls more ∙ flat_map-append (λ (call : RecordedCall). call.served) (recorded_calls calls) (recorded_call call ∷ [])
      ∙ ap (λ l. asks_of_calls (recorded_calls calls) ++ l) (append-nil (served_asks call.served.items)));
  again = ap (map told_again) h ∙ map-append told_again p.calls.items (a ∷ []) ∙ ap (λ x. map told_again p.calls.items ++ x ∷ []) t ∙ ap (λ l. l ++ told_call (recorded_call call) ∷ []) are.again
      ∙ sym (ap (map told_call) more ∙ map-append told_call (recorded_calls calls) (recorded_call call ∷ []));
}
  where
    more : recorded_calls (calls ++ call ∷ []) ≡ recorded_calls calls ++ recorded_call call ∷ []
    more = map-append recorded_call calls (call ∷ [])
