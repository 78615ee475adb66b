-- What was decoded fits.
use Rattle.std.proofs.Common.{All, Err, List, Ok, Result, ap, arith, length, refl, subst, suc, sym, true, zero, ℕ, ◌<◌, ◌^◌}
use Rattle.std.specs.Prelude.{IfOk}
use Rattle.canon_model.specs.Shape.{Members, member, no_members}
use Rattle.canon_model.specs.Tree.{no_trees, tree}
use Rattle.canon_memory.specs.declared.event.Event.{Event}
use Rattle.canon_context.specs.declared.component.Component.{Component}
use Rattle.canon_val.specs.declared.val.Val.{Val}
use Rattle.canon_value_parts.proofs.LiftedValues.{unlifted}
use Rattle.canon_recording_parts.proofs.Formats.{row_count}
use Rattle.canon_recording_parts.specs.Events.{IsWritten, an_event, tagged}
use Rattle.canon_recording_parts.specs.declared.error.ReplayError.{ReplayError}
use Rattle.canon_recording_parts.specs.declared.error.ReplayError.TheVariants as error
use Rattle.canon_recording.specs.Coded.{IsDecoded}
use Rattle.canon_recording.specs.Fits.{AreValuesOf, FitsComponent, IsRecordedCallOf, IsServedAskOf}
use Rattle.canon_recording.specs.Recordings.{Functions, RecordedCall, ServedAsk, a_call, an_ask, calls_in, exports_of, imports_of, recording_format, values}
use Rattle.canon_recording.specs.declared.recording.Recording.{Recording}
use Rattle.canon_recording.proofs.Deciding.{recorded_each_all}
use Rattle.canon_recording_parts.specs.Format.{so_many}

-- values that are read are of their types
values_are : (ms : Members) (vs : List Val) (bs : List ℕ) → (values true ms).writes vs bs → AreValuesOf ms vs
values_are no_members vs bs (e, h) = (no_trees, (e, refl))
values_are (member name s ms) vs bs (x, e, (xs, ys, be, (n, rest, good, f, (len, (t, has, is))), g)) =
    let (us, have) = values_are ms x.1 ys g in
    (tree t us, (x.0, x.1, t, us, e, refl, unlifted s x.0 t has, have))

-- an event that is read is of a kind that is written
tagged_written : (imports n : ℕ) (e : Event) (bs : List ℕ) → (tagged imports n).writes e bs → IsWritten imports e
tagged_written imports zero e bs (x, is, h) = subst (IsWritten imports) (sym is) tt
tagged_written imports (suc zero) e bs (x, is, (xs, ys, be, (good, f), h)) = subst (IsWritten imports) (sym is) good
tagged_written imports (suc (suc zero)) e bs (x, is, h) = subst (IsWritten imports) (sym is) tt
tagged_written imports (suc (suc (suc zero))) e bs (x, is, h) = subst (IsWritten imports) (sym is) tt
tagged_written imports (suc (suc (suc (suc zero)))) e bs (x, is, h) = subst (IsWritten imports) (sym is) tt
tagged_written imports (suc (suc (suc (suc (suc zero))))) e bs (x, is, h) = subst (IsWritten imports) (sym is) tt
tagged_written imports (suc (suc (suc (suc (suc (suc n)))))) e bs h = absurd h

event_written : (imports : ℕ) (e : Event) (bs : List ℕ) → (an_event imports).writes e bs → IsWritten imports e
event_written imports e bs (n, rest, good, f, h) = tagged_written imports n e rest h

module _ (exports imports : Functions) where
  ask_of_import : (s : ServedAsk) (bs : List ℕ) → (an_ask true exports imports).writes s bs → IsServedAskOf imports s
  ask_of_import s bs (n, rest, good, f, (x, e, (xs, ys, be, h, g))) = subst (IsServedAskOf imports) (sym e) (record {
    known = good;
    params = values_are (imports.params n) x.0 xs h;
    results = values_are (imports.results n) x.1 ys g;
  })

  call_of_export : (call : RecordedCall) (bs : List ℕ) → (a_call true exports imports).writes call bs → IsRecordedCallOf exports imports call
  call_of_export call bs (n, rest, good, f, (x, e, (xs, ys, be, (ps, rs, ve, hp, hr), (es, asked, de, (ne, erest, te, fe, he), (na, arest, ta, fa, ha))))) =
      subst (IsRecordedCallOf exports imports) (sym e) (record {
        its = record { known = good; params = values_are (exports.params n) x.0.0 ps hp; results = values_are (exports.results n) x.0.1 rs hr };
        few = omega (arith, fe.fits, row_count (an_event imports.count) ne x.1.0 erest he);
        asks = recorded_each_all (λ (u : Unit {0}). an_event imports.count) (IsWritten imports.count) (λ u. event_written imports.count) (so_many ne) x.1.0 erest he;
        served = recorded_each_all (λ (u : Unit {0}). an_ask true exports imports) (IsServedAskOf imports) (λ u. ask_of_import) (so_many na) x.1.1 arest ha;
      })

  are_of_exports : (calls : List RecordedCall) (bs : List ℕ) → (recording_format true exports imports).writes calls bs → All (IsRecordedCallOf exports imports) calls
  are_of_exports calls bs (x, e, (xs, ys, be, h, (n, rest, t, f, g))) =
      subst (All (IsRecordedCallOf exports imports)) (sym e)
      (recorded_each_all (λ (u : Unit {0}). a_call true exports imports) (IsRecordedCallOf exports imports) (λ u. call_of_export) (so_many n) x.1 rest g)

  few_calls : (calls : List RecordedCall) (bs : List ℕ) → (recording_format true exports imports).writes calls bs → length calls < 2 ^ 32
  few_calls calls bs (x, e, (xs, ys, be, h, (n, rest, t, f, g))) = omega (arith, f.fits, ap length e, row_count (a_call true exports imports) n x.1 rest g)

pub decoded_fits : (c : Component) (bs : List ℕ) (r : Result Recording ReplayError) → IsDecoded c bs r → IfOk r (λ q. FitsComponent c (calls_in q))
decoded_fits c bs (Ok q) (h, runs) = record {
  few = few_calls (exports_of c) (imports_of c) (calls_in q) bs h;
  are = are_of_exports (exports_of c) (imports_of c) (calls_in q) bs h;
  runs = runs;
}
decoded_fits c bs (Err e) h = tt
