use Rattle.std.proofs.Common.{length, refl, subst, sym, ◌<◌}
use Rattle.std.proofs.Common.{All, ◌^◌}
use Rattle.canon_recording.specs.Fits.{AreRuns, IsNoRunAt}
use Rattle.canon_recording.specs.Recordings.{RecordedCall, exports_of, imports_of, recorded_calls}
use Rattle.canon_recording.proofs.Deciding.{written_few, written_known}
use Rattle.canon_recording.proofs.decoding.decode_runs.Goals as goal

pub first_no_run-requires-clause-known : goal.first_no_run-requires-clause-known
first_no_run-requires-clause-known c = subst (λ xs. All (λ (r : RecordedCall). r.export < length c.args.c.now.exports.items) (recorded_calls xs)) (sym c.as_slice.ensures.value)
    (written_known (exports_of c.args.c.now) (imports_of c.args.c.now) (recorded_calls c.in-Ok.calls.items) c.args.bytes.now c.in-Ok.ensures.is)

pub first_no_run-requires-clause-few : goal.first_no_run-requires-clause-few
first_no_run-requires-clause-few c = subst (λ xs. length xs < 2 ^ 32) (sym c.as_slice.ensures.value) (written_few (exports_of c.args.c.now) (imports_of c.args.c.now) c.in-Ok.calls.items c.args.bytes.now c.in-Ok.ensures.is)

pub returns-in-Some : goal.returns-in-Some
returns-in-Some c = record { is = (recorded_calls c.in-Ok.calls.items, c.in-Ok.ensures.is, subst (λ xs. IsNoRunAt c.args.c.now 0 (recorded_calls xs) c.in-Some.call) c.as_slice.ensures.value c.in-Some.ensures.first) }

pub returns-in-None : goal.returns-in-None
returns-in-None c = record { is = (c.in-Ok.ensures.is, subst (λ xs. AreRuns c.args.c.now 0 (recorded_calls xs)) c.as_slice.ensures.value (c.in-None.ensures.all refl)) }
