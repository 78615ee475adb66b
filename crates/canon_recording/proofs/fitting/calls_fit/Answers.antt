use Rattle.std.proofs.Common.{All, sym}
use Rattle.canon_recording.specs.Fits.{IsRecordedCallOf}
use Rattle.canon_recording.specs.Recordings.{exports_of, imports_of, recorded_call, recorded_calls}
use Rattle.canon_recording.proofs.Answering.{question_handed_on, is_so, mapped_past, no_one, rest_begins, rest_goes_on, rest_is_all}
use Rattle.canon_recording.proofs.Playing.{mapped_at}
use Rattle.canon_recording.proofs.fitting.calls_fit.Goals as goal

pub loop-call-init : goal.loop-call-init
loop-call-init c = rest_begins (IsRecordedCallOf (exports_of c.args.c.now) (imports_of c.args.c.now)) (recorded_calls c.args.calls.now)

pub returns-in_err-call_fits : goal.returns-in_err-call_fits
returns-in_err-call_fits c = record {
  decides = question_handed_on (IsRecordedCallOf (exports_of c.args.c.now) (imports_of c.args.c.now) (recorded_call c.call-item.result))
      (All (IsRecordedCallOf (exports_of c.args.c.now) (imports_of c.args.c.now)) (recorded_calls c.args.calls.now)) c.in_err-call_fits.field-0.0 c.from_residual.result c.from_residual.ensures c.in_err-call_fits.ensures.decides;
}

pub returns-then-not-branch : goal.returns-then-not-branch
returns-then-not-branch c =
    let here = mapped_at recorded_call c.args.calls.now c.loop-call.call-index c.call-item.result c.loop-call-test.true (sym c.call-item.is) in
    record { decides = no_one (IsRecordedCallOf (exports_of c.args.c.now) (imports_of c.args.c.now)) (recorded_calls c.args.calls.now) c.loop-call.call-index (recorded_call c.call-item.result) c.in_ok-call_fits.field-0 here c.if-not-branch.true c.in_ok-call_fits.ensures.decides }

pub loop-call-preserved : goal.loop-call-preserved
loop-call-preserved c =
    let here = mapped_at recorded_call c.args.calls.now c.loop-call.call-index c.call-item.result c.loop-call-test.true (sym c.call-item.is) in
    rest_goes_on (IsRecordedCallOf (exports_of c.args.c.now) (imports_of c.args.c.now)) (recorded_calls c.args.calls.now) c.loop-call.call-index (recorded_call c.call-item.result) here
    (c.in_ok-call_fits.ensures.decides.0 c.if-not-branch.false) c.loop-call.invariant

pub returns : goal.returns
returns c = record {
  decides = is_so (All (IsRecordedCallOf (exports_of c.args.c.now) (imports_of c.args.c.now)) (recorded_calls c.args.calls.now))
      (rest_is_all (IsRecordedCallOf (exports_of c.args.c.now) (imports_of c.args.c.now)) (recorded_calls c.args.calls.now) c.loop-call.call-index (mapped_past recorded_call c.args.calls.now c.loop-call.call-index c.loop-call-test.false) c.loop-call.invariant);
}
