use Rattle.std.proofs.Common.{All, subst, sym, true≢false, ◌∙◌}
use Rattle.canon_recording.specs.Decided.{Decides}
use Rattle.canon_recording.specs.Fits.{ArePassedValues, IsRecordedCallOf, IsServedAskOf}
use Rattle.canon_recording.specs.Recordings.{exports_of, imports_of, recorded_call, served_asks}
use Rattle.canon_recording.proofs.Answering.{call_decides, question_handed_on, not_so}
use Rattle.canon_recording.proofs.Staging.{none}
use Rattle.canon_recording.proofs.fitting.call_fits.Goals as goal

pub returns-then-not-is_known : goal.returns-then-not-is_known
returns-then-not-is_known c = record {
  decides = none (λ (of : IsRecordedCallOf (exports_of c.args.c.now) (imports_of c.args.c.now) (recorded_call c.args.call.now)). true≢false (sym (c.is_known.ensures.1 (of.its.known, (of.few, of.asks))) ∙ c.if-not-is_known.true));
}

pub returns-in_err-export_fits : goal.returns-in_err-export_fits
returns-in_err-export_fits c = record {
  decides = question_handed_on (ArePassedValues (exports_of c.args.c.now) c.args.call.now.export c.args.call.now.params.items c.args.call.now.results.items)
      (IsRecordedCallOf (exports_of c.args.c.now) (imports_of c.args.c.now) (recorded_call c.args.call.now))
      c.in_err-export_fits.field-0.0 c.from_residual.result c.from_residual.ensures c.in_err-export_fits.ensures.decides;
}

pub returns-then-not-branch : goal.returns-then-not-branch
returns-then-not-branch c = record {
  decides = not_so (ArePassedValues (exports_of c.args.c.now) c.args.call.now.export c.args.call.now.params.items c.args.call.now.results.items)
      (IsRecordedCallOf (exports_of c.args.c.now) (imports_of c.args.c.now) (recorded_call c.args.call.now)) c.in_ok-export_fits.field-0
      (λ (of : IsRecordedCallOf (exports_of c.args.c.now) (imports_of c.args.c.now) (recorded_call c.args.call.now)). (of.its.params, of.its.results)) c.if-not-branch.true c.in_ok-export_fits.ensures.decides;
}

pub export_fits-requires-clause-known : goal.export_fits-requires-clause-known
export_fits-requires-clause-known c = (c.is_known.ensures.0 c.if-not-is_known.false).0

pub returns : goal.returns
returns c = record {
  decides = call_decides (exports_of c.args.c.now) (imports_of c.args.c.now) (recorded_call c.args.call.now) c.asks_fit.result (c.is_known.ensures.0 c.if-not-is_known.false) (c.in_ok-export_fits.ensures.decides.0 c.if-not-branch.false)
      (subst (λ xs. Decides (All (IsServedAskOf (imports_of c.args.c.now)) (served_asks xs)) c.asks_fit.result) c.as_slice.ensures.value c.asks_fit.ensures.decides);
}
