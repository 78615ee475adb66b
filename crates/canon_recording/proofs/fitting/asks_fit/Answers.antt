use Rattle.std.proofs.Common.{All, sym}
use Rattle.canon_recording.specs.Fits.{IsServedAskOf}
use Rattle.canon_recording.specs.Recordings.{imports_of, served_ask, served_asks}
use Rattle.canon_recording.proofs.Answering.{question_handed_on, is_so, mapped_past, no_one, rest_begins, rest_goes_on, rest_is_all}
use Rattle.canon_recording.proofs.Playing.{mapped_at}
use Rattle.canon_recording.proofs.fitting.asks_fit.Goals as goal

pub loop-ask-init : goal.loop-ask-init
loop-ask-init c = rest_begins (IsServedAskOf (imports_of c.args.c.now)) (served_asks c.args.asks.now)

pub returns-in_err-ask_fits : goal.returns-in_err-ask_fits
returns-in_err-ask_fits c = record {
  decides = question_handed_on (IsServedAskOf (imports_of c.args.c.now) (served_ask c.ask-item.result))
      (All (IsServedAskOf (imports_of c.args.c.now)) (served_asks c.args.asks.now)) c.in_err-ask_fits.field-0.0 c.from_residual.result c.from_residual.ensures c.in_err-ask_fits.ensures.decides;
}

pub returns-then-not-branch : goal.returns-then-not-branch
returns-then-not-branch c =
    let here = mapped_at served_ask c.args.asks.now c.loop-ask.ask-index c.ask-item.result c.loop-ask-test.true (sym c.ask-item.is) in
    record { decides = no_one (IsServedAskOf (imports_of c.args.c.now)) (served_asks c.args.asks.now) c.loop-ask.ask-index (served_ask c.ask-item.result) c.in_ok-ask_fits.field-0 here c.if-not-branch.true c.in_ok-ask_fits.ensures.decides }

pub loop-ask-preserved : goal.loop-ask-preserved
loop-ask-preserved c =
    let here = mapped_at served_ask c.args.asks.now c.loop-ask.ask-index c.ask-item.result c.loop-ask-test.true (sym c.ask-item.is) in
    rest_goes_on (IsServedAskOf (imports_of c.args.c.now)) (served_asks c.args.asks.now) c.loop-ask.ask-index (served_ask c.ask-item.result) here (c.in_ok-ask_fits.ensures.decides.0 c.if-not-branch.false) c.loop-ask.invariant

pub returns : goal.returns
returns c = record {
  decides = is_so (All (IsServedAskOf (imports_of c.args.c.now)) (served_asks c.args.asks.now))
      (rest_is_all (IsServedAskOf (imports_of c.args.c.now)) (served_asks c.args.asks.now) c.loop-ask.ask-index (mapped_past served_ask c.args.asks.now c.loop-ask.ask-index c.loop-ask-test.false) c.loop-ask.invariant);
}
