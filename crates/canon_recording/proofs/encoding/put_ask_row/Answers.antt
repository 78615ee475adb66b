use Rattle.std.proofs.Common.{arith, false, sym}
use Rattle.canon_recording.specs.Recordings.{an_ask, exports_of, imports_of, served_ask}
use Rattle.canon_recording.specs.Fits.{IsServedAskOf}
use Rattle.canon_recording_parts.proofs.Writing.{none_added}
use Rattle.canon_recording.proofs.Rows.{all_at, seen_added, seen_all, seen_long}
use Rattle.canon_recording.proofs.Written.{an_ask_sound}
use Rattle.canon_recording.proofs.encoding.put_ask_row.Goals as goal

pub loop-ask-init : goal.loop-ask-init
loop-ask-init c = record { added = none_added c.args.bytes.now.items }

pub loop-ask-preserved : goal.loop-ask-preserved
loop-ask-preserved c =
    record { added = seen_added served_ask (an_ask false (exports_of c.args.c.now) (imports_of c.args.c.now)) (an_ask_sound (exports_of c.args.c.now) (imports_of c.args.c.now)) c.args.asks.now c.args.bytes.now.items c.loop-ask.bytes.items c.put_ask.new.bytes.items c.loop-ask.ask-index c.ask-item.result c.loop-ask-test.true (sym c.ask-item.is) c.loop-ask.invariant.added c.in-Ok.ensures.writes }

pub put_ask-requires-clause-of : goal.put_ask-requires-clause-of
put_ask-requires-clause-of c = all_at served_ask (IsServedAskOf (imports_of c.args.c.now)) c.args.asks.now c.loop-ask.ask-index c.ask-item.result c.loop-ask-test.true (sym c.ask-item.is) c.requires.of

pub returns : goal.returns
returns c = record { writes = seen_all served_ask (an_ask false (exports_of c.args.c.now) (imports_of c.args.c.now)) (an_ask_sound (exports_of c.args.c.now) (imports_of c.args.c.now)) c.args.asks.now c.args.bytes.now.items c.loop-ask.bytes.items c.loop-ask.ask-index (omega (arith, c.loop-ask-test.false, c.loop-ask.auto.ask-index-end)) c.loop-ask.invariant.added }

pub returns-in-Err : goal.returns-in-Err
returns-in-Err c =
    record { writes = seen_long served_ask (an_ask false (exports_of c.args.c.now) (imports_of c.args.c.now)) (an_ask_sound (exports_of c.args.c.now) (imports_of c.args.c.now)) c.args.asks.now c.args.bytes.now.items c.loop-ask.bytes.items c.put_ask.new.bytes.items c.put_ask.new.bytes.items c.loop-ask.ask-index c.ask-item.result c.in-Err.error c.loop-ask-test.true (sym c.ask-item.is) c.loop-ask.invariant.added c.in-Err.ensures.writes }
