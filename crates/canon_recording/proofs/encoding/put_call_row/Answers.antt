use Rattle.std.proofs.Common.{arith, false, sym}
use Rattle.canon_recording.specs.Recordings.{a_call, exports_of, imports_of, recorded_call}
use Rattle.canon_recording.specs.Fits.{IsRecordedCallOf}
use Rattle.canon_recording_parts.proofs.Writing.{none_added}
use Rattle.canon_recording.proofs.Rows.{all_at, seen_added, seen_all, seen_long}
use Rattle.canon_recording.proofs.Written.{call_sound}
use Rattle.canon_recording.proofs.encoding.put_call_row.Goals as goal

pub loop-call-init : goal.loop-call-init
loop-call-init c = record { added = none_added c.args.bytes.now.items }

pub loop-call-preserved : goal.loop-call-preserved
loop-call-preserved c =
    record { added = seen_added recorded_call (a_call false (exports_of c.args.c.now) (imports_of c.args.c.now)) (call_sound (exports_of c.args.c.now) (imports_of c.args.c.now)) c.args.calls.now c.args.bytes.now.items c.loop-call.bytes.items c.put_call.new.bytes.items c.loop-call.call-index c.call-item.result c.loop-call-test.true (sym c.call-item.is) c.loop-call.invariant.added c.in-Ok.ensures.writes }

pub put_call-requires-clause-of : goal.put_call-requires-clause-of
put_call-requires-clause-of c = all_at recorded_call (IsRecordedCallOf (exports_of c.args.c.now) (imports_of c.args.c.now)) c.args.calls.now c.loop-call.call-index c.call-item.result c.loop-call-test.true (sym c.call-item.is) c.requires.are

pub returns : goal.returns
returns c = record { writes = seen_all recorded_call (a_call false (exports_of c.args.c.now) (imports_of c.args.c.now)) (call_sound (exports_of c.args.c.now) (imports_of c.args.c.now)) c.args.calls.now c.args.bytes.now.items c.loop-call.bytes.items c.loop-call.call-index (omega (arith, c.loop-call-test.false, c.loop-call.auto.call-index-end)) c.loop-call.invariant.added }

pub returns-in-Err : goal.returns-in-Err
returns-in-Err c =
    record { writes = seen_long recorded_call (a_call false (exports_of c.args.c.now) (imports_of c.args.c.now)) (call_sound (exports_of c.args.c.now) (imports_of c.args.c.now)) c.args.calls.now c.args.bytes.now.items c.loop-call.bytes.items c.put_call.new.bytes.items c.put_call.new.bytes.items c.loop-call.call-index c.call-item.result c.in-Err.error c.loop-call-test.true (sym c.call-item.is) c.loop-call.invariant.added c.in-Err.ensures.writes }
