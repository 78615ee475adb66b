use Rattle.std.proofs.Common.{arith, subst, sym, true}
use Rattle.canon_recording_parts.specs.Format.{in_a_row}
use Rattle.canon_recording_parts.specs.Read.{IsReadSoFar}
use Rattle.canon_recording.specs.Recordings.{a_call, exports_of, imports_of, recorded_call, recorded_calls}
use Rattle.canon_recording_parts.proofs.Reading.{recording_row_begin, row_done, recording_row_stop}
use Rattle.canon_recording.proofs.Rows.{seen_go_on}
use Rattle.canon_recording.proofs.decoding.read_call_row.Goals as goal

pub read_call-requires-clause-inside : goal.read_call-requires-clause-inside
read_call-requires-clause-inside c = c.loop.invariant.read.span.inside

pub loop-init : goal.loop-init
loop-init c = record { read = subst (λ xs. IsReadSoFar (in_a_row (a_call true (exports_of c.args.c.now) (imports_of c.args.c.now)) 0) c.args.bytes.now c.args.at.now c.args.at.now (recorded_calls xs)) (sym c.new-calls.ensures.items) (recording_row_begin (a_call true (exports_of c.args.c.now) (imports_of c.args.c.now)) c.args.bytes.now c.args.at.now c.requires.inside) }

pub loop-preserved : goal.loop-preserved
loop-preserved c =
    record { read = seen_go_on recorded_call (a_call true (exports_of c.args.c.now) (imports_of c.args.c.now)) c.args.bytes.now c.args.at.now c.loop.at c.read_call.new.at c.loop.counter c.loop.calls.items c.keep.new.items.items c.in-Ok.call c.in-Ok-keep.ensures.ok c.loop.invariant.read c.in-Ok.ensures.reads }

pub returns : goal.returns
returns c = record { reads = row_done (a_call true (exports_of c.args.c.now) (imports_of c.args.c.now)) c.args.bytes.now c.args.at.now c.loop.at c.loop.counter c.args.count (recorded_calls c.loop.calls.items) (omega (arith, c.loop-test.false, c.loop.auto.counter-end)) c.loop.invariant.read }

pub returns-in-Err : goal.returns-in-Err
returns-in-Err c = record { reads = recording_row_stop (a_call true (exports_of c.args.c.now) (imports_of c.args.c.now)) c.args.bytes.now c.args.at.now c.loop.at c.read_call.new.at c.read_call.new.at c.loop.counter c.args.count (recorded_calls c.loop.calls.items) c.in-Err.error (omega (arith, c.loop-test.true, c.loop.auto.counter-end)) c.loop.invariant.read c.in-Err.ensures.reads }
