use Rattle.std.proofs.Common.{arith, subst, sym, true}
use Rattle.canon_recording_parts.specs.Format.{in_a_row}
use Rattle.canon_recording_parts.specs.Read.{IsReadSoFar}
use Rattle.canon_recording.specs.Recordings.{an_ask, exports_of, imports_of, served_ask, served_asks}
use Rattle.canon_recording_parts.proofs.Reading.{recording_row_begin, row_done, recording_row_stop}
use Rattle.canon_recording.proofs.Rows.{seen_go_on}
use Rattle.canon_recording.proofs.decoding.read_ask_row.Goals as goal

pub read_ask-requires-clause-inside : goal.read_ask-requires-clause-inside
read_ask-requires-clause-inside c = c.loop.invariant.read.span.inside

pub loop-init : goal.loop-init
loop-init c = record { read = subst (λ xs. IsReadSoFar (in_a_row (an_ask true (exports_of c.args.c.now) (imports_of c.args.c.now)) 0) c.args.bytes.now c.args.at.now c.args.at.now (served_asks xs)) (sym c.new-asks.ensures.items) (recording_row_begin (an_ask true (exports_of c.args.c.now) (imports_of c.args.c.now)) c.args.bytes.now c.args.at.now c.requires.inside) }

pub loop-preserved : goal.loop-preserved
loop-preserved c =
    record { read = seen_go_on served_ask (an_ask true (exports_of c.args.c.now) (imports_of c.args.c.now)) c.args.bytes.now c.args.at.now c.loop.at c.read_ask.new.at c.loop.counter c.loop.asks.items c.keep.new.items.items c.in-Ok.ask c.in-Ok-keep.ensures.ok c.loop.invariant.read c.in-Ok.ensures.reads }

pub returns : goal.returns
returns c = record { reads = row_done (an_ask true (exports_of c.args.c.now) (imports_of c.args.c.now)) c.args.bytes.now c.args.at.now c.loop.at c.loop.counter c.args.count (served_asks c.loop.asks.items) (omega (arith, c.loop-test.false, c.loop.auto.counter-end)) c.loop.invariant.read }

pub returns-in-Err : goal.returns-in-Err
returns-in-Err c = record { reads = recording_row_stop (an_ask true (exports_of c.args.c.now) (imports_of c.args.c.now)) c.args.bytes.now c.args.at.now c.loop.at c.read_ask.new.at c.read_ask.new.at c.loop.counter c.args.count (served_asks c.loop.asks.items) c.in-Err.error (omega (arith, c.loop-test.true, c.loop.auto.counter-end)) c.loop.invariant.read c.in-Err.ensures.reads }
