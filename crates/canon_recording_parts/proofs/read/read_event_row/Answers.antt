use Rattle.std.proofs.Common.{arith, subst, sym, ◌+◌}
use Rattle.canon_recording_parts.specs.Read.{IsReadSoFar}
use Rattle.canon_recording_parts.specs.Events.{an_event}
use Rattle.canon_recording_parts.specs.Format.{in_a_row}
use Rattle.canon_recording_parts.proofs.Reading.{recording_row_begin, row_done, recording_row_go_on, recording_row_stop}
use Rattle.canon_recording_parts.proofs.read.read_event_row.Goals as goal

pub read_event-requires : goal.read_event-requires
read_event-requires c = record { inside = c.loop.invariant.read.span.inside }

pub loop-init : goal.loop-init
loop-init c = record { read = subst (λ xs. IsReadSoFar (in_a_row (an_event c.args.imports) 0) c.args.bytes.now c.args.at.now c.args.at.now xs) (sym c.new-events.ensures) (recording_row_begin (an_event c.args.imports) c.args.bytes.now c.args.at.now c.requires.inside) }

pub loop-preserved : goal.loop-preserved
loop-preserved c =
    let all = recording_row_go_on (an_event c.args.imports) c.args.bytes.now c.args.at.now c.loop.at c.read_event.new.at c.loop.counter c.loop.events c.in-Ok.event c.loop.invariant.read c.in-Ok.ensures.reads in
    record { read = subst (λ xs. IsReadSoFar (in_a_row (an_event c.args.imports) (c.loop.counter + 1)) c.args.bytes.now c.args.at.now c.read_event.new.at xs) (sym (c.in-Ok-push.ensures.ok)) all }

pub returns : goal.returns
returns c = record { reads = row_done (an_event c.args.imports) c.args.bytes.now c.args.at.now c.loop.at c.loop.counter c.args.count c.loop.events (omega (arith, c.loop-test.false, c.loop.auto.counter-end)) c.loop.invariant.read }

pub returns-in-Err : goal.returns-in-Err
returns-in-Err c = record { reads = recording_row_stop (an_event c.args.imports) c.args.bytes.now c.args.at.now c.loop.at c.read_event.new.at c.read_event.new.at c.loop.counter c.args.count c.loop.events c.in-Err.error (omega (arith, c.loop-test.true, c.loop.auto.counter-end)) c.loop.invariant.read c.in-Err.ensures.reads }
