use Rattle.std.proofs.Common.{arith, length, sym, ◌<◌}
use Rattle.canon_recording_parts.specs.Events.{an_event}
use Rattle.canon_recording_parts.proofs.Laws.{event_sound}
use Rattle.canon_recording_parts.proofs.Writing.{none_added, row_added, row_all, row_long}
use Rattle.canon_recording_parts.proofs.write.put_event_row.Goals as goal

pub loop-event-init : goal.loop-event-init
loop-event-init c = record { added = none_added c.args.bytes.now.items }

pub loop-event-preserved : goal.loop-event-preserved
loop-event-preserved c =
    let more : c.loop-event.event-index < length c.args.events.now = omega (arith, c.loop-event-test.true, c.loop-event.auto.event-index-end) in
    record { added = row_added (an_event c.args.imports) (event_sound c.args.imports) c.args.events.now c.args.bytes.now.items c.loop-event.bytes.items c.put_event.new.bytes.items c.loop-event.event-index c.event-item.result more (sym c.event-item.is) c.loop-event.invariant.added c.in-Ok.ensures.writes }

pub returns : goal.returns
returns c = record {
  writes = row_all (an_event c.args.imports) (event_sound c.args.imports) c.args.events.now c.args.bytes.now.items c.loop-event.bytes.items c.loop-event.event-index (omega (
    arith,
    c.loop-event-test.false,
    c.loop-event.auto.event-index-end,
  )) c.loop-event.invariant.added;
}

pub returns-in-Err : goal.returns-in-Err
returns-in-Err c =
    let more : c.loop-event.event-index < length c.args.events.now = omega (arith, c.loop-event-test.true, c.loop-event.auto.event-index-end) in
    record { writes = row_long (an_event c.args.imports) (event_sound c.args.imports) c.args.events.now c.args.bytes.now.items c.loop-event.bytes.items c.put_event.new.bytes.items c.put_event.new.bytes.items c.loop-event.event-index c.event-item.result c.in-Err.error more (sym c.event-item.is) c.loop-event.invariant.added c.in-Err.ensures.writes }
