use Rattle.std.proofs.Common.{All, sym}
use Rattle.canon_recording_parts.specs.Events.{IsWritten}
use Rattle.canon_recording.proofs.Answering.{dropped_all, dropped_at, is_so, no_one, rest_begins, rest_goes_on, rest_is_all}
use Rattle.canon_recording.proofs.fitting.events_fit.Goals as goal

pub loop-event-init : goal.loop-event-init
loop-event-init c = rest_begins (IsWritten c.args.imports) c.args.events.now

pub returns-then-not-event_fits : goal.returns-then-not-event_fits
returns-then-not-event_fits c =
    let here = dropped_at c.args.events.now c.loop-event.event-index c.event-item.result c.loop-event-test.true (sym c.event-item.is) in
    no_one (IsWritten c.args.imports) c.args.events.now c.loop-event.event-index c.event-item.result c.event_fits.result here c.if-not-event_fits.true c.event_fits.ensures

pub loop-event-preserved : goal.loop-event-preserved
loop-event-preserved c =
    let here = dropped_at c.args.events.now c.loop-event.event-index c.event-item.result c.loop-event-test.true (sym c.event-item.is) in
    rest_goes_on (IsWritten c.args.imports) c.args.events.now c.loop-event.event-index c.event-item.result here (c.event_fits.ensures.0 c.if-not-event_fits.false) c.loop-event.invariant

pub returns : goal.returns
returns c = is_so (All (IsWritten c.args.imports) c.args.events.now)
    (rest_is_all (IsWritten c.args.imports) c.args.events.now c.loop-event.event-index (dropped_all c.args.events.now c.loop-event.event-index c.loop-event-test.false) c.loop-event.invariant)
