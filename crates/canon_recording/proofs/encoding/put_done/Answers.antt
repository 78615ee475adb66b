use Rattle.std.proofs.Common.{Err, Ok, false, subst, subst₂}
use Rattle.canon_recording_parts.specs.Format.{counted_row}
use Rattle.canon_recording_parts.specs.Events.{an_event}
use Rattle.canon_recording_parts.specs.Written.{WritesFormat}
use Rattle.canon_recording.specs.Recordings.{an_ask, exports_of, imports_of, served_asks}
use Rattle.canon_recording_parts.proofs.Writing.{first_long, then_written}
use Rattle.canon_recording.proofs.Written.{recorded_events_sound}
use Rattle.canon_recording.proofs.encoding.put_done.Goals as goal

pub returns-in-Ok : goal.returns-in-Ok
returns-in-Ok c = record { writes = then_written (counted_row 4 (an_event (imports_of c.args.c.now).count)) (counted_row 4 (an_ask false (exports_of c.args.c.now) (imports_of c.args.c.now))) c.args.call.now.events (served_asks c.args.call.now.served.items) c.args.bytes.now.items c.put_events.new.bytes.items c.put_asks.new.bytes.items c.put_asks.new.bytes.items c.put_asks.result (recorded_events_sound (exports_of c.args.c.now) (imports_of c.args.c.now)) (subst₂ (λ n es. WritesFormat (counted_row 4 (an_event n)) es c.args.bytes.now.items c.put_events.new.bytes.items (Ok tt)) c.import_count.ensures c.as_slice.ensures c.in-Ok.ensures.writes) (subst (λ xs. WritesFormat (counted_row 4 (an_ask false (exports_of c.args.c.now) (imports_of c.args.c.now))) (served_asks xs) c.put_events.new.bytes.items c.put_asks.new.bytes.items c.put_asks.result) c.as_slice-in-Ok.ensures.value c.put_asks.ensures.writes) }

pub returns-in-Err : goal.returns-in-Err
returns-in-Err c = record { writes = first_long (counted_row 4 (an_event (imports_of c.args.c.now).count)) (counted_row 4 (an_ask false (exports_of c.args.c.now) (imports_of c.args.c.now))) c.args.call.now.events (served_asks c.args.call.now.served.items) c.args.bytes.now.items c.put_events.new.bytes.items c.put_events.new.bytes.items c.put_events.new.bytes.items c.in-Err.error (subst₂ (λ n es. WritesFormat (counted_row 4 (an_event n)) es c.args.bytes.now.items c.put_events.new.bytes.items (Err c.in-Err.error)) c.import_count.ensures c.as_slice.ensures c.in-Err.ensures.writes) }
