use Rattle.std.proofs.Common.{Err, Ok, subst, true}
use Rattle.canon_recording_parts.specs.Format.{counted_row}
use Rattle.canon_recording_parts.specs.Events.{an_event}
use Rattle.canon_recording_parts.specs.Read.{ReadsFormat}
use Rattle.canon_recording.specs.Recordings.{an_ask, exports_of, imports_of, served_asks}
use Rattle.canon_recording_parts.proofs.Reading.{both_read, recording_first_stops, second_stops}
use Rattle.canon_recording.proofs.decoding.read_done.Goals as goal

pub returns-in-Ok-read_asks : goal.returns-in-Ok-read_asks
returns-in-Ok-read_asks c = record { reads = both_read (counted_row 4 (an_event (imports_of c.args.c.now).count)) (counted_row 4 (an_ask true (exports_of c.args.c.now) (imports_of c.args.c.now))) c.args.bytes.now c.args.at.now c.read_events.new.at c.read_asks.new.at c.read_asks.new.at c.in-Ok.events (served_asks c.in-Ok-read_asks.served.items) (subst (λ n. ReadsFormat (counted_row 4 (an_event n)) c.args.bytes.now c.args.at.now c.read_events.new.at (Ok c.in-Ok.events)) c.import_count.ensures c.in-Ok.ensures.reads) c.in-Ok-read_asks.ensures.reads }

pub returns-in-Err-read_asks : goal.returns-in-Err-read_asks
returns-in-Err-read_asks c = record { reads = second_stops (counted_row 4 (an_event (imports_of c.args.c.now).count)) (counted_row 4 (an_ask true (exports_of c.args.c.now) (imports_of c.args.c.now))) c.args.bytes.now c.args.at.now c.read_events.new.at c.read_asks.new.at c.read_asks.new.at c.in-Ok.events c.in-Err-read_asks.error (subst (λ n. ReadsFormat (counted_row 4 (an_event n)) c.args.bytes.now c.args.at.now c.read_events.new.at (Ok c.in-Ok.events)) c.import_count.ensures c.in-Ok.ensures.reads) c.in-Err-read_asks.ensures.reads }

pub returns-in-Err : goal.returns-in-Err
returns-in-Err c = record { reads = recording_first_stops (counted_row 4 (an_event (imports_of c.args.c.now).count)) (counted_row 4 (an_ask true (exports_of c.args.c.now) (imports_of c.args.c.now))) c.args.bytes.now c.args.at.now c.read_events.new.at c.read_events.new.at c.read_events.new.at c.in-Err.error (subst (λ n. ReadsFormat (counted_row 4 (an_event n)) c.args.bytes.now c.args.at.now c.read_events.new.at (Err c.in-Err.error)) c.import_count.ensures c.in-Err.ensures.reads) }
