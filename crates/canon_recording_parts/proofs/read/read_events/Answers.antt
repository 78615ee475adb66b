use Rattle.std.specs.Prelude.{⊤}
use Rattle.canon_recording_parts.specs.Events.{an_event}
use Rattle.canon_recording_parts.specs.Format.{in_a_row}
use Rattle.canon_recording_parts.proofs.Reading.{number_stops, rest_read}
use Rattle.canon_recording_parts.proofs.read.read_events.Goals as goal

pub returns-in-Ok : goal.returns-in-Ok
returns-in-Ok c = record { reads = rest_read 4 (λ n. ⊤) (in_a_row (an_event c.args.imports)) c.args.bytes.now c.args.at.now c.read_u32.new.at c.read_event_row.new.at c.read_u32.new.at c.in-Ok.count c.read_event_row.result c.in-Ok.ensures.reads c.read_event_row.ensures.reads }

pub returns-in-Err : goal.returns-in-Err
returns-in-Err c = record { reads = number_stops 4 (λ n. ⊤) (in_a_row (an_event c.args.imports)) c.args.bytes.now c.args.at.now c.read_u32.new.at c.read_u32.new.at c.read_u32.new.at c.in-Err.error c.in-Err.ensures.reads }
