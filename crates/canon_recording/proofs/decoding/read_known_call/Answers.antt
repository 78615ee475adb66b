use Rattle.std.proofs.Common.{true}
use Rattle.canon_recording.specs.Recordings.{done_in, exports_of, imports_of, passed_in, passed_values, what_was_done}
use Rattle.canon_recording_parts.proofs.Reading.{both_read, recording_first_stops, second_stops}
use Rattle.canon_recording.proofs.decoding.read_known_call.Goals as goal

pub returns-in-Ok-read_done : goal.returns-in-Ok-read_done
returns-in-Ok-read_done c = record { reads = both_read (passed_values true (exports_of c.args.c.now) c.args.export) (what_was_done true (exports_of c.args.c.now) (imports_of c.args.c.now)) c.args.bytes.now c.args.at.now c.read_export.new.at c.read_done.new.at c.read_done.new.at (passed_in c.in-Ok.passed) (done_in c.in-Ok-read_done.done) c.in-Ok.ensures.reads c.in-Ok-read_done.ensures.reads }

pub returns-in-Err-read_done : goal.returns-in-Err-read_done
returns-in-Err-read_done c = record { reads = second_stops (passed_values true (exports_of c.args.c.now) c.args.export) (what_was_done true (exports_of c.args.c.now) (imports_of c.args.c.now)) c.args.bytes.now c.args.at.now c.read_export.new.at c.read_done.new.at c.read_done.new.at (passed_in c.in-Ok.passed) c.in-Err-read_done.error c.in-Ok.ensures.reads c.in-Err-read_done.ensures.reads }

pub returns-in-Err : goal.returns-in-Err
returns-in-Err c = record { reads = recording_first_stops (passed_values true (exports_of c.args.c.now) c.args.export) (what_was_done true (exports_of c.args.c.now) (imports_of c.args.c.now)) c.args.bytes.now c.args.at.now c.read_export.new.at c.read_export.new.at c.read_export.new.at c.in-Err.error c.in-Err.ensures.reads }
