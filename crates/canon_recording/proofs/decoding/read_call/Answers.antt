use Rattle.std.proofs.Common.{Err, Ok, subst, true, ◌<◌}
use Rattle.canon_recording_parts.specs.Format.{also, as_, number}
use Rattle.canon_recording_parts.specs.Read.{ReadsFormat}
use Rattle.canon_recording.specs.Recordings.{done_in, exports_of, imports_of, passed_in, passed_values, recorded_call_of, what_was_done}
use Rattle.canon_recording_parts.proofs.Reading.{recording_named, named_stops, number_stops, then_read, then_stops}
use Rattle.canon_recording.proofs.decoding.read_call.Goals as goal

pub returns-in-Ok-read_known_call : goal.returns-in-Ok-read_known_call
returns-in-Ok-read_known_call c =
    let parts = recording_named (recorded_call_of true c.in-Ok.export)
    (also (passed_values true (exports_of c.args.c.now) c.in-Ok.export) (what_was_done true (exports_of c.args.c.now) (imports_of c.args.c.now))) c.args.bytes.now c.read_below.new.at c.read_known_call.new.at (passed_in c.in-Ok-read_known_call.passed, done_in c.in-Ok-read_known_call.done) c.in-Ok-read_known_call.ensures.reads in
    record { reads = then_read 4 (λ n. n < (exports_of c.args.c.now).count) (λ n. as_ (recorded_call_of true n) (also (passed_values true (exports_of c.args.c.now) n) (what_was_done true (exports_of c.args.c.now) (imports_of c.args.c.now)))) c.args.bytes.now c.args.at.now c.read_below.new.at c.read_known_call.new.at c.read_known_call.new.at c.in-Ok.export (recorded_call_of true c.in-Ok.export (passed_in c.in-Ok-read_known_call.passed, done_in c.in-Ok-read_known_call.done)) (subst (λ m. ReadsFormat (number 4 (λ n. n < m)) c.args.bytes.now c.args.at.now c.read_below.new.at (Ok c.in-Ok.export)) c.export_count.ensures c.in-Ok.ensures.reads) parts }

pub returns-in-Err-read_known_call : goal.returns-in-Err-read_known_call
returns-in-Err-read_known_call c =
    let parts = named_stops (recorded_call_of true c.in-Ok.export)
    (also (passed_values true (exports_of c.args.c.now) c.in-Ok.export) (what_was_done true (exports_of c.args.c.now) (imports_of c.args.c.now))) c.args.bytes.now c.read_below.new.at c.read_known_call.new.at c.read_known_call.new.at c.in-Err-read_known_call.error c.in-Err-read_known_call.ensures.reads in
    record { reads = then_stops 4 (λ n. n < (exports_of c.args.c.now).count) (λ n. as_ (recorded_call_of true n) (also (passed_values true (exports_of c.args.c.now) n) (what_was_done true (exports_of c.args.c.now) (imports_of c.args.c.now)))) c.args.bytes.now c.args.at.now c.read_below.new.at c.read_known_call.new.at c.read_known_call.new.at c.in-Ok.export c.in-Err-read_known_call.error (subst (λ m. ReadsFormat (number 4 (λ n. n < m)) c.args.bytes.now c.args.at.now c.read_below.new.at (Ok c.in-Ok.export)) c.export_count.ensures c.in-Ok.ensures.reads) parts }

pub returns-in-Err : goal.returns-in-Err
returns-in-Err c = record { reads = number_stops 4 (λ n. n < (exports_of c.args.c.now).count) (λ n. as_ (recorded_call_of true n) (also (passed_values true (exports_of c.args.c.now) n) (what_was_done true (exports_of c.args.c.now) (imports_of c.args.c.now)))) c.args.bytes.now c.args.at.now c.read_below.new.at c.read_below.new.at c.read_below.new.at c.in-Err.error (subst (λ m. ReadsFormat (number 4 (λ n. n < m)) c.args.bytes.now c.args.at.now c.read_below.new.at (Err c.in-Err.error)) c.export_count.ensures c.in-Err.ensures.reads) }
