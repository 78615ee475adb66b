use Rattle.std.proofs.Common.{sym, false, ◌<◌}
use Rattle.canon_recording_parts.specs.Format.{also, as_}
use Rattle.canon_recording.specs.Recordings.{exports_of, imports_of, passed_values, recorded_call, recorded_call_of, served_asks, what_was_done}
use Rattle.canon_recording_parts.proofs.Writing.{named_written, number_long, numbered_written}
use Rattle.canon_recording.proofs.Written.{call_number, call_one}
use Rattle.canon_recording.proofs.encoding.put_call.Goals as goal

pub returns-in-Ok : goal.returns-in-Ok
returns-in-Ok c =
    let parts = named_written (recorded_call_of false c.args.call.now.export)
    (also (passed_values false (exports_of c.args.c.now) c.args.call.now.export) (what_was_done false (exports_of c.args.c.now) (imports_of c.args.c.now)))
    (call_one (exports_of c.args.c.now) (imports_of c.args.c.now) c.args.call.now.export) (
      (c.args.call.now.params.items, c.args.call.now.results.items),
      (c.args.call.now.events, served_asks c.args.call.now.served.items),
    ) c.put_u32.new.bytes.items c.put_known_call.new.bytes.items c.put_known_call.result c.put_known_call.ensures.writes in
    record { writes = numbered_written 4 (λ n. n < (exports_of c.args.c.now).count) (λ n. as_ (recorded_call_of false n) (also (passed_values false (exports_of c.args.c.now) n) (what_was_done false (exports_of c.args.c.now) (imports_of c.args.c.now)))) c.args.call.now.export (recorded_call c.args.call.now) (λ m xs h. sym (call_number (exports_of c.args.c.now) (imports_of c.args.c.now) m (recorded_call c.args.call.now) xs h)) c.args.bytes.now.items c.put_u32.new.bytes.items c.put_known_call.new.bytes.items c.put_known_call.result c.requires.of.its.known c.in-Ok.ensures.writes parts }

pub returns-in-Err : goal.returns-in-Err
returns-in-Err c = record { writes = number_long 4 (λ n. n < (exports_of c.args.c.now).count) (λ n. as_ (recorded_call_of false n) (also (passed_values false (exports_of c.args.c.now) n) (what_was_done false (exports_of c.args.c.now) (imports_of c.args.c.now)))) c.args.call.now.export (recorded_call c.args.call.now) (λ m xs h. sym (call_number (exports_of c.args.c.now) (imports_of c.args.c.now) m (recorded_call c.args.call.now) xs h)) c.args.bytes.now.items c.put_u32.new.bytes.items c.put_u32.new.bytes.items c.in-Err.error c.in-Err.ensures.writes }
