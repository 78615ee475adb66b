use Rattle.std.proofs.Common.{Err, Ok, false}
use Rattle.std.proofs.Common.{List}
use Rattle.canon_recording_parts.specs.Format.{also, counted_row, exactly}
use Rattle.canon_recording.specs.Recordings.{RecordedCall, a_call, exports_of, imports_of, letters, recorded_calls}
use Rattle.canon_recording_parts.proofs.Writing.{first_long, named_written, then_written}
use Rattle.canon_recording_parts.proofs.Formats.{exactly_sound}
use Rattle.canon_recording.proofs.Written.{calls_one}
use Rattle.canon_recording.proofs.Rows.{exact}
use Rattle.canon_recording.proofs.encoding.put_recording.Goals as goal

pub returns-in-Ok : goal.returns-in-Ok
returns-in-Ok c =
    let letters_in = exact letters c.args.bytes.now.items c.append.new.bytes.items (Ok tt) c.in-Ok.ensures.writes in
    let all = then_written (exactly letters) (counted_row 4 (a_call false (exports_of c.args.c.now) (imports_of c.args.c.now))) tt
    (recorded_calls c.args.calls.now) c.args.bytes.now.items c.append.new.bytes.items c.put_calls.new.bytes.items c.put_calls.new.bytes.items c.put_calls.result
    (exactly_sound letters) letters_in c.put_calls.ensures.writes in
    record { writes = named_written (λ (x : Unit {0} × List RecordedCall). x.1) (also (exactly letters) (counted_row 4 (a_call false (exports_of c.args.c.now) (imports_of c.args.c.now)))) calls_one (tt, recorded_calls c.args.calls.now) c.args.bytes.now.items c.put_calls.new.bytes.items c.put_calls.result all }

pub returns-in-Err : goal.returns-in-Err
returns-in-Err c =
    let letters_in = exact letters c.args.bytes.now.items c.append.new.bytes.items (Err c.in-Err.error) c.in-Err.ensures.writes in
    let all = first_long (exactly letters) (counted_row 4 (a_call false (exports_of c.args.c.now) (imports_of c.args.c.now))) tt
    (recorded_calls c.args.calls.now) c.args.bytes.now.items c.append.new.bytes.items c.append.new.bytes.items c.append.new.bytes.items c.in-Err.error letters_in in
    record { writes = named_written (λ (x : Unit {0} × List RecordedCall). x.1) (also (exactly letters) (counted_row 4 (a_call false (exports_of c.args.c.now) (imports_of c.args.c.now)))) calls_one (tt, recorded_calls c.args.calls.now) c.args.bytes.now.items c.append.new.bytes.items (Err c.in-Err.error) all }
