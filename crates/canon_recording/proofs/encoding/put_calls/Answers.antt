use Rattle.std.proofs.Common.{length, sym, false, ◌∙◌}
use Rattle.std.specs.Prelude.{⊤}
use Rattle.canon_recording_parts.specs.Format.{in_a_row}
use Rattle.canon_recording.specs.Recordings.{a_call, exports_of, imports_of, recorded_call, recorded_calls}
use Rattle.canon_recording_parts.proofs.Writing.{number_long, numbered_written}
use Rattle.canon_recording_parts.proofs.Formats.{row_count}
use Rattle.canon_recording.proofs.Rows.{map_length}
use Rattle.canon_recording.proofs.encoding.put_calls.Goals as goal

pub returns-in-Ok : goal.returns-in-Ok
returns-in-Ok c = record { writes = numbered_written 4 (λ n. ⊤) (in_a_row (a_call false (exports_of c.args.c.now) (imports_of c.args.c.now))) (length c.args.calls.now) (recorded_calls c.args.calls.now) (λ m xs h. sym (row_count (a_call false (exports_of c.args.c.now) (imports_of c.args.c.now)) m (recorded_calls c.args.calls.now) xs h) ∙ map_length recorded_call c.args.calls.now) c.args.bytes.now.items c.put_count.new.bytes.items c.put_call_row.new.bytes.items c.put_call_row.result tt c.in-Ok.ensures.writes c.put_call_row.ensures.writes }

pub returns-in-Err : goal.returns-in-Err
returns-in-Err c = record { writes = number_long 4 (λ n. ⊤) (in_a_row (a_call false (exports_of c.args.c.now) (imports_of c.args.c.now))) (length c.args.calls.now) (recorded_calls c.args.calls.now) (λ m xs h. sym (row_count (a_call false (exports_of c.args.c.now) (imports_of c.args.c.now)) m (recorded_calls c.args.calls.now) xs h) ∙ map_length recorded_call c.args.calls.now) c.args.bytes.now.items c.put_count.new.bytes.items c.put_count.new.bytes.items c.in-Err.error c.in-Err.ensures.writes }
