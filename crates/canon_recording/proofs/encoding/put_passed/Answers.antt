use Rattle.std.proofs.Common.{false}
use Rattle.canon_recording.specs.Recordings.{values}
use Rattle.canon_types.specs.Table.{param_members, result_members}
use Rattle.canon_recording_parts.proofs.Writing.{first_long, then_written}
use Rattle.canon_recording.proofs.Values.{recorded_values_sound}
use Rattle.canon_recording.proofs.encoding.put_passed.Goals as goal

pub returns-in-Ok : goal.returns-in-Ok
returns-in-Ok c = record { writes = then_written (values false (param_members c.args.c.now.types.types c.args.func)) (values false (result_members c.args.c.now.types.types c.args.func)) c.args.params.now c.args.results.now c.args.bytes.now.items c.put_tuple.new.bytes.items c.put_tuple-in-Ok.new.bytes.items c.put_tuple-in-Ok.new.bytes.items c.put_tuple-in-Ok.result (recorded_values_sound (param_members c.args.c.now.types.types c.args.func)) c.in-Ok.ensures.writes c.put_tuple-in-Ok.ensures.writes }

pub returns-in-Err : goal.returns-in-Err
returns-in-Err c = record { writes = first_long (values false (param_members c.args.c.now.types.types c.args.func)) (values false (result_members c.args.c.now.types.types c.args.func)) c.args.params.now c.args.results.now c.args.bytes.now.items c.put_tuple.new.bytes.items c.put_tuple.new.bytes.items c.put_tuple.new.bytes.items c.in-Err.error c.in-Err.ensures.writes }
