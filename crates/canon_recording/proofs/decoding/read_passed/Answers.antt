use Rattle.std.proofs.Common.{true}
use Rattle.canon_recording.specs.Recordings.{values}
use Rattle.canon_types.specs.Table.{param_members, result_members}
use Rattle.canon_recording_parts.proofs.Reading.{both_read, recording_first_stops, second_stops}
use Rattle.canon_recording.proofs.decoding.read_passed.Goals as goal

pub returns-in-Ok-read_tuple : goal.returns-in-Ok-read_tuple
returns-in-Ok-read_tuple c = record { reads = both_read (values true (param_members c.args.c.now.types.types c.args.func)) (values true (result_members c.args.c.now.types.types c.args.func)) c.args.bytes.now c.args.at.now c.read_tuple.new.at c.read_tuple-in-Ok.new.at c.read_tuple-in-Ok.new.at c.in-Ok.params.items c.in-Ok-read_tuple.results.items c.in-Ok.ensures.reads c.in-Ok-read_tuple.ensures.reads }

pub returns-in-Err-read_tuple : goal.returns-in-Err-read_tuple
returns-in-Err-read_tuple c = record { reads = second_stops (values true (param_members c.args.c.now.types.types c.args.func)) (values true (result_members c.args.c.now.types.types c.args.func)) c.args.bytes.now c.args.at.now c.read_tuple.new.at c.read_tuple-in-Ok.new.at c.read_tuple-in-Ok.new.at c.in-Ok.params.items c.in-Err-read_tuple.error c.in-Ok.ensures.reads c.in-Err-read_tuple.ensures.reads }

pub returns-in-Err : goal.returns-in-Err
returns-in-Err c = record { reads = recording_first_stops (values true (param_members c.args.c.now.types.types c.args.func)) (values true (result_members c.args.c.now.types.types c.args.func)) c.args.bytes.now c.args.at.now c.read_tuple.new.at c.read_tuple.new.at c.read_tuple.new.at c.in-Err.error c.in-Err.ensures.reads }
