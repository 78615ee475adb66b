use Rattle.canon_recording_parts.specs.Format.{any_number}
use Rattle.canon_recording_parts.proofs.Reading.{both_read, recording_first_stops, second_stops}
use Rattle.canon_recording_parts.proofs.read.read_pair.Goals as goal

pub returns-in-Ok-read_u64 : goal.returns-in-Ok-read_u64
returns-in-Ok-read_u64 c = record { reads = both_read (any_number 8) (any_number 8) c.args.bytes.now c.args.at.now c.read_u64.new.at c.read_u64-in-Ok.new.at c.read_u64-in-Ok.new.at c.in-Ok.first c.in-Ok-read_u64.second c.in-Ok.ensures.reads c.in-Ok-read_u64.ensures.reads }

pub returns-in-Err-read_u64 : goal.returns-in-Err-read_u64
returns-in-Err-read_u64 c = record { reads = second_stops (any_number 8) (any_number 8) c.args.bytes.now c.args.at.now c.read_u64.new.at c.read_u64-in-Ok.new.at c.read_u64-in-Ok.new.at c.in-Ok.first c.in-Err-read_u64.error c.in-Ok.ensures.reads c.in-Err-read_u64.ensures.reads }

pub returns-in-Err : goal.returns-in-Err
returns-in-Err c = record { reads = recording_first_stops (any_number 8) (any_number 8) c.args.bytes.now c.args.at.now c.read_u64.new.at c.read_u64.new.at c.read_u64.new.at c.in-Err.error c.in-Err.ensures.reads }
