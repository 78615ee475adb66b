use Rattle.canon_recording_parts.specs.Events.{two_numbers}
use Rattle.canon_recording_parts.specs.Format.{any_number}
use Rattle.canon_recording_parts.proofs.Reading.{both_read, recording_first_stops, second_stops}
use Rattle.canon_recording_parts.proofs.read.read_answer.Goals as goal

pub returns-in-Ok-read_pair : goal.returns-in-Ok-read_pair
returns-in-Ok-read_pair c = record { reads = both_read (any_number 4) two_numbers c.args.bytes.now c.args.at.now c.read_u32.new.at c.read_pair.new.at c.read_pair.new.at c.in-Ok.align c.in-Ok-read_pair.pair c.in-Ok.ensures.reads c.in-Ok-read_pair.ensures.reads }

pub returns-in-Err-read_pair : goal.returns-in-Err-read_pair
returns-in-Err-read_pair c = record { reads = second_stops (any_number 4) two_numbers c.args.bytes.now c.args.at.now c.read_u32.new.at c.read_pair.new.at c.read_pair.new.at c.in-Ok.align c.in-Err-read_pair.error c.in-Ok.ensures.reads c.in-Err-read_pair.ensures.reads }

pub returns-in-Err : goal.returns-in-Err
returns-in-Err c = record { reads = recording_first_stops (any_number 4) two_numbers c.args.bytes.now c.args.at.now c.read_u32.new.at c.read_u32.new.at c.read_u32.new.at c.in-Err.error c.in-Err.ensures.reads }
