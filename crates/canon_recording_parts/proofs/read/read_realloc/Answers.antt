use Rattle.canon_recording_parts.specs.Events.{realloc_event, two_numbers}
use Rattle.canon_recording_parts.specs.Format.{also, any_number}
use Rattle.canon_recording_parts.proofs.Reading.{both_read, recording_first_stops, recording_named, named_stops, second_stops}
use Rattle.canon_recording_parts.proofs.read.read_realloc.Goals as goal

pub returns-in-Ok-read_answer : goal.returns-in-Ok-read_answer
returns-in-Ok-read_answer c = record {
  reads = recording_named realloc_event (also two_numbers (also (any_number 4) two_numbers)) c.args.bytes.now c.args.at.now c.read_answer.new.at (
    (
      c.in-Ok.old,
      c.in-Ok.old_size,
    ),
    (c.in-Ok-read_answer.align, (c.in-Ok-read_answer.new_size, c.in-Ok-read_answer.answer)),
  ) (both_read two_numbers (also
      (any_number 4) two_numbers) c.args.bytes.now c.args.at.now c.read_pair.new.at c.read_answer.new.at c.read_answer.new.at (c.in-Ok.old, c.in-Ok.old_size) (
        c.in-Ok-read_answer.align,
        (c.in-Ok-read_answer.new_size, c.in-Ok-read_answer.answer),
      ) c.in-Ok.ensures.reads c.in-Ok-read_answer.ensures.reads);
}

pub returns-in-Err-read_answer : goal.returns-in-Err-read_answer
returns-in-Err-read_answer c = record { reads = named_stops realloc_event (also two_numbers (also (any_number 4) two_numbers)) c.args.bytes.now c.args.at.now c.read_answer.new.at c.read_answer.new.at c.in-Err-read_answer.error (second_stops two_numbers (also (any_number 4) two_numbers) c.args.bytes.now c.args.at.now c.read_pair.new.at c.read_answer.new.at c.read_answer.new.at (c.in-Ok.old, c.in-Ok.old_size) c.in-Err-read_answer.error c.in-Ok.ensures.reads c.in-Err-read_answer.ensures.reads) }

pub returns-in-Err : goal.returns-in-Err
returns-in-Err c = record { reads = named_stops realloc_event (also two_numbers (also (any_number 4) two_numbers)) c.args.bytes.now c.args.at.now c.read_pair.new.at c.read_pair.new.at c.in-Err.error (recording_first_stops two_numbers (also (any_number 4) two_numbers) c.args.bytes.now c.args.at.now c.read_pair.new.at c.read_pair.new.at c.read_pair.new.at c.in-Err.error c.in-Err.ensures.reads) }
