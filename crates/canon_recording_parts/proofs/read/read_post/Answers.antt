use Rattle.canon_recording_parts.specs.Events.{post_event, word_list}
use Rattle.canon_recording_parts.specs.Format.{also, any_number}
use Rattle.canon_recording_parts.proofs.Reading.{both_read, recording_first_stops, recording_named, named_stops, second_stops}
use Rattle.canon_recording_parts.proofs.read.read_post.Goals as goal

pub returns-in-Ok-read_words : goal.returns-in-Ok-read_words
returns-in-Ok-read_words c = record {
  reads = recording_named post_event (also (any_number 4) word_list) c.args.bytes.now c.args.at.now c.read_words.new.at (
    c.in-Ok.func,
    c.in-Ok-read_words.words,
  ) (both_read (any_number 4) word_list c.args.bytes.now c.args.at.now c.read_u32.new.at c.read_words.new.at c.read_words.new.at c.in-Ok.func c.in-Ok-read_words.words c.in-Ok.ensures.reads c.in-Ok-read_words.ensures.reads);
}

pub returns-in-Err-read_words : goal.returns-in-Err-read_words
returns-in-Err-read_words c = record { reads = named_stops post_event (also (any_number 4) word_list) c.args.bytes.now c.args.at.now c.read_words.new.at c.read_words.new.at c.in-Err-read_words.error (second_stops (any_number 4) word_list c.args.bytes.now c.args.at.now c.read_u32.new.at c.read_words.new.at c.read_words.new.at c.in-Ok.func c.in-Err-read_words.error c.in-Ok.ensures.reads c.in-Err-read_words.ensures.reads) }

pub returns-in-Err : goal.returns-in-Err
returns-in-Err c = record { reads = named_stops post_event (also (any_number 4) word_list) c.args.bytes.now c.args.at.now c.read_u32.new.at c.read_u32.new.at c.in-Err.error (recording_first_stops (any_number 4) word_list c.args.bytes.now c.args.at.now c.read_u32.new.at c.read_u32.new.at c.read_u32.new.at c.in-Err.error c.in-Err.ensures.reads) }
