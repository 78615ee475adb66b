use Rattle.canon_recording_parts.specs.Events.{byte_list, word_list}
use Rattle.canon_recording_parts.proofs.Reading.{both_read, recording_first_stops, second_stops}
use Rattle.canon_recording_parts.proofs.read.read_words_and_memory.Goals as goal

pub returns-in-Ok-read_memory : goal.returns-in-Ok-read_memory
returns-in-Ok-read_memory c = record { reads = both_read word_list byte_list c.args.bytes.now c.args.at.now c.read_words.new.at c.read_memory.new.at c.read_memory.new.at c.in-Ok.words c.in-Ok-read_memory.memory c.in-Ok.ensures.reads c.in-Ok-read_memory.ensures.reads }

pub returns-in-Err-read_memory : goal.returns-in-Err-read_memory
returns-in-Err-read_memory c = record { reads = second_stops word_list byte_list c.args.bytes.now c.args.at.now c.read_words.new.at c.read_memory.new.at c.read_memory.new.at c.in-Ok.words c.in-Err-read_memory.error c.in-Ok.ensures.reads c.in-Err-read_memory.ensures.reads }

pub returns-in-Err : goal.returns-in-Err
returns-in-Err c = record { reads = recording_first_stops word_list byte_list c.args.bytes.now c.args.at.now c.read_words.new.at c.read_words.new.at c.read_words.new.at c.in-Err.error c.in-Err.ensures.reads }
