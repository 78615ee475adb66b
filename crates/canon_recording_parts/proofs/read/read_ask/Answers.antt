use Rattle.std.proofs.Common.{◌<◌}
use Rattle.canon_recording_parts.specs.Events.{ask_event, words_and_memory}
use Rattle.canon_recording_parts.specs.Format.{also, number}
use Rattle.canon_recording_parts.proofs.Reading.{both_read, recording_first_stops, recording_named, named_stops, second_stops}
use Rattle.canon_recording_parts.proofs.read.read_ask.Goals as goal

pub returns-in-Ok-read_words_and_memory : goal.returns-in-Ok-read_words_and_memory
returns-in-Ok-read_words_and_memory c = record { reads = recording_named ask_event (also (number 4 (λ n. n < c.args.imports)) words_and_memory) c.args.bytes.now c.args.at.now c.read_words_and_memory.new.at (c.in-Ok.index, (c.in-Ok-read_words_and_memory.words, c.in-Ok-read_words_and_memory.memory)) (both_read (number 4 (λ n. n < c.args.imports)) words_and_memory c.args.bytes.now c.args.at.now c.read_below.new.at c.read_words_and_memory.new.at c.read_words_and_memory.new.at c.in-Ok.index (c.in-Ok-read_words_and_memory.words, c.in-Ok-read_words_and_memory.memory) c.in-Ok.ensures.reads c.in-Ok-read_words_and_memory.ensures.reads) }

pub returns-in-Err-read_words_and_memory : goal.returns-in-Err-read_words_and_memory
returns-in-Err-read_words_and_memory c = record { reads = named_stops ask_event (also (number 4 (λ n. n < c.args.imports)) words_and_memory) c.args.bytes.now c.args.at.now c.read_words_and_memory.new.at c.read_words_and_memory.new.at c.in-Err-read_words_and_memory.error (second_stops (number 4 (λ n. n < c.args.imports)) words_and_memory c.args.bytes.now c.args.at.now c.read_below.new.at c.read_words_and_memory.new.at c.read_words_and_memory.new.at c.in-Ok.index c.in-Err-read_words_and_memory.error c.in-Ok.ensures.reads c.in-Err-read_words_and_memory.ensures.reads) }

pub returns-in-Err : goal.returns-in-Err
returns-in-Err c = record { reads = named_stops ask_event (also (number 4 (λ n. n < c.args.imports)) words_and_memory) c.args.bytes.now c.args.at.now c.read_below.new.at c.read_below.new.at c.in-Err.error (recording_first_stops (number 4 (λ n. n < c.args.imports)) words_and_memory c.args.bytes.now c.args.at.now c.read_below.new.at c.read_below.new.at c.read_below.new.at c.in-Err.error c.in-Err.ensures.reads) }
