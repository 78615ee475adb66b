use Rattle.canon_recording_parts.specs.Events.{words_and_memory}
use Rattle.canon_recording_parts.specs.Format.{any_number}
use Rattle.canon_recording_parts.proofs.Writing.{first_long, then_written}
use Rattle.canon_recording_parts.proofs.Laws.{any_sound}
use Rattle.canon_recording_parts.proofs.write.put_numbered.Goals as goal

pub returns-in-Ok : goal.returns-in-Ok
returns-in-Ok c = record {
  writes = then_written (any_number 4) words_and_memory c.args.number (
    c.args.words.now,
    c.args.memory.now,
  ) c.args.bytes.now.items c.put_u32.new.bytes.items c.put_words_and_memory.new.bytes.items c.put_words_and_memory.new.bytes.items c.put_words_and_memory.result (any_sound 4) c.in-Ok.ensures.writes c.put_words_and_memory.ensures.writes;
}

pub returns-in-Err : goal.returns-in-Err
returns-in-Err c = record {
  writes = first_long (any_number 4) words_and_memory c.args.number (
    c.args.words.now,
    c.args.memory.now,
  ) c.args.bytes.now.items c.put_u32.new.bytes.items c.put_u32.new.bytes.items c.put_u32.new.bytes.items c.in-Err.error c.in-Err.ensures.writes;
}
