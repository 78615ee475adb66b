use Rattle.canon_recording_parts.specs.Events.{byte_list, word_list}
use Rattle.canon_recording_parts.proofs.Writing.{first_long, then_written}
use Rattle.canon_recording_parts.proofs.Laws.{words_sound}
use Rattle.canon_recording_parts.proofs.write.put_words_and_memory.Goals as goal

pub returns-in-Ok : goal.returns-in-Ok
returns-in-Ok c = record { writes = then_written word_list byte_list c.args.words.now c.args.memory.now c.args.bytes.now.items c.put_words.new.bytes.items c.put_bytes.new.bytes.items c.put_bytes.new.bytes.items c.put_bytes.result words_sound c.in-Ok.ensures.writes c.put_bytes.ensures.writes }

pub returns-in-Err : goal.returns-in-Err
returns-in-Err c = record { writes = first_long word_list byte_list c.args.words.now c.args.memory.now c.args.bytes.now.items c.put_words.new.bytes.items c.put_words.new.bytes.items c.put_words.new.bytes.items c.in-Err.error c.in-Err.ensures.writes }
