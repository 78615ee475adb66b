use Rattle.std.proofs.Common.{length, sym}
use Rattle.std.specs.Prelude.{⊤}
use Rattle.canon_recording_parts.specs.Format.{any_number, in_a_row}
use Rattle.canon_recording_parts.proofs.Formats.{row_count}
use Rattle.canon_recording_parts.proofs.Writing.{number_long, numbered_written}
use Rattle.canon_recording_parts.proofs.write.put_words.Goals as goal

pub returns-in-Ok : goal.returns-in-Ok
returns-in-Ok c = record { writes = numbered_written 4 (λ n. ⊤) (in_a_row (any_number 8)) (length c.args.words.now) c.args.words.now (λ m xs h. sym (row_count (any_number 8) m c.args.words.now xs h)) c.args.bytes.now.items c.put_count.new.bytes.items c.put_word_row.new.bytes.items c.put_word_row.result tt c.in-Ok.ensures.writes c.put_word_row.ensures.writes }

pub returns-in-Err : goal.returns-in-Err
returns-in-Err c = record { writes = number_long 4 (λ n. ⊤) (in_a_row (any_number 8)) (length c.args.words.now) c.args.words.now (λ m xs h. sym (row_count (any_number 8) m c.args.words.now xs h)) c.args.bytes.now.items c.put_count.new.bytes.items c.put_count.new.bytes.items c.in-Err.error c.in-Err.ensures.writes }
