use Rattle.canon_recording_parts.specs.Events.{two_numbers}
use Rattle.canon_recording_parts.specs.Format.{also, any_number}
use Rattle.canon_recording_parts.proofs.Writing.{first_long, then_written}
use Rattle.canon_recording_parts.proofs.Laws.{pair_sound}
use Rattle.canon_recording_parts.proofs.write.put_request.Goals as goal

pub returns-in-Ok : goal.returns-in-Ok
returns-in-Ok c = record {
  writes = then_written two_numbers (also (any_number 4) two_numbers) c.args.old (
    c.args.align,
    c.args.new,
  ) c.args.bytes.now.items c.put_pair.new.bytes.items c.put_answer.new.bytes.items c.put_answer.new.bytes.items c.put_answer.result pair_sound c.in-Ok.ensures.writes c.put_answer.ensures.writes;
}

pub returns-in-Err : goal.returns-in-Err
returns-in-Err c = record {
  writes = first_long two_numbers (also (any_number 4) two_numbers) c.args.old (
    c.args.align,
    c.args.new,
  ) c.args.bytes.now.items c.put_pair.new.bytes.items c.put_pair.new.bytes.items c.put_pair.new.bytes.items c.in-Err.error c.in-Err.ensures.writes;
}
