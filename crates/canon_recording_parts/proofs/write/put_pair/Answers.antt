use Rattle.canon_recording_parts.specs.Format.{any_number}
use Rattle.canon_recording_parts.proofs.Writing.{first_long, then_written}
use Rattle.canon_recording_parts.proofs.Laws.{any_sound}
use Rattle.canon_recording_parts.proofs.write.put_pair.Goals as goal

pub returns-in-Ok : goal.returns-in-Ok
returns-in-Ok c = record { writes = then_written (any_number 8) (any_number 8) c.args.pair.0 c.args.pair.1 c.args.bytes.now.items c.put_u64.new.bytes.items c.put_u64-in-Ok.new.bytes.items c.put_u64-in-Ok.new.bytes.items c.put_u64-in-Ok.result (any_sound 8) c.in-Ok.ensures.writes c.put_u64-in-Ok.ensures.writes }

pub returns-in-Err : goal.returns-in-Err
returns-in-Err c = record { writes = first_long (any_number 8) (any_number 8) c.args.pair.0 c.args.pair.1 c.args.bytes.now.items c.put_u64.new.bytes.items c.put_u64.new.bytes.items c.put_u64.new.bytes.items c.in-Err.error c.in-Err.ensures.writes }
