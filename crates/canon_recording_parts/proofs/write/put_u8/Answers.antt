use Rattle.canon_recording_parts.proofs.Writing.{number_1}
use Rattle.canon_recording_parts.proofs.write.put_u8.Goals as goal

pub returns : goal.returns
returns c = record { writes = number_1 c.args.bytes.now.items c.append.new.bytes.items c.append.result c.args.number c.to_le_bytes.result c.ranges.number.fits c.to_le_bytes.ensures c.append.ensures.writes }
