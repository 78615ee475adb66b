use Rattle.std.proofs.Common.{arith}
use Rattle.canon_recording_parts.proofs.Reading.{recording_number_read}
use Rattle.canon_recording_parts.proofs.read.read_u8.Goals as goal

pub returns : goal.returns
returns c =
    let bs = c.args.bytes.now in
    record { reads = recording_number_read bs c.args.at.now 1 (omega (arith, c.if-bytes-at-lt1.false, c.requires.inside)) (λ i. omega (arith, c.type_inv.bytes i)) c.load_u8-number.result c.load_u8-number.ensures }
