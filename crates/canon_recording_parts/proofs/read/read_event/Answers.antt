use Rattle.std.proofs.Common.{arith, ◌<◌}
use Rattle.canon_recording_parts.specs.declared.error.ReplayError.TheVariants as error
use Rattle.canon_recording_parts.specs.Events.{tagged}
use Rattle.canon_recording_parts.proofs.Reading.{number_bad, number_cut, number_good, number_stops, rest_read}
use Rattle.canon_recording_parts.proofs.read.read_event.Goals as goal

pub returns-then-tag-gt5 : goal.returns-then-tag-gt5
returns-then-tag-gt5 c = record {
  reads = number_stops 1 (λ n. n < 6) (tagged c.args.imports) c.args.bytes.now c.args.at.now c.read_u8.new.at c.read_u8.new.at c.read_u8.new.at (error.BadRecording c.args.at.now)
      (number_bad 1 (λ n. n < 6) c.args.bytes.now c.args.at.now c.read_u8.new.at c.read_u8.new.at c.in-Ok.tag (λ h. omega (arith, h, c.if-tag-gt5.true)) c.in-Ok.ensures.reads);
}

pub returns-else-tag-gt5 : goal.returns-else-tag-gt5
returns-else-tag-gt5 c =
    let good : c.in-Ok.tag < 6 = omega (arith, c.if-tag-gt5.false) in
    record {
      reads = rest_read 1 (λ n. n < 6) (tagged c.args.imports) c.args.bytes.now c.args.at.now c.read_u8.new.at c.read_tagged.new.at c.read_u8.new.at c.in-Ok.tag c.read_tagged.result
          (number_good 1 (λ n. n < 6) c.args.bytes.now c.args.at.now c.read_u8.new.at c.read_u8.new.at c.in-Ok.tag good c.in-Ok.ensures.reads) c.read_tagged.ensures.reads;
    }

pub returns-in-Err : goal.returns-in-Err
returns-in-Err c = record { reads = number_stops 1 (λ n. n < 6) (tagged c.args.imports) c.args.bytes.now c.args.at.now c.read_u8.new.at c.read_u8.new.at c.read_u8.new.at c.in-Err.error (number_cut 1 (λ n. n < 6) c.args.bytes.now c.args.at.now c.read_u8.new.at c.read_u8.new.at c.in-Err.error c.in-Err.ensures.reads) }
