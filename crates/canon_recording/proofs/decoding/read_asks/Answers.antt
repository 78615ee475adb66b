use Rattle.std.proofs.Common.{true}
use Rattle.std.specs.Prelude.{⊤}
use Rattle.canon_recording_parts.specs.Format.{in_a_row}
use Rattle.canon_recording.specs.Recordings.{an_ask, exports_of, imports_of, served_asks}
use Rattle.canon_recording_parts.specs.Read.{seen_as}
use Rattle.canon_recording_parts.proofs.Reading.{number_stops, rest_read}
use Rattle.canon_recording.proofs.decoding.read_asks.Goals as goal

pub returns-in-Ok : goal.returns-in-Ok
returns-in-Ok c = record { reads = rest_read 4 (λ n. ⊤) (in_a_row (an_ask true (exports_of c.args.c.now) (imports_of c.args.c.now))) c.args.bytes.now c.args.at.now c.read_u32.new.at c.read_ask_row.new.at c.read_u32.new.at c.in-Ok.count (seen_as (λ asks. served_asks asks.items) c.read_ask_row.result) c.in-Ok.ensures.reads c.read_ask_row.ensures.reads }

pub returns-in-Err : goal.returns-in-Err
returns-in-Err c = record { reads = number_stops 4 (λ n. ⊤) (in_a_row (an_ask true (exports_of c.args.c.now) (imports_of c.args.c.now))) c.args.bytes.now c.args.at.now c.read_u32.new.at c.read_u32.new.at c.read_u32.new.at c.in-Err.error c.in-Err.ensures.reads }
