use Rattle.std.proofs.Common.{true}
use Rattle.std.specs.Prelude.{⊤}
use Rattle.canon_recording_parts.specs.Format.{in_a_row}
use Rattle.canon_recording.specs.Recordings.{a_call, exports_of, imports_of, recorded_calls}
use Rattle.canon_recording_parts.specs.Read.{seen_as}
use Rattle.canon_recording_parts.proofs.Reading.{number_stops, rest_read}
use Rattle.canon_recording.proofs.decoding.read_calls.Goals as goal

pub returns-in-Ok : goal.returns-in-Ok
returns-in-Ok c = record { reads = rest_read 4 (λ n. ⊤) (in_a_row (a_call true (exports_of c.args.c.now) (imports_of c.args.c.now))) c.args.bytes.now c.args.at.now c.read_u32.new.at c.read_call_row.new.at c.read_u32.new.at c.in-Ok.count (seen_as (λ calls. recorded_calls calls.items) c.read_call_row.result) c.in-Ok.ensures.reads c.read_call_row.ensures.reads }

pub returns-in-Err : goal.returns-in-Err
returns-in-Err c = record { reads = number_stops 4 (λ n. ⊤) (in_a_row (a_call true (exports_of c.args.c.now) (imports_of c.args.c.now))) c.args.bytes.now c.args.at.now c.read_u32.new.at c.read_u32.new.at c.read_u32.new.at c.in-Err.error c.in-Err.ensures.reads }
