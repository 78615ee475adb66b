use Rattle.std.proofs.Common.{true}
use Rattle.std.proofs.Common.{List}
use Rattle.canon_recording_parts.specs.Read.{seen_as}
use Rattle.canon_recording_parts.specs.Format.{also, counted_row, exactly}
use Rattle.canon_recording.specs.Recordings.{RecordedCall, a_call, exports_of, imports_of, letters, recorded_calls}
use Rattle.canon_recording_parts.proofs.Reading.{recording_first_stops, named_stops}
use Rattle.canon_recording.proofs.Deciding.{behind_letters}
use Rattle.canon_recording.proofs.decoding.read_recording.Goals as goal

pub returns-in-Ok : goal.returns-in-Ok
returns-in-Ok c = record { reads = behind_letters (counted_row 4 (a_call true (exports_of c.args.c.now) (imports_of c.args.c.now))) c.args.bytes.now c.args.at.now c.read_letters.new.at c.read_calls.new.at (seen_as (λ calls. recorded_calls calls.items) c.read_calls.result) c.in-Ok.ensures.reads c.read_calls.ensures.reads }

pub returns-in-Err : goal.returns-in-Err
returns-in-Err c = record {
  reads = named_stops (λ (x : Unit {0} × List RecordedCall). x.1)
      (also (exactly letters) (counted_row 4 (a_call true (exports_of c.args.c.now) (imports_of c.args.c.now)))) c.args.bytes.now c.args.at.now c.read_letters.new.at c.read_letters.new.at c.in-Err.error
      (recording_first_stops (exactly letters) (counted_row 4 (a_call true (exports_of c.args.c.now) (imports_of c.args.c.now))) c.args.bytes.now c.args.at.now c.read_letters.new.at c.read_letters.new.at c.read_letters.new.at c.in-Err.error c.in-Err.ensures.reads);
}
