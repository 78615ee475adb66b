use Rattle.std.proofs.Common.{true}
use Rattle.canon_recording_parts.specs.Format.{in_a_row}
use Rattle.canon_recording_parts.specs.Read.{IsReadSoFar}
use Rattle.canon_recording.specs.Recordings.{a_call, exports_of, imports_of, recorded_calls}
use Rattle.canon_recording.proofs.decoding.read_call_row.Given as goal

-- so many were read
abbrev pub invariant-loop : goal.invariant-loop
invariant-loop l = record {
  read : IsReadSoFar (in_a_row (a_call true (exports_of l.c) (imports_of l.c)) l.counter) l.bytes l.fn.at l.at (recorded_calls l.calls.items);
}
