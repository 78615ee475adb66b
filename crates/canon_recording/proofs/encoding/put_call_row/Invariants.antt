use Rattle.std.proofs.Common.{false, map, take}
use Rattle.canon_recording_parts.specs.Format.{in_a_row}
use Rattle.canon_recording_parts.specs.Written.{IsAdded}
use Rattle.canon_recording.specs.Recordings.{a_call, exports_of, imports_of, recorded_call}
use Rattle.canon_recording.proofs.encoding.put_call_row.Given as goal

-- so many were written
abbrev pub invariant-loop-call : goal.invariant-loop-call
invariant-loop-call l = record {
  added : IsAdded (in_a_row (a_call false (exports_of l.c) (imports_of l.c)) l.call-index) (take l.call-index (map recorded_call l.calls)) l.fn.bytes.items l.bytes.items;
}
