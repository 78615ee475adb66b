use Rattle.std.proofs.Common.{false, map, take}
use Rattle.canon_recording_parts.specs.Format.{in_a_row}
use Rattle.canon_recording_parts.specs.Written.{IsAdded}
use Rattle.canon_recording.specs.Recordings.{an_ask, exports_of, imports_of, served_ask}
use Rattle.canon_recording.proofs.encoding.put_ask_row.Given as goal

-- so many were written
abbrev pub invariant-loop-ask : goal.invariant-loop-ask
invariant-loop-ask l = record {
  added : IsAdded (in_a_row (an_ask false (exports_of l.c) (imports_of l.c)) l.ask-index) (take l.ask-index (map served_ask l.asks)) l.fn.bytes.items l.bytes.items;
}
