use Rattle.canon_recording_parts.specs.Events.{an_event}
use Rattle.canon_recording_parts.specs.Format.{in_a_row}
use Rattle.canon_recording_parts.specs.Read.{IsReadSoFar}
use Rattle.canon_recording_parts.proofs.read.read_event_row.Given as goal

-- so many were read
abbrev pub invariant-loop : goal.invariant-loop
invariant-loop l = record {
  read : IsReadSoFar (in_a_row (an_event l.imports) l.counter) l.bytes l.fn.at l.at l.events;
}
