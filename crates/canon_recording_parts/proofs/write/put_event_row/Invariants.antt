use Rattle.std.proofs.Common.{take}
use Rattle.canon_recording_parts.specs.Events.{an_event}
use Rattle.canon_recording_parts.specs.Format.{in_a_row}
use Rattle.canon_recording_parts.specs.Written.{IsAdded}
use Rattle.canon_recording_parts.proofs.write.put_event_row.Given as goal

-- so many were written
abbrev pub invariant-loop-event : goal.invariant-loop-event
invariant-loop-event l = record {
  added : IsAdded (in_a_row (an_event l.imports) l.event-index) (take l.event-index l.events) l.fn.bytes.items l.bytes.items;
}
