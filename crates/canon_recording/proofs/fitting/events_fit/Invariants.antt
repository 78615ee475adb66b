use Rattle.canon_recording_parts.specs.Events.{IsWritten}
use Rattle.canon_recording.proofs.Answering.{RestOf}
use Rattle.canon_recording.proofs.fitting.events_fit.Given as goal

-- all are written where those that are left are
abbrev pub invariant-loop-event : goal.invariant-loop-event
invariant-loop-event l = RestOf (IsWritten l.imports) l.events l.event-index
