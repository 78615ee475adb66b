use Rattle.std.proofs.Common.{◌≡◌, ◌++◌, drop}
use Rattle.canon_events.specs.Bytes.{events_bytes}
use Rattle.canon_events.proofs.bytes.put_events.Given as goal

abbrev pub invariant-loop-event : goal.invariant-loop-event
invariant-loop-event l = record { bytes : l.to.items ++ events_bytes (drop l.event-index l.events) ≡ l.fn.to.items ++ events_bytes l.events }
