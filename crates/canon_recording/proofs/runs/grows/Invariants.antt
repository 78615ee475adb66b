use Rattle.std.proofs.Common.{drop, ◌^◌}
use Rattle.std.specs.Prelude.{◌↔◌}
use Rattle.canon_func.specs.Runs.{Grows}
use Rattle.canon_recording.proofs.runs.grows.Given as goal

-- memory grows exactly where it does by the events that are left
abbrev pub invariant-loop-event : goal.invariant-loop-event
invariant-loop-event l = record {
  same : Grows l.len l.events (2 ^ 32) ↔ Grows l.last (drop l.event-index l.events) (2 ^ 32);
}
