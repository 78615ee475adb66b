use Rattle.std.proofs.Common.{drop}
use Rattle.std.specs.Prelude.{◌↔◌}
use Rattle.canon_func.specs.Runs.{IsOneRun}
use Rattle.canon_recording.specs.Stages.{IsLeftOfRun}
use Rattle.canon_recording.proofs.runs.is_run.Given as goal

-- they are a run exactly where the events that are left are what is left of one
abbrev pub invariant-loop-event : goal.invariant-loop-event
invariant-loop-event l = record {
  same : IsOneRun l.func l.post l.events ↔ IsLeftOfRun l.func l.post l.stage l.returned (drop l.event-index l.events);
}
