use Rattle.std.proofs.Common.{drop, ◌≡◌}
use Rattle.canon_func.specs.Runs.{last_len}
use Rattle.canon_recording.proofs.runs.len_after_all.Given as goal

-- the events that are left end in the same length
abbrev pub invariant-loop-event : goal.invariant-loop-event
invariant-loop-event l = record {
  same : last_len l.last (drop l.event-index l.events) ≡ last_len l.len l.events;
}
