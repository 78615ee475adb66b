use Rattle.std.proofs.Common.{drop, ◌+◌, ◌≡◌, ◌≤◌}
use Rattle.canon_replay_cli.specs.Taken.{reallocs_in}
use Rattle.canon_replay_cli.proofs.taking.reallocs_in.Given as goal

abbrev pub invariant-loop-event : goal.invariant-loop-event
invariant-loop-event l = record { left : l.count + reallocs_in (drop l.event-index l.events) ≡ reallocs_in l.events; few : l.count ≤ l.event-index }
