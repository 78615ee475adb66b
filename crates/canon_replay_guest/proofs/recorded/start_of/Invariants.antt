use Rattle.std.proofs.Common.{◌≡◌, drop}
use Rattle.canon_replay_guest.specs.Replaying.{start_length}
use Rattle.canon_replay_guest.proofs.recorded.start_of.Given as goal

abbrev pub invariant-loop-event : goal.invariant-loop-event
invariant-loop-event l = start_length l.events l.len ≡ start_length (drop l.event-index l.events) l.len
