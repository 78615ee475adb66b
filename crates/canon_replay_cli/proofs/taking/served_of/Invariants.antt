use Rattle.std.proofs.Common.{length, map, ◌++◌, ◌≡◌}
use Rattle.std.specs.Vec.Iter.{into_iter_items, into_iter_len}
use Rattle.canon_recording.specs.Recordings.{served_asks}
use Rattle.canon_replay_cli.specs.Taken.{asked_of_served}
use Rattle.canon_replay_cli.proofs.taking.served_of.Given as goal

-- those so far, and those that are left
abbrev pub invariant-loop-entry : goal.invariant-loop-entry
invariant-loop-entry l = (served_asks l.asks.items ++ map asked_of_served (into_iter_items l.entry-iterator) ≡ map asked_of_served l.fn.served.items)
    × (into_iter_len l.entry-iterator ≡ length (into_iter_items l.entry-iterator))
