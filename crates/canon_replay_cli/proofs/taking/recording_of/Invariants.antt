use Rattle.std.proofs.Common.{length, ◌≡◌}
use Rattle.std.specs.Vec.Iter.{into_iter_items, into_iter_len}
use Rattle.canon_replay_cli.proofs.TakingCalls.{AreCallsTaken}
use Rattle.canon_replay_cli.proofs.taking.recording_of.Given as goal

-- those so far were taken
abbrev pub invariant-loop-item : goal.invariant-loop-item
invariant-loop-item l = AreCallsTaken l.fn.items.items l.fn.records.items l.calls.items (into_iter_items l.item-iterator) (into_iter_items l.records)
    × (into_iter_len l.item-iterator ≡ length (into_iter_items l.item-iterator)) × (into_iter_len l.records ≡ length (into_iter_items l.records))
