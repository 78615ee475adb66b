use Rattle.std.proofs.Common.{length, ◌≡◌}
use Rattle.std.specs.Vec.Iter.{into_iter_items, into_iter_len}
use Rattle.canon_replay.proofs.Looping.{AreReplayed}
use Rattle.canon_replay.proofs.replaying.replay_calls.Given as goal

-- those so far were replayed
abbrev pub invariant-loop-call : goal.invariant-loop-call
invariant-loop-call l = AreReplayed l.fn.store l.fn.calls.items l.k l.store (into_iter_items l.call-iterator) × (into_iter_len l.call-iterator ≡ length (into_iter_items l.call-iterator))
