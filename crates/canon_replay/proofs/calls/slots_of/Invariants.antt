use Rattle.std.proofs.Common.{◌≡◌, length}
use Rattle.canon_replay.proofs.calls.slots_of.Given as goal

abbrev pub invariant-loop : goal.invariant-loop
invariant-loop l = record { count : length l.results.items ≡ l.counter }
