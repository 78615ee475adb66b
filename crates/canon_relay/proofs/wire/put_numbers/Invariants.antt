use Rattle.std.proofs.Common.{◌≡◌, ◌++◌, drop}
use Rattle.canon_relay.specs.Wire as spec
use Rattle.canon_relay.proofs.wire.put_numbers.Given as goal

abbrev pub invariant-loop-number : goal.invariant-loop-number
invariant-loop-number l = record { bytes : l.to.items ++ spec.numbers_bytes (drop l.number-index l.numbers) ≡ l.fn.to.items ++ spec.numbers_bytes l.numbers }
