use Rattle.std.proofs.Common.{◌≡◌, ◌++◌, drop}
use Rattle.canon_relay.specs.Wire as spec
use Rattle.canon_relay.proofs.wire.put_words.Given as goal

abbrev pub invariant-loop-word : goal.invariant-loop-word
invariant-loop-word l = record { bytes : l.to.items ++ spec.numbers_bytes (drop l.word-index l.words) ≡ l.fn.to.items ++ spec.numbers_bytes l.words }
