use Rattle.std.proofs.Common.{◌≡◌, ◌++◌, drop}
use Rattle.canon_relay.specs.Wire.{numbers_bytes}
use Rattle.canon_events.proofs.bytes.put_words.Given as goal

abbrev pub invariant-loop-word : goal.invariant-loop-word
invariant-loop-word l = record { bytes : l.to.items ++ numbers_bytes (drop l.word-index l.words) ≡ l.fn.to.items ++ numbers_bytes l.words }
