use Rattle.std.proofs.Common.{◌≡◌, ◌++◌, ◌-◌}
use Rattle.canon_relay.specs.Wire as spec
use Rattle.canon_relay.proofs.reply.words_of.Given as goal

abbrev pub invariant-loop-i : goal.invariant-loop-i
invariant-loop-i l = record { words : l.words ++ spec.numbers_from (l.count - l.i) l.i l.reply ≡ spec.reply_words l.reply }
