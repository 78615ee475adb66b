use Rattle.std.proofs.Common.{length, ◌-◌}
use Rattle.canon_text.proofs.Advancing.{AdvancingBytes}
use Rattle.canon_text.proofs.compact.utf8_to_compact_utf16.Given as goal

abbrev pub invariant-loop-read : goal.invariant-loop-read
invariant-loop-read l = AdvancingBytes l.src l.initial.dst l.dst l.initial.end l.read l.end

abbrev pub decreases-loop-read : goal.decreases-loop-read
decreases-loop-read l = length l.src - l.read
