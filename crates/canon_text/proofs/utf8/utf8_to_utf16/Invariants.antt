use Rattle.std.proofs.Common.{length, ◌-◌}
use Rattle.canon_text.proofs.Advancing.{Advancing16}
use Rattle.canon_text.proofs.utf8.utf8_to_utf16.Given as goal

abbrev pub invariant-loop-read : goal.invariant-loop-read
invariant-loop-read l = Advancing16 l.src l.initial.dst l.dst l.read l.written

abbrev pub decreases-loop-read : goal.decreases-loop-read
decreases-loop-read l = length l.src - l.read
