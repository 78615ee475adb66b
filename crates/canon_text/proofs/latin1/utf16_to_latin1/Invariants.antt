use Rattle.std.proofs.Common.{length, ◌-◌}
use Rattle.canon_model.specs.Text.{in_utf16}
use Rattle.canon_text.proofs.Narrowing.{Narrowing}
use Rattle.canon_text.proofs.latin1.utf16_to_latin1.Given as goal

abbrev pub invariant-loop-read : goal.invariant-loop-read
invariant-loop-read l = Narrowing in_utf16 l.src l.initial.dst l.dst l.read l.read

abbrev pub decreases-loop-read : goal.decreases-loop-read
decreases-loop-read l = length l.src - l.read
