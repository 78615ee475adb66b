use Rattle.std.proofs.Common.{length, ◌-◌}
use Rattle.canon_model.specs.Text.{in_utf16}
use Rattle.canon_text.proofs.Passing.{Midway}
use Rattle.canon_text.proofs.utf16.utf16_to_utf8.Given as goal

abbrev pub invariant-loop-read : goal.invariant-loop-read
invariant-loop-read l = Midway in_utf16 l.first_pass l.src l.initial.dst l.dst l.read l.written

abbrev pub decreases-loop-read : goal.decreases-loop-read
decreases-loop-read l = length l.src - l.read
