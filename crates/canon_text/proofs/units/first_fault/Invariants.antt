use Rattle.std.proofs.Common.{length, ◌-◌}
use Rattle.canon_model.specs.Text.{in_utf16}
use Rattle.canon_text.proofs.Reading.{ReadTo}
use Rattle.canon_text.proofs.units.first_fault.Given as goal

abbrev pub invariant-loop-at : goal.invariant-loop-at
invariant-loop-at l = ReadTo in_utf16 l.src l.at

abbrev pub decreases-loop-at : goal.decreases-loop-at
decreases-loop-at l = length l.src - l.at
