use Rattle.std.proofs.Common.{length, ◌/◌, ◌-◌}
use Rattle.canon_model.specs.Text.{in_utf16}
use Rattle.canon_text.specs.Decoding.{units_in}
use Rattle.canon_text.proofs.Decoded.{Decoding}
use Rattle.canon_text.proofs.decode.decode_utf16.Given as goal

abbrev pub invariant-loop-read : goal.invariant-loop-read
invariant-loop-read l = Decoding in_utf16 (units_in l.src) l.text.items l.read

abbrev pub decreases-loop-read : goal.decreases-loop-read
decreases-loop-read l = length l.src / 2 - l.read
