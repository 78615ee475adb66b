use Rattle.std.proofs.Common.{◌≡◌, ◌++◌, ◌+◌, ◌*◌, length, vec_len}
use Rattle.canon_text.specs.Decoding.{units_in}
use Rattle.canon_conversions.proofs.lines.units_of.Given as goal

-- the units so far and those that are left are all of them
abbrev pub invariant-loop-rest : goal.invariant-loop-rest
invariant-loop-rest l = (l.units.items ++ units_in l.rest ≡ units_in l.bytes) × (2 * vec_len l.units + length l.rest ≡ length l.bytes)

abbrev pub decreases-loop-rest : goal.decreases-loop-rest
decreases-loop-rest l = length l.rest
