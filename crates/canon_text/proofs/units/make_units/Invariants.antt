use Rattle.std.proofs.Common.{length, take, ◌≡◌}
use Rattle.canon_text.specs.Decoding.{units_in}
use Rattle.canon_text.specs.Runs.{run}
use Rattle.canon_text.proofs.units.make_units.Given as goal

abbrev pub invariant-loop-i : goal.invariant-loop-i
invariant-loop-i l = (length l.units ≡ length l.initial.units) × (take l.i l.units ≡ run (units_in l.src) l.from l.i)
