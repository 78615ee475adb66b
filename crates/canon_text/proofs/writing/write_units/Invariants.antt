use Rattle.std.proofs.Common.{flat_map, take, ◌≡◌}
use Rattle.canon_model.specs.Text.{unit_bytes}
use Rattle.canon_text.specs.Writing.{placed}
use Rattle.canon_text.proofs.writing.write_units.Given as goal

abbrev pub invariant-loop-i : goal.invariant-loop-i
invariant-loop-i l = l.dst ≡ placed l.fn.dst l.at (flat_map unit_bytes (take l.i l.units))
