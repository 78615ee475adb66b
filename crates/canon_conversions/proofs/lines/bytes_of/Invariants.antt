use Rattle.std.proofs.Common.{◌≡◌, ◌++◌, drop, flat_map}
use Rattle.canon_model.specs.Text.{unit_bytes}
use Rattle.canon_conversions.proofs.lines.bytes_of.Given as goal

-- the bytes so far and those of the units that are left are all of them
abbrev pub invariant-loop-unit : goal.invariant-loop-unit
invariant-loop-unit l = l.bytes.items ++ flat_map unit_bytes (drop l.unit-index l.units) ≡ flat_map unit_bytes l.units
