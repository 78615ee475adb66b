use Rattle.std.proofs.Common.{flat_map, length, take, ◌-◌, ◌≡◌, ◌≤◌}
use Rattle.canon_model.specs.Text.{unit_bytes}
use Rattle.canon_text.specs.Writing.{placed}
use Rattle.canon_text.proofs.unit_blocks.write_unit_blocks.Given as goal

abbrev pub invariant-loop-count : goal.invariant-loop-count
invariant-loop-count l = (l.count ≤ length l.units) × (l.dst ≡ placed l.initial.dst l.at (flat_map unit_bytes (take l.count l.units)))

abbrev pub decreases-loop-count : goal.decreases-loop-count
decreases-loop-count l = length l.units - l.count
