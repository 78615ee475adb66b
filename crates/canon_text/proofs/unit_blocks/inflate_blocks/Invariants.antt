use Rattle.std.proofs.Common.{◌≡◌, ◌≤◌}
use Rattle.canon_text.specs.Runs.{AllBelow}
use Rattle.canon_text.specs.Writing.{inflating}
use Rattle.canon_text.proofs.unit_blocks.inflate_blocks.Given as goal

abbrev pub invariant-loop-left : goal.invariant-loop-left
invariant-loop-left l = record { small : l.left ≤ l.count; bytes : AllBelow 256 l.initial.dst; stands : l.dst ≡ inflating l.initial.dst l.count l.left }

abbrev pub decreases-loop-left : goal.decreases-loop-left
decreases-loop-left l = l.left
