use Rattle.std.proofs.Common.{◌+◌, ◌/◌, ◌%◌, ◌<◌, ◌≡◌, ◌≤◌, ℕ}
use Rattle.std.specs.Prelude.{slice_index}
use Rattle.std.specs.Int.{bit_at}
use Rattle.canon_image_parts.proofs.read.has_spare.Given as goal

-- the bits from the first one up to this are 0
abbrev pub invariant-loop-k : goal.invariant-loop-k
invariant-loop-k l = record {
  none : (j : ℕ) → l.first ≤ j → j < l.k → bit_at (slice_index l.bytes (l.at + j / 8)) (j % 8) ≡ 0;
}
