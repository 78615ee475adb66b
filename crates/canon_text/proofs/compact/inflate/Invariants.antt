use Rattle.std.proofs.Common.{get_or, ℕ, ◌<◌, ◌≡◌}
use Rattle.canon_text.specs.Writing.{inflating}
use Rattle.canon_text.proofs.compact.inflate.Given as goal

abbrev pub invariant-loop-i : goal.invariant-loop-i
invariant-loop-i l = record { stands : l.dst ≡ inflating l.fn.dst l.count l.i; bytes : (k : ℕ) → get_or l.fn.dst k 0 < 256 }
