use Rattle.std.proofs.Common.{◌≡◌, ◌≤◌, drop, false, length}
use Rattle.canon_memory.specs.Realloc.{block}
use Rattle.canon_scripted.specs.Allocator.{is_live}
use Rattle.canon_scripted.proofs.allocator.Allocator.find.Given as goal

abbrev pub invariant-loop-i : goal.invariant-loop-i
invariant-loop-i l = (l.i ≤ length l.self.live) × (is_live (drop l.i l.self.live) (block l.start l.size) ≡ false)

abbrev pub decreases-loop-i : goal.decreases-loop-i
decreases-loop-i l = l.i
