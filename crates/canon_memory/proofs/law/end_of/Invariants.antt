use Rattle.std.proofs.Common.{◌≤◌}
use Rattle.std.specs.List.{AllWithin}
use Rattle.canon_memory.specs.Watch.{BlockEndsBy}
use Rattle.canon_memory.proofs.law.end_of.Given as goal

abbrev pub invariant-loop-b : goal.invariant-loop-b
invariant-loop-b l = (l.least ≤ l.end) × AllWithin (BlockEndsBy l.end) l.live 0 l.b-index
