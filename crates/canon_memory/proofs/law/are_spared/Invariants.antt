use Rattle.std.specs.List.{AllWithin}
use Rattle.canon_memory.specs.Watch.{IsSpared}
use Rattle.canon_memory.proofs.law.are_spared.Given as goal

abbrev pub invariant-loop-b : goal.invariant-loop-b
invariant-loop-b l = AllWithin (IsSpared l.before l.after l.old l.new) l.live 0 l.b-index
