use Rattle.canon_recording.proofs.Below.{AllBelow}
use Rattle.canon_recording.specs.Recordable.{IsFlatImport}
use Rattle.canon_recording.proofs.allowed.imports_are_flat.Given as goal

-- the first k are flat
abbrev pub invariant-loop-k : goal.invariant-loop-k
invariant-loop-k l = AllBelow (IsFlatImport l.c) l.k
