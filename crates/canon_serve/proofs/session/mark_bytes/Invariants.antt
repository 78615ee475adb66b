use Rattle.std.proofs.Common.{drop, map, ◌++◌, ◌≡◌}
use Rattle.canon_serve.specs.Carries.{mark_byte}
use Rattle.canon_serve.proofs.session.mark_bytes.Given as goal

abbrev pub invariant-loop-mark : goal.invariant-loop-mark
invariant-loop-mark l = record { bytes : l.bytes.items ++ map mark_byte (drop l.mark-index l.marks) ≡ map mark_byte l.marks }
