use Rattle.std.proofs.Common.{take, ◌≡◌}
use Rattle.canon_text.specs.Writing.{over}
use Rattle.canon_text.proofs.latin1.latin1_to_utf16.Given as goal

abbrev pub invariant-loop-i : goal.invariant-loop-i
invariant-loop-i l = l.dst ≡ over l.initial.dst (take l.i l.src)
