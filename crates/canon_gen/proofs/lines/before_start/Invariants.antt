use Rattle.std.proofs.Common.{◌≡◌, ◌++◌, drop, take}
use Rattle.canon_gen.specs.Lines as spec
use Rattle.canon_gen.proofs.lines.before_start.Given as goal

-- none of the events so far is a start
abbrev pub invariant-loop-i : goal.invariant-loop-i
invariant-loop-i l = take l.i l.events ++ spec.before_start (drop l.i l.events) ≡ spec.before_start l.events
