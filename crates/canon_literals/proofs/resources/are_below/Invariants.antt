use Rattle.std.proofs.Common.{◌≡◌, drop}
use Rattle.canon_literals.specs.Literals.{all_known}
use Rattle.canon_literals.proofs.resources.are_below.Given as goal

-- those before are known
abbrev pub invariant-loop-x : goal.invariant-loop-x
invariant-loop-x l = all_known l.count (drop l.x-index l.found) ≡ all_known l.count l.found
