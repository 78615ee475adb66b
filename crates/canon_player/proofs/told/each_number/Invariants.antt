use Rattle.std.proofs.Common.{◌≡◌, map, take}
use Rattle.canon_literals.specs.Literals.{literals_view, u32}
use Rattle.canon_player.proofs.told.each_number.Given as goal

-- the numbers so far
abbrev pub invariant-loop-n : goal.invariant-loop-n
invariant-loop-n l = literals_view l.values.items ≡ map u32 (take l.n-index l.numbers)
