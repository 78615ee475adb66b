use Rattle.std.proofs.Common.{◌≡◌, ◌++◌, drop}
use Rattle.canon_serve.specs.Asks.{borrows_in}
use Rattle.canon_serve.proofs.asking.borrows_in.Given as goal

abbrev pub invariant-loop-resource : goal.invariant-loop-resource
invariant-loop-resource l = record { borrows : l.borrows.items ++ borrows_in (drop l.resource-index l.resources) ≡ borrows_in l.resources }
