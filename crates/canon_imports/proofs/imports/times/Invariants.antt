use Rattle.std.proofs.Common.{◌≡◌, ◌≤◌, ◌+◌, drop}
use Rattle.canon_imports.specs.Imports.{entries_of, times}
use Rattle.canon_imports.proofs.imports.times.Given as goal

-- those so far and those that are left are all
abbrev pub invariant-loop-line : goal.invariant-loop-line
invariant-loop-line l = (l.count + times l.n (entries_of (drop l.line-index l.lines)) ≡ times l.n (entries_of l.lines)) × (l.count ≤ l.line-index)
