use Rattle.std.proofs.Common.{◌≡◌, ◌-◌, ◌++◌}
use Rattle.canon_literals.specs.Literals.{literals_view}
use Rattle.canon_gen.specs.Records as spec
use Rattle.canon_gen.proofs.records.draw_list.Given as goal

-- the records so far and those that are left are all
abbrev pub invariant-loop-id : goal.invariant-loop-id
invariant-loop-id l = literals_view l.records.items ++ spec.records (l.n - l.id) l.id l.state ≡ spec.records l.fn.n 0 l.fn.n
