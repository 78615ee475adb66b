use Rattle.std.proofs.Common.{rules, length, ◌-◌}
use Rattle.canon_memory.proofs.Watch.{tidy_tested}
use Rattle.canon_memory.proofs.law.is_tidy.Goals as goal

pub returns-then-are_same : goal.returns-then-are_same
returns-then-are_same c =
    tidy_tested c.args.before.now c.args.after.now c.args.new c.min-start.result c.min-end.result (length c.args.before.now - c.min-end.result) c.are_same-then-are_same.result
    (search rules) (search rules) (search rules) (c.are_same.ensures.0 c.if-are_same.true) c.are_same-then-are_same.ensures
