use Rattle.std.proofs.Common.{refl, ◌+◌}
use Rattle.std.specs.List.{slice_range}
use Rattle.canon_memory.proofs.Watch.{parts_tested}
use Rattle.canon_memory.proofs.law.are_same.Goals as goal

pub returns-then-are_inside-2 : goal.returns-then-are_inside-2
returns-then-are_inside-2 c =
    let a = c.args in
    parts_tested a.before.now a.after.now (slice_range a.before.now a.at (a.at + a.count)) (slice_range a.after.now a.to (a.to + a.count)) a.at a.to a.count c.eq.result
    (c.are_inside.ensures.0 c.if-are_inside.true) (c.are_inside-then-are_inside.ensures.0 c.if-are_inside-2.true) refl refl c.eq.ensures
