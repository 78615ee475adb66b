use Rattle.std.proofs.Common.{Err, Ok, arith, refl}
use Rattle.canon_value_parts.proofs.rebuilt_case.result_value.Goals as goal

pub returns-then-tag-eq0-clause-ok : goal.returns-then-tag-eq0-clause-ok
returns-then-tag-eq0-clause-ok c = λ cs two lt. (Ok c.in-Ok.payload, refl, c.in-Ok.ensures.ok, c.if-tag-eq0.true, omega (arith, two, lt))

pub returns-else-tag-eq0-clause-ok : goal.returns-else-tag-eq0-clause-ok
returns-else-tag-eq0-clause-ok c = λ cs two lt. (Err c.in-Ok.payload, refl, c.in-Ok.ensures.ok, omega (arith, c.if-tag-eq0.false, lt), omega (arith, two, lt))
