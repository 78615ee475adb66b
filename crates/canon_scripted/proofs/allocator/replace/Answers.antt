use Rattle.std.proofs.Common.{arith}
use Rattle.canon_scripted.proofs.Rows.{set_listed}
use Rattle.canon_scripted.proofs.allocator.replace.Goals as goal

pub returns-else-size-eq0-clause-replaced : goal.returns-else-size-eq0-clause-replaced
returns-else-size-eq0-clause-replaced c = set_listed c.args.live.now.items c.args.index c.args.start c.args.size (omega (arith, c.requires, c.args.live.now.ok.0)) (omega (arith, c.if-size-eq0.false))
