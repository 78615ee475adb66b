use Rattle.canon_func.proofs.AskedExactly.{form_exact}
use Rattle.canon_func.proofs.laws.asks_are_exact.Goals as goal

pub returns : goal.returns
returns g c n = form_exact ((g.I.Imports.gives (g.I.Imports.plan c.args._imports.now)).form n) (g.met.I.Imports.lawful (g.I.Imports.plan c.args._imports.now) n)
