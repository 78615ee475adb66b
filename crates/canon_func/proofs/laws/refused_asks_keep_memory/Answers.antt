use Rattle.canon_func.proofs.AskStands.{refused_ask_stands}
use Rattle.canon_func.proofs.laws.refused_asks_keep_memory.Goals as goal

pub returns : goal.returns
returns g c = refused_ask_stands (g.I.Imports.gives (g.I.Imports.plan c.args._imports.now))
