use Rattle.canon_func.proofs.Partways.{refused_is_partway}
use Rattle.canon_func.proofs.Throughs.{call_is_through}
use Rattle.canon_func.proofs.laws.call_is_steps.Goals as goal

pub returns-clause-whole : goal.returns-clause-whole
returns-clause-whole g c = call_is_through (g.I.Imports.gives (g.I.Imports.plan c.args._imports.now)) (g.met.I.Imports.lawful (g.I.Imports.plan c.args._imports.now))

pub returns-clause-part : goal.returns-clause-part
returns-clause-part g c = refused_is_partway (g.I.Imports.gives (g.I.Imports.plan c.args._imports.now)) (g.met.I.Imports.lawful (g.I.Imports.plan c.args._imports.now))
