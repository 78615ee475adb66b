use Rattle.canon_host.proofs.TypedSteps.{refused_partway, served_through}
use Rattle.canon_host.proofs.laws.typed_ask_is_steps.Goals as goal

pub returns-clause-whole : goal.returns-clause-whole
returns-clause-whole g c = served_through g.F.Fn c.args._func.now g.P.Lift.reading g.R.ComponentType.walks g.R.Lower.gives g.G.Guest.seen g.G.Guest.moves g.met.P.Lift.taken

pub returns-clause-part : goal.returns-clause-part
returns-clause-part g c = refused_partway g.F.Fn c.args._func.now g.P.Lift.reading g.R.ComponentType.walks g.R.Lower.gives g.G.Guest.seen g.G.Guest.moves g.met.P.Lift.taken
