use Rattle.canon_host.proofs.TypedAnswers.{answers_given, served_answered}
use Rattle.canon_host.proofs.laws.typed_answers_are_represented.Goals as goal

pub returns-clause-answered : goal.returns-clause-answered
returns-clause-answered g c = served_answered g.F.Fn c.args._func.now g.P.Lift.reading g.R.ComponentType.walks g.R.Lower.gives g.G.Guest.seen g.G.Guest.moves g.met.P.Lift.taken

pub returns-clause-given : goal.returns-clause-given
returns-clause-given g c = answers_given _ _ g.R.ComponentType.fits g.R.ComponentType.walks g.R.Lower.gives g.met.R.Lower.given
