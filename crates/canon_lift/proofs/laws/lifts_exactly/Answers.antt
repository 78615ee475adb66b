use Rattle.canon_lift_parts.proofs.Exactness.{lifts_exactly_there}
use Rattle.canon_lift.proofs.laws.lifts_exactly.Goals as goal

pub returns : goal.returns
returns g c = λ is. lifts_exactly_there g.met.T.Lift.faulted g.met.T.Lift.priced (g.met.T.Lift.told is) g.met.T.Lift.taken
