use Rattle.canon_func.proofs.TypedExact.{only_represented, represented_enough}
use Rattle.canon_func.proofs.laws.typed_results_are_exact.Goals as goal

pub returns-clause-only : goal.returns-clause-only
returns-clause-only g c told = only_represented g.R.ComponentType.fits g.R.Lift.reading g.R.ComponentType.cost g.met.R.Lift.faulted g.met.R.Lift.priced g.R.ComponentType.lifts (g.met.R.Lift.told told) g.met.R.Lift.taken

pub returns-clause-enough : goal.returns-clause-enough
returns-clause-enough g c = represented_enough g.R.ComponentType.fits g.R.Lift.reading g.R.ComponentType.cost g.met.R.Lift.priced g.met.R.Lift.faulted
