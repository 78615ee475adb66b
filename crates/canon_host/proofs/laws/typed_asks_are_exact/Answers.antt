use Rattle.canon_host.proofs.TypedAsked.{asked_enough, only_asked}
use Rattle.canon_host.proofs.laws.typed_asks_are_exact.Goals as goal

pub returns-clause-only : goal.returns-clause-only
returns-clause-only g c told =
    only_asked _ _ g.P.ComponentType.fits g.P.Lift.reading g.P.ComponentType.lifts g.P.ComponentType.cost g.met.P.Lift.faulted g.met.P.Lift.priced (g.met.P.Lift.told told) g.met.P.Lift.taken

pub returns-clause-enough : goal.returns-clause-enough
returns-clause-enough g c told =
    asked_enough _ _ g.P.ComponentType.fits g.P.Lift.reading g.P.ComponentType.lifts g.P.ComponentType.cost g.met.P.Lift.faulted g.met.P.Lift.priced (g.met.P.Lift.told told) g.met.P.Lift.taken
