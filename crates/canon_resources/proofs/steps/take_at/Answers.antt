use Rattle.canon_ledger.proofs.HoldsLemmas.{same_lift_own}
use Rattle.canon_resources.proofs.steps.take_at.Goals as goal

pub returns-clause-places : goal.returns-clause-places
returns-clause-places c = same_lift_own c.args.ledger.now c.args.table c.args.index c.lift_own_at.result c.lift_own_at.new.self c.lift_own_at.ensures
