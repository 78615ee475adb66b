use Rattle.canon_ledger.proofs.HoldsLemmas.{same_drop}
use Rattle.canon_resources.proofs.steps.drop_at.Goals as goal

pub returns-clause-places : goal.returns-clause-places
returns-clause-places c = same_drop c.args.ledger.now c.args.table c.args.index c.drop_at.result c.drop_at.new.self c.drop_at.ensures
