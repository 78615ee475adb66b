use Rattle.std.proofs.Common.{Some}
use Rattle.canon_ledger.proofs.HoldsLemmas.{same_exit}
use Rattle.canon_resources.proofs.steps.exit_scope.Goals as goal

pub returns-in-Some-clause-places : goal.returns-in-Some-clause-places
returns-in-Some-clause-places c = same_exit c.args.ledger.now (Some c.in-Some.number) c.exit.result c.exit.new.self c.exit.ensures
