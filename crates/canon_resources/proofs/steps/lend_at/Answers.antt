use Rattle.std.proofs.Common.{Some}
use Rattle.canon_ledger.proofs.HoldsLemmas.{same_lift_borrow}
use Rattle.canon_resources.proofs.steps.lend_at.Goals as goal

pub returns-in-Some-clause-places : goal.returns-in-Some-clause-places
returns-in-Some-clause-places c = same_lift_borrow c.args.ledger.now (Some c.in-Some.number) c.args.table c.args.index c.lift_borrow_at.result c.lift_borrow_at.new.self c.lift_borrow_at.ensures
