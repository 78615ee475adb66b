use Rattle.canon_ledger.proofs.HoldsLemmas.{same_lift_own}
use Rattle.canon_ledger.proofs.tables.ResourceTables.resource_lift_own.Goals as goal

pub returns-clause-places : goal.returns-clause-places
returns-clause-places c = same_lift_own c.args.self.now.ledger.now c.table_of_index-table.result c.args.index c.lift_own_at.result c.lift_own_at.new.self c.lift_own_at.ensures
