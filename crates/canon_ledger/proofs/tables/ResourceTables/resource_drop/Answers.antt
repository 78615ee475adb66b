use Rattle.canon_ledger.proofs.HoldsLemmas.{same_drop}
use Rattle.canon_ledger.proofs.tables.ResourceTables.resource_drop.Goals as goal

pub returns-clause-places : goal.returns-clause-places
returns-clause-places c = same_drop c.args.self.now.ledger.now c.table_of_index-table.result c.args.index c.drop_at.result c.drop_at.new.self c.drop_at.ensures
