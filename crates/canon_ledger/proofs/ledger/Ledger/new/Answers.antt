use Rattle.canon_ledger.proofs.HoldsLemmas.{new_holds}
use Rattle.canon_ledger.proofs.ledger.Ledger.new.Goals as goal

pub invariant_of-result : goal.invariant_of-result
invariant_of-result c = new_holds c.in_ok-tables.tables.items c.new.result c.new-2.result.items c.args.host.indexes c.args.handle_limit c.in_ok-tables.ensures c.new.ensures c.new-2.ensures.items c.requires.fresh
