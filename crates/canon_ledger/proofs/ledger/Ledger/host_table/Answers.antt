use Rattle.std.proofs.Common.{length, ap, arith}
use Rattle.canon_ledger.specs.Ledger.{LedgerState}
use Rattle.canon_ledger.proofs.ledger.Ledger.host_table.Goals as goal

pub returns-clause-within : goal.returns-clause-within
returns-clause-within c = let v = ap (λ (l : LedgerState). length l.handles.tables) c.self.view_is in let h = c.self.invariant.tables in omega arith
