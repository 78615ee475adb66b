use Rattle.canon_func.proofs.Alike.{asks_alike, starts_alike}
use Rattle.canon_func.specs.Call.{dynamic}
use Rattle.canon_func.proofs.laws.starts_are_alike.Goals as goal

pub returns-clause-dynamic : goal.returns-clause-dynamic
returns-clause-dynamic c callee params others = starts_alike callee (dynamic callee params) (dynamic callee others)

pub returns-clause-asked : goal.returns-clause-asked
returns-clause-asked c = asks_alike
