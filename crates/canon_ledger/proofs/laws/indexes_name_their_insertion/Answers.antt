use Rattle.canon_ledger.proofs.HostLemmas.{names_insertion}
use Rattle.canon_ledger.proofs.laws.indexes_name_their_insertion.Goals as goal

pub returns : goal.returns
returns c = names_insertion
