use Rattle.canon_ledger.proofs.HostLemmas.{accepted_was_given}
use Rattle.canon_ledger.proofs.laws.accepted_indexes_were_given.Goals as goal

pub returns : goal.returns
returns c = accepted_was_given
