use Rattle.canon_ledger.proofs.AccessLemmas.{access_accepts}
use Rattle.canon_ledger.proofs.laws.accesses_accept.Goals as goal

pub returns : goal.returns
returns c = access_accepts
