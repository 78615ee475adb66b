use Rattle.canon_text.proofs.Lawful.{one_fault}
use Rattle.canon_text.proofs.laws.one_fault.Goals as goal

pub returns : goal.returns
returns c = one_fault
