use Rattle.canon_text.proofs.Lawful.{pass_refuses}
use Rattle.canon_text.proofs.laws.pass_refuses.Goals as goal

pub returns : goal.returns
returns c = pass_refuses
