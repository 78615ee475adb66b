use Rattle.canon_resources.proofs.Lifts.{lifts_take}
use Rattle.canon_resources.proofs.laws.lifts_are_takes.Goals as goal

pub returns : goal.returns
returns c = lifts_take
