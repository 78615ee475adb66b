use Rattle.canon_resources.proofs.Leaves.{leaves_same}
use Rattle.canon_resources.proofs.laws.leaves_are_determined.Goals as goal

pub returns : goal.returns
returns c = leaves_same
