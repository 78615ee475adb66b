use Rattle.canon_val.proofs.Equality.{value_equality}
use Rattle.canon_val.proofs.laws.value_equality.Goals as goal

pub returns : goal.returns
returns c = value_equality
