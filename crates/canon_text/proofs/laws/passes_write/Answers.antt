use Rattle.canon_text.proofs.Lawful.{passes_write}
use Rattle.canon_text.proofs.laws.passes_write.Goals as goal

pub returns : goal.returns
returns c = passes_write
