use Rattle.canon_text.proofs.Lawful.{pass_reads}
use Rattle.canon_text.proofs.laws.pass_reads.Goals as goal

pub returns : goal.returns
returns c = pass_reads
