use Rattle.canon_text.proofs.Kept.{compact_lengths}
use Rattle.canon_text.proofs.laws.compact_lengths.Goals as goal

pub returns : goal.returns
returns c = compact_lengths
