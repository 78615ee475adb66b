use Rattle.canon_text.proofs.Kept.{scalars_kept}
use Rattle.canon_text.proofs.laws.scalars_kept.Goals as goal

pub returns : goal.returns
returns c = scalars_kept
