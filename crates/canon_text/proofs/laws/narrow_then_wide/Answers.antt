use Rattle.canon_text.proofs.Kept.{narrow_then_wide}
use Rattle.canon_text.proofs.laws.narrow_then_wide.Goals as goal

pub returns : goal.returns
returns c = narrow_then_wide
