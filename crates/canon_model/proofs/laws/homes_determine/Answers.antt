use Rattle.canon_model.proofs.Determined.{homes_determine}
use Rattle.canon_model.proofs.laws.homes_determine.Goals as goal

pub returns : goal.returns
returns c = homes_determine
