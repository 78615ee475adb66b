use Rattle.canon_model.proofs.Fields.{fields_determine}
use Rattle.canon_model.proofs.laws.fields_determine.Goals as goal

pub returns : goal.returns
returns c = fields_determine
