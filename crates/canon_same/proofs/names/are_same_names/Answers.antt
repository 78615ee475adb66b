use Rattle.canon_named.proofs.Texts.{names_decided}
use Rattle.canon_same.proofs.names.are_same_names.Goals as goal

pub returns : goal.returns
returns c = names_decided _ _ _ c.eq.ensures
