use Rattle.std.proofs.Common.{refl}
use Rattle.canon_value_parts.proofs.CaseViews.{one_at}
use Rattle.canon_value_parts.proofs.members.single_of.Goals as goal

pub returns : goal.returns
returns c = one_at c.args.types.now c.args.k _ c.requires.inside c.requires.known refl
