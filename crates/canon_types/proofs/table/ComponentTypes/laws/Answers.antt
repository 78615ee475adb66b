use Rattle.std.proofs.Common.{subst}
use Rattle.canon_types.specs.Valid.{IsValidTable}
use Rattle.canon_types.proofs.Kept.{valid}
use Rattle.canon_types.proofs.table.ComponentTypes.laws.Goals as goal

pub returns : goal.returns
returns c = subst IsValidTable c.self.view_is (valid c.self.inside c.self.invariant)
