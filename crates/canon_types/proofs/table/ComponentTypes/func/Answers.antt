use Rattle.std.proofs.Common.{subst, get_or, arith, ◌≡◌}
use Rattle.std.proofs.lemmas.Grind.{common_steps}
use Rattle.canon_types.specs.Valid.{HoldNoBorrow, IsValidTable}
use Rattle.canon_types.proofs.Kept.{valid}
use Rattle.canon_types.proofs.table.ComponentTypes.func.Goals as goal

pub returns-clause-results : goal.returns-clause-results
returns-clause-results c =
    let law = subst IsValidTable c.self.view_is (valid c.self.inside c.self.invariant) in
    let at : get_or c.args.self.now.funcs c.args.i c.index.result.now ≡ c.index.result.now = grind (arith, common_steps) in
    subst (HoldNoBorrow c.args.self.now) at (law.results c.args.i c.index.result.now c.requires)
