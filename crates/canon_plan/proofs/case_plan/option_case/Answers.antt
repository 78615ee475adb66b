use Rattle.canon_plan.proofs.CasePlans.{some_told}
use Rattle.canon_plan.proofs.case_plan.option_case.Goals as goal

pub returns-in-1 : goal.returns-in-1
returns-in-1 c = some_told c.args.types.now c.args.i c.option.result.now.ty c.args.tag c.unnamed-in-1.result c.option.ensures.entry c.in-1.is c.unnamed-in-1.ensures.payload c.unnamed-in-1.ensures.free
