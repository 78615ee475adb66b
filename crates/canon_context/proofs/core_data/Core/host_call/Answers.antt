use Rattle.std.proofs.Common.{rules}
use Rattle.canon_context.proofs.Hosting.{gave_found}
use Rattle.canon_context.proofs.core_data.Core.host_call.Goals as goal

pub returns-clause-gave : goal.returns-clause-gave
returns-clause-gave g c =
    gave_found g.F.Fn c.args.f.now _ _ _ c.func.result.now _ c.call.new.view _ _ _ _ c.call.ensures.returns (search rules) (search rules) (search rules) (search rules) (search rules) (search rules)
    (search rules) (search rules) (search rules)
