use Rattle.std.proofs.Common.{rules}
use Rattle.canon_context.specs.Host.{StaticReturns}
use Rattle.canon_context.proofs.Hosting.{done_over}
use Rattle.canon_context.proofs.core_data.Core.host_call_static.Goals as goal

pub returns-clause-gave : goal.returns-clause-gave
returns-clause-gave g c =
    done_over (λ v w. StaticReturns g.F.Fn c.args.f.now v c.args.params c.call_static.result w) c.args.self.now _ _ c.call_static.new.view c.call_static.ensures.returns (search rules) (search rules)
    (search rules) (search rules) (search rules) (search rules) (search rules) (search rules)
