use Rattle.canon_ledger.specs.Ledger.{enter}
use Rattle.canon_host.proofs.Serving.{with_ledger}
use Rattle.canon_host.proofs.ServingTyped.{served_typed}
use Rattle.canon_host.proofs.serve_typed.serve_typed.Goals as goal

pub returns-in-Ok-clause-serves : goal.returns-in-Ok-clause-serves
returns-in-Ok-clause-serves g c =
    let before = c.args.core.now in
    let mid = c.enter.new.self in
    served_typed g.F.Fn c.args.f.now g.P.Lift.reading g.R.ComponentType.walks g.R.Lower.gives g.G.Guest.seen g.G.Guest.moves c.args.asked.now before mid c.serve_entered.new.core c.args.storage.now c.serve_entered.new.storage c.serve_entered.result
    (with_ledger before mid (enter before.ledger) c.in-Ok.ensures.same c.in-Ok.ensures.ok.1) c.serve_entered.ensures.serves
