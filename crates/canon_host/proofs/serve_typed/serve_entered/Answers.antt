use Rattle.canon_host.proofs.ServingTyped.{entered_typed}
use Rattle.canon_host.proofs.serve_typed.serve_entered.Goals as goal

pub returns-in-Ok-clause-serves : goal.returns-in-Ok-clause-serves
returns-in-Ok-clause-serves g c =
    entered_typed g.F.Fn c.args.f.now g.P.Lift.reading g.R.ComponentType.walks g.R.Lower.gives g.G.Guest.seen g.G.Guest.moves c.args.asked.now c.args.core.now c.lift-lifted.new.core c.answer.new.core c.args.storage.now c.answer.new.storage c.in-Ok.params c.answer.result
    c.in-Ok.ensures.lifts c.answer.ensures.answers
