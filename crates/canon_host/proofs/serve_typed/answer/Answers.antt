use Rattle.canon_host.proofs.ServingTyped.{answered_err, answered_ok}
use Rattle.canon_host.proofs.serve_typed.answer.Goals as goal

pub returns-in-Ok-conclude-clause-answers : goal.returns-in-Ok-conclude-clause-answers
returns-in-Ok-conclude-clause-answers g c =
    let a = c.args in
    answered_ok g.F.Fn a.f.now g.P.Lift.reading g.R.ComponentType.walks g.R.Lower.gives g.G.Guest.seen g.G.Guest.moves a.asked.now a.core.now c.conclude.new.core a.params a.storage.now c.conclude.new.storage c.call-called.new.core c.in-Ok.results
    c.in-Ok.ensures.calls c.in-Ok-conclude.ensures.concludes

pub returns-clause-answers : goal.returns-clause-answers
returns-clause-answers g c =
    let a = c.args in
    answered_err g.F.Fn a.f.now g.P.Lift.reading g.R.ComponentType.walks g.R.Lower.gives g.G.Guest.seen g.G.Guest.moves a.asked.now a.core.now c.conclude.new.core a.params a.storage.now c.conclude.new.storage c.call-called.new.core c.in-Ok.results c.in-Err.fault
    c.in-Ok.ensures.calls c.in-Err.ensures.concludes
