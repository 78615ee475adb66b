use Rattle.canon_host.specs.Serves.{CallsBlank}
use Rattle.canon_host.proofs.Serving.{ask_entered}
use Rattle.canon_host.proofs.serve.serve_entered.Goals as goal

pub returns-in-Ok-clause-serves : goal.returns-in-Ok-clause-serves
returns-in-Ok-clause-serves g c =
    ask_entered (CallsBlank g.F.Fn c.args.f.now c.args.asked.now) g.G.Guest.seen g.G.Guest.moves c.args.asked.now c.args.core.now c.lift.new.core c.answer.new.core c.args.storage.now c.answer.new.storage c.in-Ok.params c.answer.result c.in-Ok.ensures.lifts c.answer.ensures.answers
