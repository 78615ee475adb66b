use Rattle.canon_host.specs.Serves.{EndsAsk}
use Rattle.canon_host.specs.ServesTyped.{LowersTyped}
use Rattle.canon_host.proofs.Serving.{concluded, not_ended}
use Rattle.canon_host.proofs.serve_typed.conclude.Goals as goal

pub returns-in-Ok-clause-concludes : goal.returns-in-Ok-clause-concludes
returns-in-Ok-clause-concludes g c =
    concluded (EndsAsk g.G.Guest.seen g.G.Guest.moves c.args.asked.now)
    (LowersTyped g.G.Guest.seen g.G.Guest.moves g.R.ComponentType.walks g.R.Lower.gives c.args.asked.now) c.args.asked.now c.args.core.now c.end_ask.new.core c.lower.new.core c.in-Ok.at c.args.results.now c.args.storage.now c.lower.new.storage c.lower.result
    c.in-Ok.ensures.ends c.lower.ensures.lowers c.lower.ensures.rest

pub returns-in-Err-clause-concludes : goal.returns-in-Err-clause-concludes
returns-in-Err-clause-concludes g c =
    not_ended (EndsAsk g.G.Guest.seen g.G.Guest.moves c.args.asked.now)
    (LowersTyped g.G.Guest.seen g.G.Guest.moves g.R.ComponentType.walks g.R.Lower.gives c.args.asked.now) c.args.asked.now c.args.core.now c.end_ask.new.core c.args.results.now c.args.storage.now c.in-Err.fault c.in-Err.ensures.ends
