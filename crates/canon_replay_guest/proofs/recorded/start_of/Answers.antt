use Rattle.std.proofs.Common.{ap, sym, ◌∙◌}
use Rattle.canon_replay_guest.proofs.Doing.{no_start, not_at_start, starts_there}
use Rattle.canon_replay_guest.proofs.recorded.start_of.Goals as goal

pub returns-in-Start : goal.returns-in-Start
returns-in-Start c = c.len.ensures ∙ sym (c.loop-event.invariant
    ∙ starts_there c.args.events.now c.loop-event.event-index c.args.len c.event-item.result c.in-Start.func c.in-Start.words c.in-Start.memory c.loop-event-test.true c.event-item.is c.in-Start.is)

pub loop-event-preserved : goal.loop-event-preserved
loop-event-preserved c = c.loop-event.invariant ∙ not_at_start c.args.events.now c.loop-event.event-index c.args.len c.event-item.result c.loop-event-test.true c.event-item.is c.in_default.not-Start

pub returns : goal.returns
returns c = sym (c.loop-event.invariant ∙ no_start c.args.events.now c.loop-event.event-index c.args.len c.loop-event-test.false)
