use Rattle.std.proofs.Common.{[], ap, subst, ◌∙◌}
use Rattle.canon_relay.specs.Relay.{PassesMessages, RepliesDone}
use Rattle.canon_relay.specs.declared.demand.Demand.TheVariants as demand
use Rattle.canon_serve.proofs.begin.instantiated.Goals as goal

pub returns-in-Ok : goal.returns-in-Ok
returns-in-Ok g c =
    let log = g.E.Channel.log in
    let after = c.instantiate.new in
    record {
      passed = subst (λ e. PassesMessages (log e) (log after.self.channel) (RepliesDone demand.Instantiate [] c.args.memory.bytes after.memory.bytes)) (ap (λ r. r.channel) c.new-relay.ensures) c.in-Ok.ensures.relays;
      longer = c.in-Ok.ensures.longer;
      counts = c.in-Ok.ensures.counts ∙ ap (λ r. r.counts) c.new-relay.ensures;
      width = c.in-Ok.ensures.width;
    }
