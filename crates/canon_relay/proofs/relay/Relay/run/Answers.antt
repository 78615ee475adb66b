use Rattle.canon_relay.specs.Relay.{IsNoReply, IsNoStepReply}
use Rattle.canon_relay.proofs.Answering.{handed_on, step_answered}
use Rattle.canon_relay.proofs.Exchanges.{none_step}
use Rattle.canon_relay.proofs.relay.Relay.run.Goals as goal

pub returns-in_err-end-clause-relays : goal.returns-in_err-end-clause-relays
returns-in_err-end-clause-relays g c =
    handed_on _ _ _ c.args.memory.now.bytes IsNoReply IsNoStepReply _ c.from_residual.result c.in_err-end.field-0.0 none_step c.from_residual.ensures c.in_err-end.ensures.stops

pub returns-clause-relays : goal.returns-clause-relays
returns-clause-relays g c =
    step_answered _ _ c.args.demand c.args.words.now c.args.memory.now.bytes c.ask.new.memory.bytes c.in_ok-end.reply c.in_ok-end.end c.step_of.result c.in_ok-end.ensures.replied c.step_of.ensures.ok c.step_of.ensures.trap
