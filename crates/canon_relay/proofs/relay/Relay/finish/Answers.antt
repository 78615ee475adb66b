use Rattle.canon_relay.specs.Relay.{IsNoReply, IsNoDoneReply}
use Rattle.canon_relay.proofs.Answering.{ask_refused, handed_on}
use Rattle.canon_relay.proofs.Exchanges.{none_done}
use Rattle.canon_relay.proofs.relay.Relay.finish.Goals as goal

pub returns-in_err-end-clause-relays : goal.returns-in_err-end-clause-relays
returns-in_err-end-clause-relays g c =
    handed_on _ _ _ c.args.memory.now.bytes IsNoReply IsNoDoneReply _ c.from_residual.result c.in_err-end.field-0.0 none_done c.from_residual.ensures c.in_err-end.ensures.stops

pub returns-in-Ask-clause-relays : goal.returns-in-Ask-clause-relays
returns-in-Ask-clause-relays g c =
    ask_refused _ _ c.args.demand c.args.words.now c.args.memory.now.bytes c.ask.new.memory.bytes c.in_ok-end._reply c.in_ok-end.end c.in-Ask.is c.in_ok-end.ensures.replied
