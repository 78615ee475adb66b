use Rattle.canon_relay.specs.Relay.{IsNoBlockReply, IsNoReply}
use Rattle.canon_relay.proofs.Answering.{block_answered, handed_on}
use Rattle.canon_relay.proofs.Exchanges.{none_block}
use Rattle.canon_relay.proofs.relay.Relay.block.Goals as goal

pub returns-in_err-end-clause-relays : goal.returns-in_err-end-clause-relays
returns-in_err-end-clause-relays g c =
    handed_on _ _ _ c.args.memory.now.bytes IsNoReply IsNoBlockReply _ c.from_residual.result c.in_err-end.field-0.0 none_block c.from_residual.ensures c.in_err-end.ensures.stops

pub returns-clause-relays : goal.returns-clause-relays
returns-clause-relays g c =
    block_answered _ _ c.args.demand c.args.memory.now.bytes c.ask.new.memory.bytes c.in_ok-end.reply c.in_ok-end.end c.block_of.result c.in_ok-end.ensures.replied c.block_of.ensures.ok c.block_of.ensures.trap
