use Rattle.canon_memory.specs.declared.error.GuestFault.TheVariants as fault
use Rattle.canon_relay.specs.Relay.{IsNoReply}
use Rattle.canon_relay.proofs.Exchanges.{replied_by, stops_cut, stops_refused, stops_unlent}
use Rattle.canon_relay.proofs.exchange.exchange.Goals as goal

pub returns-in-Err-clause-stops : goal.returns-in-Err-clause-stops
returns-in-Err-clause-stops g c =
    stops_unlent _ _ _ c.grown_of.result c.args.asked.now c.args.memory.now.bytes _ c.in-Some.reply IsNoReply _ c.in-Some.ensures.replied.1 c.in-Some.ensures.replied.0 c.grown_of.ensures c.in-Err.ensures.none c.in-Err.ensures.some

pub returns-in-Ok-clause-replied : goal.returns-in-Ok-clause-replied
returns-in-Ok-clause-replied g c =
    replied_by _ _ _ _ c.grown_of.result c.args.asked.now c.args.memory.now.bytes _ c.lengthen.new.memory.bytes c.in-Some.reply c.in-Some.ensures.replied.0 c.grown_of.ensures c.in_default-lengthen.ensures.lent c.in-Ok.ensures.ok c.in-Some.ensures.replied.1

pub returns-in-Err-end_of-clause-stops : goal.returns-in-Err-end_of-clause-stops
returns-in-Err-end_of-clause-stops g c =
    stops_refused _ _ _ c.grown_of.result c.args.asked.now c.args.memory.now.bytes _ c.in-Some.reply c.lengthen.new.memory.bytes IsNoReply _ c.in-Some.ensures.replied.1 c.in-Some.ensures.replied.0 c.grown_of.ensures c.in_default-lengthen.ensures.lent.0 c.in-Err-end_of.ensures.trap

pub returns-in_default-clause-stops : goal.returns-in_default-clause-stops
returns-in_default-clause-stops g c = stops_cut _ _ c.args.asked.now c.args.memory.now.bytes IsNoReply fault.Trap c.in_default.ensures.stops
