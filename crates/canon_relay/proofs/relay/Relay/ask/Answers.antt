use Rattle.std.proofs.Common.{length}
use Rattle.canon_memory.specs.declared.error.GuestFault.TheVariants as fault
use Rattle.canon_relay.specs.Relay.{IsNoReply}
use Rattle.canon_relay.specs.Wire.{demand_bytes}
use Rattle.canon_relay.proofs.Exchanges.{stops_unasked}
use Rattle.canon_relay.proofs.relay.Relay.ask.Goals as goal

pub returns-in_default-clause-stops : goal.returns-in_default-clause-stops
returns-in_default-clause-stops g c = stops_unasked _ (demand_bytes c.args.demand (length c.args.memory.now.bytes) c.args.words.now) c.args.memory.now.bytes IsNoReply fault.OutOfMemory
