use Rattle.std.proofs.Common.{Err, Ok}
use Rattle.canon_relay.proofs.Exchanges.{stops_same}
use Rattle.canon_relay.proofs.Moves.{start_converses}
use Rattle.canon_relay.proofs.relay.RelayGuest.start.Goals as goal

pub returns-in-Ok-clause-moves : goal.returns-in-Ok-clause-moves
returns-in-Ok-clause-moves g c = start_converses _ _ c.args.func c.args.words.now c.args.memory.now.bytes c.run.new.memory.bytes (Ok c.in-Ok.step) c.in-Ok.ensures.relays

pub returns-in-Err-clause-moves : goal.returns-in-Err-clause-moves
returns-in-Err-clause-moves g c = rw c.count.ensures.channel
    (start_converses _ _ c.args.func c.args.words.now c.args.memory.now.bytes c.run.new.memory.bytes (Err c.count.result) (stops_same _ _ _ _ _ _ _ c.count.ensures.same c.in-Err.ensures.relays))

pub returns-in-Err-clause-relays : goal.returns-in-Err-clause-relays
returns-in-Err-clause-relays g c = rw c.count.ensures.channel (stops_same _ _ _ _ _ _ _ c.count.ensures.same c.in-Err.ensures.relays)
