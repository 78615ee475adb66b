use Rattle.std.proofs.Common.{Err, Ok, [], ap, subst, sym, ◌+◌, ◌∙◌}
use Rattle.canon_memory.specs.Realloc.{call}
use Rattle.canon_memory.specs.Journal.{answer_event}
use Rattle.canon_relay.specs.Relay.{Converses, Relaying}
use Rattle.canon_relay.specs.declared.counts.Counts.{Counts}
use Rattle.canon_relay.proofs.Blocks.{gave}
use Rattle.canon_relay.proofs.Exchanges.{stops_same, stops_unasked}
use Rattle.canon_relay.proofs.Moves.{realloc_converses}
use Rattle.canon_relay.proofs.relay.RelayGuest.realloc.Goals as goal

pub returns-in-Ok-clause-does : goal.returns-in-Ok-clause-does
returns-in-Ok-clause-does g c =
    let same = ap (λ r. r.counts) c.count_block.ensures ∙ ap (λ (k : Counts). record k { blocks = k.blocks + 1 }) c.block.ensures.counts in
    gave c.args.self.now c.count_block.new.self _ _ _ c.in-Ok.at same c.block.ensures.longer

pub returns-then-self-clause-moves : goal.returns-then-self-clause-moves
returns-then-self-clause-moves g c =
    rw c.count.ensures.channel (realloc_converses _ _ (call c.args.old c.args.old_size c.args.align c.args.new_size) c.args.memory.now.bytes [] (Err c.count.result) (stops_unasked _ _ _ _ _))

pub returns-in-Ok-clause-moves : goal.returns-in-Ok-clause-moves
returns-in-Ok-clause-moves g c =
    let asked = call c.args.old c.args.old_size c.args.align c.args.new_size in
    let moved = realloc_converses _ _ asked c.args.memory.now.bytes c.block.new.memory.bytes (Ok c.in-Ok.at) c.in-Ok.ensures.relays in
    rw c.count_block.ensures moved

pub returns-in-Err-clause-moves : goal.returns-in-Err-clause-moves
returns-in-Err-clause-moves g c =
    let asked = call c.args.old c.args.old_size c.args.align c.args.new_size in
    rw c.count-in-Err.ensures.channel (realloc_converses _ _ asked c.args.memory.now.bytes c.block.new.memory.bytes (Err c.count-in-Err.result) (stops_same _ _ _ _ _ _ _ c.count-in-Err.ensures.same c.in-Err.ensures.relays))

pub returns-in-Ok-clause-relays : goal.returns-in-Ok-clause-relays
returns-in-Ok-clause-relays g c = rw c.count_block.ensures c.in-Ok.ensures.relays

pub returns-in-Err-clause-relays : goal.returns-in-Err-clause-relays
returns-in-Err-clause-relays g c = rw c.count-in-Err.ensures.channel (stops_same _ _ _ _ _ _ _ c.count-in-Err.ensures.same c.in-Err.ensures.relays)

pub returns-then-self-clause-relays : goal.returns-then-self-clause-relays
returns-then-self-clause-relays g c = rw c.count.ensures.channel (stops_unasked _ _ _ _ _)
