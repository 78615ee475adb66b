-- What passed over a channel in memory.
use Rattle.canon_relay.specs.Channel.{Message, heard, lent, told}
use Rattle.canon_relay.specs.declared.memory_channel.Said.{Said}
use Rattle.canon_relay.specs.declared.memory_channel.Said.TheVariants as kept

abbrev pub said : Said → Message
said (kept.Told bytes) = told bytes.items
said (kept.Heard bytes) = heard bytes.items
said (kept.Lent before after) = lent before.items after.items
