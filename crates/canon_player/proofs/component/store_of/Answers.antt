use Rattle.std.proofs.Common.{refl}
use Rattle.canon_player.proofs.component.store_of.Goals as goal

pub returns : goal.returns
returns c = rw c.new-4.ensures (rw c.in_ok-core.ensures (rw c.new-guest.ensures (rw c.new-2.ensures (rw c.in-Ok.ensures.zeros (rw c.from_u64-id.ensures refl)))))
