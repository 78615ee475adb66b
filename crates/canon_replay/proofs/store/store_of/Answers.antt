use Rattle.std.proofs.Common.{ap}
use Rattle.canon_recording.specs.Recordings.{served_asks}
use Rattle.canon_replay.proofs.Storing.{new_store}
use Rattle.canon_replay.proofs.store.store_of.Goals as goal

pub returns-in-Ok-new-clause-new : goal.returns-in-Ok-new-clause-new
returns-in-Ok-new-clause-new c =
    new_store c.args.c c.args.events.items (served_asks c.args.asks.items) c.args.fuel c.args.turns c.from_u64-id.result c.new-guest.result c.new-imports.result c.in-Ok-new.core c.new-in-Ok-new.result c.new-in-Ok-new.ensures
    (rw c.in-Ok.ensures.zeros at c.in-Ok-new.ensures) (rw c.new-2.ensures at c.new-guest.ensures) (ap (λ v. served_asks v.items) c.new-imports.ensures.asks) c.new-imports.ensures.lines c.new-imports.ensures.refusals
