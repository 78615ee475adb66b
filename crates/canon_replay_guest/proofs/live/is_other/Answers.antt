use Rattle.std.proofs.Common.{rules}
use Rattle.canon_replay_guest.proofs.Blocks.{other_else}
use Rattle.canon_replay_guest.proofs.live.is_other.Goals as goal

pub returns-else-is_same : goal.returns-else-is_same
returns-else-is_same c = other_else c.args.old c.args.new c.args.b c.are_apart.result (search rules) c.are_apart.ensures
