use Rattle.std.proofs.Common.{rules}
use Rattle.canon_memory.proofs.Watch.{apart_tested}
use Rattle.canon_replay_guest.proofs.live.are_apart.Goals as goal

pub returns : goal.returns
returns c = apart_tested _ _ _ _ (search rules) (search rules)
