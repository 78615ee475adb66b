use Rattle.canon_replay_guest.proofs.Following.{moves_follow}
use Rattle.canon_replay_guest.proofs.laws.moves_follow.Goals as goal

pub returns : goal.returns
returns c = moves_follow
