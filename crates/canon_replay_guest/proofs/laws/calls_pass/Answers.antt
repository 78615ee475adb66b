use Rattle.canon_replay_guest.proofs.Passing.{chain_passes}
use Rattle.canon_replay_guest.proofs.laws.calls_pass.Goals as goal

pub returns : goal.returns
returns c = chain_passes
