use Rattle.canon_replay.proofs.Same as proof
use Rattle.canon_replay.proofs.laws.same_tells_recorded.Goals as goal

pub returns : goal.returns
returns c = proof.same_tells_recorded
