use Rattle.canon_replay_guest.proofs.Fitting as proof
use Rattle.canon_replay_guest.proofs.laws.never_unfit.Goals as goal

pub returns : goal.returns
returns c = proof.never_unfit
