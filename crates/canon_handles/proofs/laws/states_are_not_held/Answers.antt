use Rattle.canon_handles.proofs.StateLemmas.{states_are_not_held}
use Rattle.canon_handles.proofs.laws.states_are_not_held.Goals as goal

pub returns : goal.returns
returns c = states_are_not_held
