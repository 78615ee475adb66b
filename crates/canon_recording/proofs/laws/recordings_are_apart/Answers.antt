use Rattle.canon_recording.proofs.Sound.{recordings_are_apart}
use Rattle.canon_recording.proofs.laws.recordings_are_apart.Goals as goal

pub returns : goal.returns
returns c = recordings_are_apart
