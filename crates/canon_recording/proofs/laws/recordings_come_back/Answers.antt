use Rattle.canon_recording.proofs.ComingBack.{recordings_come_back}
use Rattle.canon_recording.proofs.laws.recordings_come_back.Goals as goal

pub returns : goal.returns
returns c = recordings_come_back
