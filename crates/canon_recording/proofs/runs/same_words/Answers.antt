use Rattle.canon_recording.proofs.Staging.{same_list}
use Rattle.canon_recording.proofs.runs.same_words.Goals as goal

pub returns : goal.returns
returns c = same_list c.eq.result c.args.words.now c.args.others.now c.eq.ensures
