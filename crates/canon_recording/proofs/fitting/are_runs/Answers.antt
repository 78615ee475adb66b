use Rattle.canon_recording.proofs.Answering.{runs_decided}
use Rattle.canon_recording.specs.Recordings.{recorded_calls}
use Rattle.canon_recording.proofs.fitting.are_runs.Goals as goal

pub returns : goal.returns
returns c = runs_decided c.args.c.now (recorded_calls c.args.calls.now) c.first_no_run.result c.is_none.result c.is_none.ensures c.first_no_run.ensures.all c.first_no_run.ensures.first
