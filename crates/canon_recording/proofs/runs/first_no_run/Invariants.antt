use Rattle.canon_recording.proofs.Playing.{AreSoFar}
use Rattle.canon_recording.specs.Recordings.{recorded_calls}
use Rattle.canon_recording.proofs.runs.first_no_run.Given as goal

-- the first k are runs
abbrev pub invariant-loop-k : goal.invariant-loop-k
invariant-loop-k l = record {
  runs : AreSoFar l.c (recorded_calls l.calls) l.k l.len;
}
