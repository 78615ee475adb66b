use Rattle.canon_recording.specs.Fits.{IsRecordedCallOf}
use Rattle.canon_recording.specs.Recordings.{exports_of, imports_of, recorded_calls}
use Rattle.canon_recording.proofs.Answering.{RestOf}
use Rattle.canon_recording.proofs.fitting.calls_fit.Given as goal

-- all fit where those that are left do
abbrev pub invariant-loop-call : goal.invariant-loop-call
invariant-loop-call l = RestOf (IsRecordedCallOf (exports_of l.c) (imports_of l.c)) (recorded_calls l.calls) l.call-index
