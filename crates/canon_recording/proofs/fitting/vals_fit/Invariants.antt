use Rattle.canon_recording.proofs.Answering.{RestAre}
use Rattle.canon_recording.proofs.fitting.vals_fit.Given as goal

-- all are of their types where those that are left are
abbrev pub invariant-loop-k : goal.invariant-loop-k
invariant-loop-k l = RestAre l.types l.tys l.vals l.k
