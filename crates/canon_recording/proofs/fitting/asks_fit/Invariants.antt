use Rattle.canon_recording.specs.Fits.{IsServedAskOf}
use Rattle.canon_recording.specs.Recordings.{imports_of, served_asks}
use Rattle.canon_recording.proofs.Answering.{RestOf}
use Rattle.canon_recording.proofs.fitting.asks_fit.Given as goal

-- all fit where those that are left do
abbrev pub invariant-loop-ask : goal.invariant-loop-ask
invariant-loop-ask l = RestOf (IsServedAskOf (imports_of l.c)) (served_asks l.asks) l.ask-index
