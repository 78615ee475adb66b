use Rattle.canon_recording.proofs.Below.{none_below, one_below}
use Rattle.canon_recording.specs.Recordable.{IsFlatImport}
use Rattle.canon_recording.proofs.allowed.imports_are_flat.Goals as goal

pub loop-k-init : goal.loop-k-init
loop-k-init c = none_below (IsFlatImport c.args.c.now)

pub loop-k-preserved : goal.loop-k-preserved
loop-k-preserved c = one_below (IsFlatImport c.args.c.now) c.loop-k.k (c.is_flat_import.ensures.0 c.if-not-is_flat_import.false) c.loop-k.invariant
