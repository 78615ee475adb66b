use Rattle.canon_recording.proofs.Below.{none_below, one_below}
use Rattle.canon_recording.specs.Recordable.{IsPlain}
use Rattle.canon_recording.specs.Recordings.{exports_of}
use Rattle.canon_recording.proofs.allowed.exports_are_plain.Goals as goal

pub loop-k-init : goal.loop-k-init
loop-k-init c = none_below (IsPlain (exports_of c.args.c.now))

pub loop-k-preserved : goal.loop-k-preserved
loop-k-preserved c = one_below (IsPlain (exports_of c.args.c.now)) c.loop-k.k (c.is_plain_export.ensures.0 c.if-not-is_plain_export.false) c.loop-k.invariant
