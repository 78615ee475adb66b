use Rattle.canon_recording.proofs.Decoded.{decoded_fits}
use Rattle.canon_recording.proofs.Telling.{same_decoding}
use Rattle.canon_recording.proofs.decoding.decode.Goals as goal

pub returns-clause-only : goal.returns-clause-only
returns-clause-only c = λ other h. same_decoding c.args.c.now c.args.bytes.now c.decode_runs.result other c.decode_runs.ensures.is h

pub returns-clause-fits : goal.returns-clause-fits
returns-clause-fits c = decoded_fits c.args.c.now c.args.bytes.now c.decode_runs.result c.decode_runs.ensures.is
