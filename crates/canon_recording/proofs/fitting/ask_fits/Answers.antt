use Rattle.std.proofs.Common.{arith}
use Rattle.canon_recording.proofs.Staging.{none}
use Rattle.canon_recording.proofs.fitting.ask_fits.Goals as goal

pub returns-then-from-import_count : goal.returns-then-from-import_count
returns-then-from-import_count c = record { decides = none (λ of. omega (arith, of.known, c.if-from-import_count.true)) }
