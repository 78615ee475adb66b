use Rattle.std.proofs.Common.{ap, option_map, refl}
use Rattle.canon_cli.specs.Program.{conversions}
use Rattle.canon_cli.proofs.program.perform_conversions.Goals as goal

pub returns-in-Ok-clause-done : goal.returns-in-Ok-clause-done
returns-in-Ok-clause-done c = let d = c.in-Ok.ensures.lines in (conversions d.0, ap (option_map (λ x. conversions x)) d.1, (refl, d.2))
