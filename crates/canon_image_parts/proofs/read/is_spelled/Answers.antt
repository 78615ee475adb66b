use Rattle.canon_image_parts.proofs.Fetching.{only_bool}
use Rattle.canon_image_parts.proofs.read.is_spelled.Goals as goal

pub returns-in_default-clause-least : goal.returns-in_default-clause-least
returns-in_default-clause-least c = λ h e. absurd (c.in_default.not-Bool (only_bool c.args.ty.now e))
