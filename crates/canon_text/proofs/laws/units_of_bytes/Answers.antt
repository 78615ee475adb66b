use Rattle.canon_text.proofs.Decoded.{units_of_bytes}
use Rattle.canon_text.proofs.laws.units_of_bytes.Goals as goal

pub returns : goal.returns
returns c = units_of_bytes
