use Rattle.std.proofs.Common.{arith, get_or, refl}
use Rattle.canon_text.proofs.Pairs.{char_begins}
use Rattle.canon_text.proofs.units.char_at.Goals as goal

pub returns : goal.returns
returns c = char_begins c.args.src.now c.args.at (get_or c.args.src.now c.args.at 0) c.unit_at.result c.char_of.result c.requires refl (omega (arith, c.type_inv.src c.args.at)) c.unit_at.ensures c.char_of.ensures
