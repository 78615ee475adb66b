use Rattle.std.proofs.Common.{arith, refl}
use Rattle.canon_text.proofs.Lanes.{below_by_mask}
use Rattle.canon_text.proofs.blocks.is_ascii.Goals as goal

pub returns : goal.returns
returns g c = below_by_mask 7 255 128 g.row.N c.args.block refl (omega arith) c.requires c.fits-block.0
