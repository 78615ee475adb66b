use Rattle.std.proofs.Common.{refl}
use Rattle.canon_text.proofs.Lanes.{below_by_mask}
use Rattle.canon_text.proofs.blocks.is_below.Goals as goal

pub returns : goal.returns
returns g c = below_by_mask 15 65535 c.args.limit g.row.N c.args.block refl c.requires.limit c.requires.lanes c.fits-block.0
